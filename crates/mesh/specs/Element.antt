-- The linear triangle (the P1 element) of mesh/laplace.rs and mesh/gradient.rs: the slopes of its corners' shape functions and twice its area. Definitions only. Assumes nothing.
use Rattle.std.specs.Prelude.{Float}
use Rattle.std.specs.Float.{binary64}
use Rattle.std.specs.Float.Ieee.{of_bits}
use Rattle.binary64.specs.Arith.{◌⊖◌, ◌⊗◌}
use Rattle.plane.specs.declared.Point.{Point}
use Rattle.mesh.specs.declared.Slope.{Slope}

-- 1e-30, the threshold of a run: a triangle of less twice its area is skipped
abbrev pub flat : Float
flat = of_bits binary64 0x39b4_484b_feeb_c2a0

-- The gradient of a corner's shape function times twice the area, from the ends p, q of the edge that faces the corner.
abbrev pub slope : Point → Point → Slope
slope p q = record { b = p.y ⊖ q.y; c = q.x ⊖ p.x }

-- twice the signed area, from the slopes of the first two corners
abbrev pub area2 : Slope → Slope → Float
area2 si sj = si.b ⊗ sj.c ⊖ sj.b ⊗ si.c
