-- The gradient of a linear field on a triangle, as mesh/gradient.rs orders its operations. Definitions only. Assumes nothing.
use Rattle.std.specs.Prelude.{ℕ, List, [], ◌∷◌, get_or, Float}
use Rattle.std.specs.Float.{nan}
use Rattle.std.specs.Float.Ieee.{lt}
use Rattle.binary64.specs.Arith.{◌⊕◌, ◌⊗◌, ◌⊘◌}
use Rattle.binary64.specs.Constants.{plus_zero}
use Rattle.binary64.specs.Number.{pick, abs_of}
use Rattle.plane.specs.declared.Point.{Point}
use Rattle.plane.specs.Plane.{point}
use Rattle.mesh.specs.Mesh.{vertex, corner}
use Rattle.mesh.specs.Element.{slope, area2}

-- The field that is ui, uj, uk at the corners vi, vj, vk of a triangle; (0, 0) where twice its area is below `flat` in magnitude.
unfoldable pub triangle_gradient : Float → Point → Point → Point → Float → Float → Float → Point
triangle_gradient flat vi vj vk ui uj uk =
    let si = slope vj vk in
    let sj = slope vk vi in
    let sk = slope vi vj in
    let area = area2 si sj in
    pick (lt (abs_of area) flat) (point plus_zero plus_zero)
    (point ((si.b ⊗ ui ⊕ sj.b ⊗ uj ⊕ sk.b ⊗ uk) ⊘ area) ((si.c ⊗ ui ⊕ sj.c ⊗ uj ⊕ sk.c ⊗ uk) ⊘ area))

-- The field u on the triangle of vertices i, j, k.
unfoldable pub gradient_of : Float → List Float → List Float → ℕ → ℕ → ℕ → Point
gradient_of flat vs us i j k = triangle_gradient flat (vertex vs i) (vertex vs j) (vertex vs k) (get_or us i nan) (get_or us j nan) (get_or us k nan)

-- The field u on triangle t.
unfoldable pub gradient_on : Float → List Float → List Float → List ℕ → ℕ → Point
gradient_on flat vs us ts t = gradient_of flat vs us (corner ts t 0) (corner ts t 1) (corner ts t 2)

-- x and y of each triangle's, in order
unfoldable pub gradients : Float → List Float → List Float → List ℕ → List Float
gradients flat vs us [] = []
gradients flat vs us (i ∷ []) = []
gradients flat vs us (i ∷ j ∷ []) = []
gradients flat vs us (i ∷ j ∷ k ∷ ts) = let g = gradient_of flat vs us i j k in g.x ∷ g.y ∷ gradients flat vs us ts
