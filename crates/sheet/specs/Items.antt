-- The items of a sheet through the part where a section's items start (document 01, section Sheet). Where there is no such item the answer is 0. Definitions only.
-- Assumes nothing.
use Rattle.std.specs.Prelude.{ℕ, ◌+◌, ◌*◌, ◌/◌, List, ltb, length, drop, Float}
use Rattle.std.specs.Float.{binary64}
use Rattle.std.specs.Float.Ieee.{of_bits, nan_bits}
use Rattle.binary64.specs.Constants.{plus_zero}
use Rattle.binary64.specs.Number.{pick}
use Rattle.plane.specs.Plane.{point}
use Rattle.plane.specs.declared.Point.{Point}
use Rattle.format.specs.Bytes.{number}
use Rattle.sheet.specs.declared.items.Triple.{Triple}

-- the number of a pattern; a NaN's gives +0
abbrev pub real_in : ℕ → Float
real_in bits = pick (nan_bits binary64 bits) plus_zero (of_bits binary64 bits)

unfoldable pub vertex_in : List ℕ → ℕ → Point
vertex_in part i =
    pick (ltb i (length part / 16))
    (point (real_in (number 8 (drop (16 * i) part))) (real_in (number 8 (drop (16 * i + 8) part))))
    (point plus_zero plus_zero)

-- the k-th coordinate
unfoldable pub coordinate_in : List ℕ → ℕ → Float
coordinate_in part k = pick (ltb k (length part / 8)) (real_in (number 8 (drop (8 * k) part))) plus_zero

unfoldable pub whole_in : List ℕ → ℕ → ℕ
whole_in part i = pick (ltb i (length part / 4)) (number 4 (drop (4 * i) part)) 0

abbrev pub triple : ℕ → ℕ → ℕ → Triple
triple a b c = record { a = a; b = b; c = c }

unfoldable pub corners_in : List ℕ → ℕ → Triple
corners_in part t = pick (ltb t (length part / 12)) (triple (whole_in part (3 * t)) (whole_in part (3 * t + 1)) (whole_in part (3 * t + 2))) (triple 0 0 0)
