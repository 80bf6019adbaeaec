-- The plane geometry of geo/algo/intersect.rs, geo/algo/interp.rs and mesh/pde.rs: every operation rounds once (IEEE 754-2019, 5.4.1), in the order written here,
-- and a comparison with a NaN is false (5.11). Definitions only. Assumes nothing.
use Rattle.std.specs.Prelude.{Bool, not, ◌&&◌, ◌||◌, Option, Some, None, Float}
use Rattle.std.specs.Float.Ieee.{neg, lt, le}
use Rattle.binary64.specs.Arith.{◌⊕◌, ◌⊖◌, ◌⊗◌, ◌⊘◌}
use Rattle.binary64.specs.Constants.{plus_zero, one, three, tiny, small, one_and_small}
use Rattle.binary64.specs.Number.{pick, abs_of, clamp_of, at_least}
use Rattle.plane.specs.declared.Point.{Point}
use Rattle.plane.specs.declared.Weights.{Weights}

abbrev pub point : Float → Float → Point
point x y = record { x = x; y = y }

-- the difference of two points
unfoldable pub minus : Point → Point → Point
minus p q = point (p.x ⊖ q.x) (p.y ⊖ q.y)

-- x·x' + y·y'
unfoldable pub dot_of : Point → Point → Float
dot_of p q = p.x ⊗ q.x ⊕ p.y ⊗ q.y

unfoldable pub length_squared : Point → Float
unfolding dot_of
length_squared p = dot_of p p

-- On which side of the line from a to b the point p lies: twice the signed area of p, a, b.
unfoldable pub sign_of : Point → Point → Point → Float
sign_of p a b = (p.x ⊖ b.x) ⊗ (a.y ⊖ b.y) ⊖ (a.x ⊖ b.x) ⊗ (p.y ⊖ b.y)

-- p is not strictly on both sides of the triangle's edges.
unfoldable pub point_in_triangle : Point → Point → Point → Point → Bool
unfolding sign_of
point_in_triangle p a b c =
    let d1 = sign_of p a b in
    let d2 = sign_of p b c in
    let d3 = sign_of p c a in
    not ((lt d1 plus_zero || lt d2 plus_zero || lt d3 plus_zero) && (lt plus_zero d1 || lt plus_zero d2 || lt plus_zero d3))

-- The ray from `origin` along `dir` meets the segment from a to b in the point at t, if t is not at most 1e-12 and its projection on the segment is from −1e-12 to 1 + 1e-12.
-- The normal of the segment is (ey, −ex).
abbrev pub on_segment : Point → Float → Point → Point → Option Point
on_segment at len2 e a =
    let proj = dot_of (minus at a) e ⊘ len2 in
    pick (le (neg small) proj && le proj one_and_small) (Some at) None

abbrev pub along_ray : Point → Point → Float → Float → Point → Point → Option Point
along_ray origin dir t len2 e a = pick (le t small) None (on_segment (point (origin.x ⊕ t ⊗ dir.x) (origin.y ⊕ t ⊗ dir.y)) len2 e a)

unfoldable pub ray_line_intersection : Point → Point → Point → Point → Option Point
unfolding minus dot_of length_squared
ray_line_intersection origin dir a b =
    let e = minus b a in
    let len2 = length_squared e in
    let normal = point e.y (neg e.x) in
    let ndotd = dot_of normal dir in
    pick (lt len2 tiny) None (pick (lt (abs_of ndotd) tiny) None (along_ray origin dir (dot_of normal (minus a origin) ⊘ ndotd) len2 e a))

-- The barycentric weights of p in the triangle va, vb, vc, unclamped; all +0 where the triangle is flat.
abbrev pub weights : Float → Float → Float → Weights
weights r s t = record { r = r; s = s; t = t }

unfoldable pub barycentric_weights : Point → Point → Point → Point → Weights
unfolding minus dot_of length_squared
barycentric_weights p va vb vc =
    let v0 = minus vc va in
    let v1 = minus vb va in
    let v2 = minus p va in
    let d00 = length_squared v0 in
    let d01 = dot_of v0 v1 in
    let d11 = length_squared v1 in
    let d20 = dot_of v2 v0 in
    let d21 = dot_of v2 v1 in
    let denom = d00 ⊗ d11 ⊖ d01 ⊗ d01 in
    let inv = one ⊘ denom in
    let s = (d00 ⊗ d21 ⊖ d01 ⊗ d20) ⊗ inv in
    let t = (d11 ⊗ d20 ⊖ d01 ⊗ d21) ⊗ inv in
    pick (lt (abs_of denom) tiny) (weights plus_zero plus_zero plus_zero) (weights (one ⊖ s ⊖ t) s t)

-- The value at p of the field that is ua, ub, uc at the corners: their mean where the weights sum to less than 1e-24, else their mean by the clamped weights.
abbrev pub weighted : Weights → Float → Float → Float → Float
weighted w ua ub uc =
    let r = clamp_of w.r in
    let s = clamp_of w.s in
    let t = clamp_of w.t in
    pick (lt (abs_of (w.r ⊕ w.s ⊕ w.t)) tiny) ((ua ⊕ ub ⊕ uc) ⊘ three) ((r ⊗ ua ⊕ s ⊗ ub ⊕ t ⊗ uc) ⊘ at_least tiny (r ⊕ s ⊕ t))

unfoldable pub interpolated : Point → Point → Point → Point → Float → Float → Float → Float
interpolated p va vb vc ua ub uc = weighted (barycentric_weights p va vb vc) ua ub uc
