-- One crossing of a triangle (mesh/pde.rs, the loop of `trace_spiral`; document 01, Crossing): along the level line turned outward by the step. Definitions only. Assumes nothing.
use Rattle.std.specs.Prelude.{ℕ, ◌+◌, ◌*◌, List, Option, Some, None, Ok, Err, eqb, get_or, Float}
use Rattle.std.specs.Float.{nan, binary64}
use Rattle.std.specs.Float.Ieee.{of_bits, neg, lt}
use Rattle.binary64.specs.Arith.{◌⊕◌, ◌⊗◌, ◌⊘◌}
use Rattle.binary64.specs.Constants.{two}
use Rattle.binary64.specs.Number.{pick, ceil_count}
use Rattle.binary64.specs.Root.{root}
use Rattle.plane.specs.declared.Point.{Point}
use Rattle.plane.specs.Plane.{point, interpolated}
use Rattle.mesh.specs.Mesh.{vertex, corner, neighbour, no_neighbour}
use Rattle.pde.specs.declared.Exit.{Exit}
use Rattle.pde.specs.declared.Side.{Side}
use Rattle.pde.specs.declared.Barrier.{Barrier}
use Rattle.pde.specs.declared.Halt.{Halt}
use Rattle.pde.specs.declared.Rule.{Rule}
use Rattle.pde.specs.Outcome.{Beyond, Crossing}
use Rattle.pde.specs.Exit.{distance, exit_edge, entry_edge, cut_match}

-- PI (document 01, Stand-ins)
abbrev pub pi : Float
pi = of_bits binary64 0x4009_21fb_5444_2d18

-- the gradient of triangle t, and its magnitude
unfoldable pub gradient_at : List Float → ℕ → Point
gradient_at gs t = point (get_or gs (2 * t) nan) (get_or gs (2 * t + 1) nan)

unfoldable pub magnitude : Point → Float
magnitude g = root (g.x ⊗ g.x ⊕ g.y ⊗ g.y)

-- The unit gradient turned a quarter, plus step · mag / 2π of the unit gradient.
unfoldable pub direction : Float → Point → Float → Point
direction step g mag =
    let nx = g.x ⊘ mag in
    let ny = g.y ⊘ mag in
    let alpha = step ⊗ mag ⊘ (two ⊗ pi) in
    point (neg ny ⊕ alpha ⊗ nx) (nx ⊕ alpha ⊗ ny)

-- the field at p, interpolated in triangle t
unfoldable pub value_in : List Float → List ℕ → List Float → ℕ → Point → Float
value_in vs ts us t p =
    let a = corner ts t 0 in
    let b = corner ts t 1 in
    let c = corner ts t 2 in
    interpolated p (vertex vs a) (vertex vs b) (vertex vs c) (get_or us a nan) (get_or us b nan) (get_or us c nan)

-- into a side's triangle by its edge, unless the field at p is above the threshold there
unfoldable pub entering : Float → List Float → List ℕ → List Float → Point → Option Side → Barrier → Beyond
entering above vs ts us p (Some s) other = pick (lt above (value_in vs ts us s.triangle p)) (Err Barrier.Above) (Ok s)
entering above vs ts us p None other = Err other

-- the edge that is entered beyond edge e of triangle t: over a cut edge, or the neighbour's edge that names us back
unfoldable pub entered : List ℕ → List ℕ → ℕ → ℕ → ℕ → Option Side
entered ts ns count t e = let next = neighbour ns t e in pick (eqb next no_neighbour) (cut_match ts ns count t e) (entry_edge ns next t)

-- where none is: the border, or a neighbour that does not name us back
unfoldable pub unentered : ℕ → Barrier
unentered next = pick (eqb next no_neighbour) Barrier.Border Barrier.Unnamed

-- beyond edge e of triangle t, left at p
unfoldable pub beyond : Float → List Float → List ℕ → List ℕ → ℕ → List Float → ℕ → ℕ → Point → Beyond
beyond above vs ts ns count us t e p = entering above vs ts us p (entered ts ns count t e) (unentered (neighbour ns t e))

-- in how many pieces the way from p to q is laid, each no longer than the spacing
unfoldable pub pieces : Float → Point → Point → ℕ
pieces spacing p q = ceil_count (distance p q ⊘ spacing)

abbrev pub left : Rule → List Float → List ℕ → List ℕ → ℕ → List Float → Point → ℕ → Option Exit → Crossing
left rule vs ts ns count us pos t (Some x) = Ok (record { point = x.point; pieces = pieces rule.spacing pos x.point; beyond = beyond rule.above vs ts ns count us t x.edge x.point })
left rule vs ts ns count us pos t None = Err Halt.Stuck

-- what crossing triangle t from pos, entered by an edge, comes to where g is its gradient
unfoldable pub crossing_along : Rule → List Float → List ℕ → List ℕ → ℕ → List Float → Point → Float → Point → ℕ → ℕ → Crossing
crossing_along rule vs ts ns count us g step pos t entry =
    let mag = magnitude g in
    pick (lt mag rule.dull) (Err Halt.Dull) (left rule vs ts ns count us pos t (exit_edge rule.dull vs ts t pos (direction step g mag) entry))

-- the same where gs has the gradients of all triangles
unfoldable pub crossing : Rule → List Float → List ℕ → List ℕ → ℕ → List Float → List Float → Float → Point → ℕ → ℕ → Crossing
crossing rule vs ts ns count us gs step pos t entry = crossing_along rule vs ts ns count us (gradient_at gs t) step pos t entry
