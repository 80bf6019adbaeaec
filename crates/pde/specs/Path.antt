-- The points of a crossing, their coordinates in a row, the room rule and the ends of the path (document 01, Crossing), and a path's length. Definitions only. Assumes nothing.
use Rattle.std.specs.Prelude.{ℕ, zero, suc, ◌+◌, ◌-◌, Bool, List, [], ◌∷◌, ◌++◌, Ok, Err, ltb, pos, Float}
use Rattle.std.specs.Float.{binary64}
use Rattle.std.specs.Float.Ieee.{of_int}
use Rattle.binary64.specs.Arith.{◌⊕◌, ◌⊖◌, ◌⊗◌, ◌⊘◌}
use Rattle.binary64.specs.Constants.{plus_zero}
use Rattle.binary64.specs.Number.{pick}
use Rattle.plane.specs.declared.Point.{Point}
use Rattle.plane.specs.Plane.{point}
use Rattle.pde.specs.declared.Barrier.{Barrier}
use Rattle.pde.specs.declared.Walk.{Walk}
use Rattle.pde.specs.Outcome.{Beyond, Crossing, halt_number, barrier_number}
use Rattle.pde.specs.Exit.{distance}

-- ---- points as floats

-- how many floats a point takes
abbrev pub point_floats : ℕ
point_floats = 2

-- x and y of each point, one point after the other
unfoldable pub coordinates_of : List Point → List Float
coordinates_of [] = []
coordinates_of (p ∷ ps) = p.x ∷ p.y ∷ coordinates_of ps

-- ---- the points of a crossing

-- the point i of n parts from p on the way by (dx, dy)
unfoldable pub part_way : Point → Float → Float → ℕ → ℕ → Point
part_way p dx dy n i =
    let t = of_int binary64 (pos i) ⊘ of_int binary64 (pos n) in
    point (p.x ⊕ t ⊗ dx) (p.y ⊕ t ⊗ dy)

-- the first k points of n parts from p on the way by (dx, dy): 1, 2, .., k
unfoldable pub along : Point → Float → Float → ℕ → ℕ → List Point
along p dx dy n zero = []
along p dx dy n (suc k) = along p dx dy n k ++ (part_way p dx dy n (suc k) ∷ [])

-- those between p and q
unfoldable pub between : Point → Point → ℕ → ℕ → List Point
between p q n k = along p (q.x ⊖ p.x) (q.y ⊖ p.y) n k

-- the exit is put down by end 5 alone
unfoldable pub closing : Point → Beyond → List Point
closing q (Err Barrier.Border) = []
closing q (Err Barrier.Unnamed) = []
closing q (Err Barrier.Above) = q ∷ []
closing q (Ok s) = []

abbrev pub closes : Beyond → ℕ
closes (Err Barrier.Border) = 0
closes (Err Barrier.Unnamed) = 0
closes (Err Barrier.Above) = 1
closes (Ok s) = 0

-- ---- the path after a crossing

-- the same place, with an end
abbrev pub ended : Walk → ℕ → Walk
ended w e = record { position = w.position; triangle = w.triangle; edge = w.edge; points = w.points; end = e }

abbrev pub with_points : Walk → ℕ → ℕ → Walk
with_points w k e = record { position = w.position; triangle = w.triangle; edge = w.edge; points = w.points + k; end = e }

-- Ends 3, 4, 5; or on into the next triangle, with end 6 where this was the last crossing.
abbrev pub gone : Bool → Walk → Point → Beyond → ℕ → Walk
gone last w q (Err b) k = with_points w k (barrier_number b)
gone last w q (Ok s) k = record { position = q; triangle = s.triangle; edge = s.edge; points = w.points + k; end = pick last 6 0 }

-- how many points a crossing adds
abbrev pub adds : Crossing → ℕ
adds (Err h) = 0
adds (Ok l) = l.pieces - 1 + closes l.beyond

-- its points, where they fit the room
abbrev pub added : ℕ → Walk → Crossing → List Point
added room w (Err h) = []
added room w (Ok l) = pick (ltb room (w.points + (l.pieces - 1 + closes l.beyond))) [] (between w.position l.point l.pieces (l.pieces - 1) ++ closing l.point l.beyond)

-- Ends 1 and 2; 7 where the points would bring the path above the room, with nothing else changed; else on.
unfoldable pub walked : ℕ → Bool → Walk → Crossing → Walk
walked room last w (Err h) = ended w (halt_number h)
walked room last w (Ok l) =
    let k = l.pieces - 1 + closes l.beyond in
    pick (ltb room (w.points + k)) (ended w 7) (gone last w l.point l.beyond k)

-- ---- length

-- the distances of successive points, summed from the left; a number without its pair is not a point
unfoldable pub length_from : Float → Point → List Float → Float
length_from sum p [] = sum
length_from sum p (x ∷ []) = sum
length_from sum p (x ∷ y ∷ path) = length_from (sum ⊕ distance p (point x y)) (point x y) path

unfoldable pub length_of : List Float → Float
unfolding length_from
length_of [] = plus_zero
length_of (x ∷ []) = plus_zero
length_of (x ∷ y ∷ path) = length_from plus_zero (point x y) path
