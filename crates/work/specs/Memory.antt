-- What a pass, passes in a row and the way to another place do to the lent buffers, whatever they hold. Definitions only. Assumes nothing.
use Rattle.std.specs.Prelude.{ℕ, zero, suc, ◌+◌, ◌-◌, ◌*◌, ◌&&◌, not, List, [], ◌∷◌, ◌++◌, leb, ltb, eqb, take, drop, replicate, Float, Option, Some, None}
use Rattle.binary64.specs.Constants.{plus_zero}
use Rattle.binary64.specs.Number.{pick}
use Rattle.binary64.specs.Root.{root}
use Rattle.stretch.specs.Stretch.{part, splice}
use Rattle.sparse.specs.Stored.{matrix}
use Rattle.mesh.specs.Element.{flat}
use Rattle.conjugate.specs.Solver as Solver
use Rattle.conjugate.specs.Solver.{Solve, Turn, halted, reached, moved, begun}
use Rattle.gradient.specs.Gradient.{gradients}
use Rattle.plane.specs.declared.Point.{Point}
use Rattle.pde.specs.declared.Walk.{Walk}
use Rattle.pde.specs.Outcome.{Crossing}
use Rattle.pde.specs.Start.{triangle_containing, pick_start}
use Rattle.pde.specs.Crossing.{crossing}
use Rattle.pde.specs.Path.{point_floats, coordinates_of, ended, walked, added}
use Rattle.model.specs.Space.{factor}
use Rattle.model.specs.SolvedPlace.{solved_at}
use Rattle.model.specs.Run.{rule, nowhere, Next, over, solve, begin, cross, next_by}
use Rattle.work.specs.declared.Plan.{Plan}
use Rattle.work.specs.declared.Stand.{Stand}
use Rattle.work.specs.declared.Gives.{Gives}
use Rattle.work.specs.declared.Kept.{Kept}
use Rattle.work.specs.declared.Origin.{Origin}
use Rattle.work.specs.Layout.{at_right, at_x, at_r, at_p, at_product, at_kept, at_gradients, at_norms, at_neighbours, at_tags, matrix_at}
use Rattle.pde.specs.declared.Entry.{Entry}

-- ---- one pass on the front of the floats: all that lies before the norms

-- where a pass leads, what it leaves of the front, and what it gives to be written
pub record Stepped : Type 0 where
  pub front : List Float
  pub stand : Stand
  pub gives : Gives

abbrev pub stepped : List Float → Stand → Gives → Stepped
stepped f s g = record { front = f; stand = s; gives = g }

-- the vectors in the front
abbrev pub vectors_in : ℕ → ℕ → List Float → Float → Solve
vectors_in n t f rs = record { x = part f (at_x n t) n; r = part f (at_r n t) n; p = part f (at_p n t) n; rs = rs }

-- the front with the product cleared, and with the vectors of a pass in their places
abbrev pub cleared : ℕ → ℕ → List Float → List Float
cleared n t f = splice f (at_product n t) (replicate n plus_zero)

-- the stand after a pass of solving
abbrev pub solved_stand : Stand → Float → ℕ → ℕ → Stand
solved_stand s rs norms e = record { place = s.place + 1; rs = rs; norms = norms; end = e; walk = s.walk; crossings = s.crossings }

unfoldable pub solved_step : Plan → Stand → List Float → Turn → Stepped
solved_step plan s f halted = stepped (cleared plan.n plan.t f) (solved_stand s s.rs s.norms 2) Gives.Nothing
solved_step plan s f (reached x r norm) =
    stepped (cleared plan.n plan.t (splice (splice f (at_x plan.n plan.t) x) (at_r plan.n plan.t) r))
    (solved_stand s s.rs (s.norms + 1) 1) (Gives.Norm norm)
solved_step plan s f (moved next norm) =
    stepped (splice (cleared plan.n plan.t (splice (splice f (at_x plan.n plan.t) next.x) (at_r plan.n plan.t) next.r)) (at_p plan.n plan.t) next.p)
    (solved_stand s next.rs (s.norms + 1) (pick (leb plan.limit s.norms) 3 0)) (Gives.Norm norm)

-- the path's scalars after the start pass and after a crossing
abbrev pub walked_stand : Stand → Walk → ℕ → Stand
walked_stand s w k = record { place = s.place + 1; rs = s.rs; norms = s.norms; end = s.end; walk = w; crossings = k }

abbrev pub crossed_stand : Plan → Stand → Crossing → Stand
crossed_stand plan s x = walked_stand s (walked plan.room (eqb (s.crossings + 1) (factor * plan.t)) s.walk x) (s.crossings + 1)

unfoldable pub set_out_step : Stand → List Float → ℕ → Option Entry → Stepped
set_out_step s f otherwise (Some at) = stepped f (walked_stand s (record { position = at.point; triangle = at.triangle; edge = at.edge; points = 1; end = 0 }) 0) (Gives.First at.point)
set_out_step s f otherwise None = stepped f (walked_stand s (ended nowhere otherwise) 0) Gives.Nothing

module _ (plan : Plan) (words : List ℕ) (f : List Float) where
  abbrev n : ℕ
  n = plan.n

  abbrev t : ℕ
  t = plan.t

  abbrev vs : List Float
  vs = part f 0 (2 * n)

  abbrev us : List Float
  us = part f (at_x n t) n

  abbrev ts : List ℕ
  ts = part words 0 (3 * t)

  abbrev ns : List ℕ
  ns = part words (at_neighbours t) (3 * t)

  abbrev tags : List ℕ
  tags = part words (at_tags t) n

  -- what crossing triangle k from p, entered by edge e, comes to
  abbrev pub crossing_from : Point → ℕ → ℕ → Crossing
  crossing_from p k e = crossing rule vs ts ns t us (part f (at_gradients n t) (2 * t)) plan.step p k e

  module _ (s : Stand) where
    unfoldable pub solve_step : Stepped
    unfolding solved_step
    solve_step = solved_step plan s f (Solver.pass flat (matrix words f (matrix_at n t)) plan.tolerance (vectors_in n t f s.rs))

    abbrev pub graded : List Float
    graded = splice f (at_gradients n t) (gradients flat vs us ts)

    abbrev pub start_by : Option Point → Stepped
    start_by (Some p) = set_out_step s graded 8 (triangle_containing vs ts t p)
    start_by None = set_out_step s graded 9 (pick_start vs ts ns tags t us)

    unfoldable pub begin_step : Stepped
    unfolding set_out_step
    begin_step = start_by plan.start

    abbrev pub crossing_of : Crossing
    crossing_of = crossing_from s.walk.position s.walk.triangle s.walk.edge

    unfoldable pub cross_step : Stepped
    cross_step = stepped f (crossed_stand plan s crossing_of) (Gives.Crossed crossing_of)

    abbrev pub step_by : Next → Stepped
    step_by over = stepped f s Gives.Nothing
    step_by solve = solve_step
    step_by begin = begin_step
    step_by cross = cross_step

-- which pass is next, from the ends alone
unfoldable pub next_of : Stand → Next
next_of s = next_by (eqb s.walk.end 0) (eqb s.end 0) (eqb s.walk.points 0)

unfoldable pub step_on : Plan → List ℕ → List Float → Stand → Stepped
unfolding next_of solve_step begin_step cross_step
step_on plan words f s = step_by plan words f s (next_of s)

-- ---- a pass on the whole buffers

-- floats and path, and the stand that goes with them; the words are not changed
pub record Work : Type 0 where
  pub floats : List Float
  pub path : List Float
  pub stand : Stand

abbrev pub work : List Float → List Float → Stand → Work
work m p s = record { floats = m; path = p; stand = s }

-- what a pass from s gives is written: a norm behind the norms, points behind the points
abbrev pub floats_given : Plan → Stand → Gives → List Float → List Float
floats_given plan s Gives.Nothing m = m
floats_given plan s (Gives.Norm v) m = splice m (at_norms plan.n plan.t + s.norms) (v ∷ [])
floats_given plan s (Gives.First p) m = m
floats_given plan s (Gives.Crossed x) m = m

abbrev pub path_given : Plan → Stand → Gives → List Float → List Float
path_given plan s Gives.Nothing p = p
path_given plan s (Gives.Norm v) p = p
path_given plan s (Gives.First q) p = splice p 0 (coordinates_of (q ∷ []))
path_given plan s (Gives.Crossed x) p = splice p (point_floats * s.walk.points) (coordinates_of (added plan.room s.walk x))

-- the part of the floats that a pass works on
abbrev pub front_of : Plan → List Float → List Float
front_of plan m = take (at_norms plan.n plan.t) m

abbrev pub beyond_front : Plan → List Float → List Float
beyond_front plan m = drop (at_norms plan.n plan.t) m

unfoldable pub once : Plan → List ℕ → Work → Work
unfolding step_on
once plan words w =
    let d = step_on plan words (front_of plan w.floats) w.stand in
    work (floats_given plan w.stand d.gives (d.front ++ beyond_front plan w.floats)) (path_given plan w.stand d.gives w.path) d.stand

-- k passes; one at a finished path changes nothing
unfoldable pub goes : Plan → List ℕ → ℕ → Work → Work
unfolding once
goes plan words zero w = w
goes plan words (suc k) w = once plan words (goes plan words k w)

-- the stand after k passes on a front alone: the passes that an advance would make, with nothing written
pub record Dry : Type 0 where
  pub front : List Float
  pub stand : Stand

unfoldable pub dry : Plan → List ℕ → ℕ → Dry → Dry
unfolding step_on
dry plan words zero d = d
dry plan words (suc k) d = let e = step_on plan words (dry plan words k d).front (dry plan words k d).stand in record { front = e.front; stand = e.stand }

-- ---- the way to a place

-- the kept vectors serve where they are not past the target and their field had no end, as fewer norms than the limit allows tell
abbrev pub from_mark : ℕ → Option Kept → ℕ → Origin
from_mark limit None target = Origin.Zero
from_mark limit (Some k) target = pick (leb k.place target && leb k.norms limit) (Origin.Kept k) Origin.Zero

-- on from here; a place after the start pass from there, and one at the field's end from there; else from the kept vectors; else from place 0
unfoldable pub origin_of : ℕ → Stand → Option Kept → ℕ → Origin
origin_of limit s mark target =
    pick (leb s.place target) Origin.Here
    (pick (not (eqb s.end 0) && leb (solved_at s.norms s.end) target) (pick (ltb (solved_at s.norms s.end) target) Origin.Started Origin.Solved) (from_mark limit mark target))

-- the scalars of a place with no path yet
abbrev pub pathless : ℕ → Float → ℕ → ℕ → Stand
pathless place rs norms e = record { place = place; rs = rs; norms = norms; end = e; walk = nowhere; crossings = 0 }

-- the path's places that are filled, and the gradients, are +0 again
abbrev pub path_erased : Stand → List Float → List Float
path_erased s p = splice p 0 (replicate (point_floats * s.walk.points) plus_zero)

abbrev pub gradients_erased : Plan → List Float → List Float
gradients_erased plan m = splice m (at_gradients plan.n plan.t) (replicate (2 * plan.t) plus_zero)

-- the norms from k on are +0 again
abbrev pub norms_erased : Plan → Stand → ℕ → List Float → List Float
norms_erased plan s k m = splice m (at_norms plan.n plan.t + k) (replicate (s.norms - k) plus_zero)

-- back to where the field ended
unfoldable pub to_solved : Plan → Work → Work
to_solved plan w =
    work (gradients_erased plan w.floats) (path_erased w.stand w.path)
    (pathless (solved_at w.stand.norms w.stand.end) w.stand.rs w.stand.norms w.stand.end)

-- back to where the path started: the start is found again, and the gradients stand as they are
unfoldable pub to_started : Plan → List ℕ → Work → Work
unfolding set_out_step
to_started plan words w =
    let s = pathless (solved_at w.stand.norms w.stand.end) w.stand.rs w.stand.norms w.stand.end in
    let d = start_by plan words (front_of plan w.floats) s plan.start in
    work w.floats (path_given plan s d.gives (path_erased w.stand w.path)) d.stand

-- back to the kept vectors, whose field had no end
unfoldable pub to_kept : Plan → Kept → Work → Work
to_kept plan k w =
    work (norms_erased plan w.stand k.norms (gradients_erased plan (splice w.floats (at_x plan.n plan.t) (part w.floats (at_kept plan.n plan.t plan.limit) (3 * plan.n)))))
    (path_erased w.stand w.path) (pathless k.place k.rs k.norms 0)

-- back to place 0: the vectors are begun again
abbrev pub begun_again : Plan → List ℕ → List Float → Solve
begun_again plan words f = begun (matrix words f (matrix_at plan.n plan.t)) (part f (at_right plan.n plan.t) plan.n)

abbrev pub vectors_put : Plan → Solve → List Float → List Float
vectors_put plan s f = cleared plan.n plan.t (splice (splice (splice f (at_x plan.n plan.t) s.x) (at_r plan.n plan.t) s.r) (at_p plan.n plan.t) s.p)

unfoldable pub to_zero : Plan → List ℕ → Work → Work
to_zero plan words w =
    let s = begun_again plan words w.floats in
    work (splice (norms_erased plan w.stand 0 (gradients_erased plan (vectors_put plan s w.floats))) (at_norms plan.n plan.t) (root s.rs ∷ []))
    (path_erased w.stand w.path) (pathless 0 s.rs 1 (pick (eqb plan.limit 0) 3 0))

abbrev pub from_origin : Plan → List ℕ → Origin → Work → Work
from_origin plan words Origin.Here w = w
from_origin plan words Origin.Started w = to_started plan words w
from_origin plan words Origin.Solved w = to_solved plan w
from_origin plan words (Origin.Kept k) w = to_kept plan k w
from_origin plan words Origin.Zero w = to_zero plan words w

-- the place sought, by passes from its origin
unfoldable pub seek : Plan → List ℕ → Option Kept → ℕ → Work → Work
unfolding goes origin_of to_started to_solved to_kept to_zero
seek plan words mark target w =
    let o = from_origin plan words (origin_of plan.limit w.stand mark target) w in
    goes plan words (target - o.stand.place) o

-- ---- a mark

unfoldable pub kept_floats : Plan → List Float → List Float
kept_floats plan m = splice m (at_kept plan.n plan.t plan.limit) (part m (at_x plan.n plan.t) (3 * plan.n))

abbrev pub kept_of : Stand → Kept
kept_of s = record { place = s.place; rs = s.rs; norms = s.norms }
