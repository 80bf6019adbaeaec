-- The uninterrupted run of a task (document 01, Passes and ends; Counter machine): what stands at place 0, one pass, and what stands after p passes. Definitions only. Assumes nothing.
use Rattle.std.specs.Prelude.{ℕ, zero, suc, ◌+◌, ◌*◌, Bool, true, false, not, List, [], ◌∷◌, ◌++◌, leb, eqb, length, replicate, Float, Option, Some, None}
use Rattle.std.specs.Float.{binary64}
use Rattle.std.specs.Float.Ieee.{of_bits}
use Rattle.binary64.specs.Constants.{plus_zero, small}
use Rattle.binary64.specs.Number.{pick}
use Rattle.binary64.specs.Root.{root}
use Rattle.plane.specs.declared.Point.{Point}
use Rattle.plane.specs.Plane.{point}
use Rattle.sparse.specs.Sparse.{Entry}
use Rattle.mesh.specs.Element.{flat}
use Rattle.laplace.specs.Assembly.{pushes, rows, right_side}
use Rattle.conjugate.specs.Solver as Solver
use Rattle.conjugate.specs.Solver.{Solve, Turn, halted, reached, moved, begun}
use Rattle.gradient.specs.Gradient.{gradients}
use Rattle.pde.specs.declared.Rule.{Rule}
use Rattle.pde.specs.declared.Walk.{Walk}
use Rattle.pde.specs.Outcome.{Crossing}
use Rattle.pde.specs.Start.{no_edge, triangle_containing, pick_start}
use Rattle.pde.specs.Crossing.{crossing}
use Rattle.pde.specs.Path.{ended, walked, added}
use Rattle.model.specs.Task.{Task, vertex_count, triangle_count}
use Rattle.model.specs.Space.{factor, farthest}
use Rattle.pde.specs.declared.Entry.{Entry as Start}

-- ---- the thresholds of crossing: 1e-12, 0.99 and 0.2

abbrev pub rule : Rule
rule = record { dull = small; above = of_bits binary64 0x3fef_ae14_7ae1_47ae; spacing = of_bits binary64 0x3fc9_9999_9999_999a }

-- ---- what stands at a place

-- solving: the vectors, the norms so far, and the field's end
pub record Field : Type 0 where
  pub solve : Solve
  pub norms : List Float
  pub end : ℕ

-- the path: x and y of each triangle's gradient; position, triangle, entry edge, how many points, and the path's end; the points; how many crossings were made
pub record Trail : Type 0 where
  pub gradients : List Float
  pub walk : Walk
  pub path : List Point
  pub crossings : ℕ

pub record State : Type 0 where
  pub field : Field
  pub trail : Trail

abbrev pub state : Field → Trail → State
state f t = record { field = f; trail = t }

-- the matrix and the right side
unfoldable pub matrix_of : Task → List (List Entry)
matrix_of c = rows c.tags (pushes flat c.vertices c.triangles) (vertex_count c)

unfoldable pub right_of : Task → List Float
right_of c = right_side c.held c.tags (pushes flat c.vertices c.triangles) (vertex_count c)

-- ---- place 0

-- The field is +0 everywhere, and there is one norm; limit 0 ends the field with 3.
abbrev pub first_field : ℕ → Solve → Field
first_field limit s = record { solve = s; norms = root s.rs ∷ []; end = pick (eqb limit 0) 3 0 }

abbrev pub nowhere : Walk
nowhere = record { position = point plus_zero plus_zero; triangle = 0; edge = no_edge; points = 0; end = 0 }

abbrev pub no_trail : ℕ → Trail
no_trail triangles = record { gradients = replicate (2 * triangles) plus_zero; walk = nowhere; path = []; crossings = 0 }

unfoldable pub place0 : Task → State
place0 c = state (first_field c.limit (begun (matrix_of c) (right_of c))) (no_trail (triangle_count c))

-- ---- a pass of solving

-- 2: p·Ap is tiny, and no norm is added. 1: the norm is below the tolerance. 3: the limit is used up by a pass with no other end; before it there were as many norms as passes after it.
unfoldable pub solved : ℕ → Field → Turn → Field
solved limit f halted = record { solve = f.solve; norms = f.norms; end = 2 }
solved limit f (reached x r norm) = record { solve = record { x = x; r = r; p = f.solve.p; rs = f.solve.rs }; norms = f.norms ++ (norm ∷ []); end = 1 }
solved limit f (moved next norm) = record { solve = next; norms = f.norms ++ (norm ∷ []); end = pick (leb limit (length f.norms)) 3 0 }

unfoldable pub solving : Task → Field → Field
unfolding solved
solving c f = solved c.limit f (Solver.pass flat (matrix_of c) c.tolerance f.solve)

-- ---- the start pass

-- the first point, or the end
abbrev pub set_out : Option Start → ℕ → List Float → Trail
set_out (Some at) otherwise gs = record { gradients = gs; walk = record { position = at.point; triangle = at.triangle; edge = at.edge; points = 1; end = 0 }; path = at.point ∷ []; crossings = 0 }
set_out None otherwise gs = record { gradients = gs; walk = ended nowhere otherwise; path = []; crossings = 0 }

-- Gradients are filled; a given start lies in the first triangle that accepts it (else end 8), otherwise `pick_start` (else end 9).
unfoldable pub start_from : Option Point → Task → List Float → List Float → Trail
start_from (Some p) c us gs = set_out (triangle_containing c.vertices c.triangles (triangle_count c) p) 8 gs
start_from None c us gs = set_out (pick_start c.vertices c.triangles c.neighbours c.tags (triangle_count c) us) 9 gs

unfoldable pub starting : Task → List Float → Trail
unfolding start_from
starting c us = start_from c.start c us (gradients flat c.vertices us c.triangles)

-- ---- a crossing

-- 6 is set by the last of the 20 T crossings, if it has no other end
unfoldable pub crossed : ℕ → ℕ → Trail → Crossing → Trail
crossed room most t x = record {
  gradients = t.gradients;
  walk = walked room (eqb (t.crossings + 1) most) t.walk x;
  path = t.path ++ added room t.walk x;
  crossings = t.crossings + 1;
}

unfoldable pub crossing_pass : Task → List Float → Trail → Trail
unfolding crossed
crossing_pass c us t =
    crossed c.room (factor * triangle_count c) t
    (crossing rule c.vertices c.triangles c.neighbours (triangle_count c) us t.gradients c.step t.walk.position t.walk.triangle t.walk.edge)

-- ---- one pass after another

-- which pass is next: none where the path has an end; solving until the field has one; the start while there is no point
pub data Next : Type 0 where
  over : Next
  solve : Next
  begin : Next
  cross : Next

abbrev pub next_by : Bool → Bool → Bool → Next
next_by false e s = over
next_by true true s = solve
next_by true false true = begin
next_by true false false = cross

unfoldable pub next_of : State → Next
next_of s = next_by (eqb s.trail.walk.end 0) (eqb s.field.end 0) (eqb s.trail.walk.points 0)

unfoldable pub pass_by : Next → Task → State → State
unfolding solving starting crossing_pass
pass_by over c s = s
pass_by solve c s = state (solving c s.field) s.trail
pass_by begin c s = state s.field (starting c s.field.solve.x)
pass_by cross c s = state s.field (crossing_pass c s.field.solve.x s.trail)

unfoldable pub pass : Task → State → State
unfolding next_of pass_by
pass c s = pass_by (next_of s) c s

-- what stands after p passes
unfoldable pub at : Task → ℕ → State
unfolding place0 pass
at c zero = place0 c
at c (suc p) = pass c (at c p)

-- whether the path has an end
abbrev pub finished : State → Bool
finished s = not (eqb s.trail.walk.end 0)

-- The first place from p on, at most k further, whose state is finished; s is the state at p.
unfoldable pub last_from : Task → ℕ → ℕ → Bool → State → ℕ
unfolding pass
last_from c zero p f s = p
last_from c (suc k) p true s = p
last_from c (suc k) p false s = last_from c k (suc p) (finished (pass c s)) (pass c s)

-- E
unfoldable pub last_place : Task → ℕ
unfolding last_from place0
last_place c = last_from c (farthest (triangle_count c) c.limit) 0 (finished (place0 c)) (place0 c)
