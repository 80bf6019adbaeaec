-- The record and the buffers that the uninterrupted run of a task has at a place, with a mark, a pass count and what was lent beyond the places used. Definitions only. Assumes nothing.
use Rattle.std.specs.Prelude.{ℕ, ◌+◌, ◌*◌, List, [], ◌∷◌, ◌++◌, length, replicate, drop, Float, Option, Some, None}
use Rattle.binary64.specs.Constants.{plus_zero}
use Rattle.stretch.specs.Stretch.{flat}
use Rattle.pde.specs.Path.{point_floats, coordinates_of}
use Rattle.laplace.specs.Placed.{values_of, columns_of, starts_of, padded}
use Rattle.model.specs.Task.{Task, vertex_count, triangle_count}
use Rattle.model.specs.Run.{State, at, matrix_of, right_of}
use Rattle.model.specs.Machine.{Counter}
use Rattle.work.specs.declared.Plan.{Plan}
use Rattle.work.specs.declared.Stand.{Stand}
use Rattle.work.specs.declared.Kept.{Kept}
use Rattle.work.specs.declared.Run.{Run}
use Rattle.image.specs.Calls.{Buffers, buffers}

-- ---- the record

abbrev pub plan_of : Task → Plan
plan_of c = record {
  n = vertex_count c;
  t = triangle_count c;
  limit = c.limit;
  room = c.room;
  tolerance = c.tolerance;
  step = c.step;
  start = c.start;
}

abbrev pub stand_of : ℕ → State → Stand
stand_of p s = record { place = p; rs = s.field.solve.rs; norms = length s.field.norms; end = s.field.end; walk = s.trail.walk; crossings = s.trail.crossings }

abbrev pub kept_at : Task → ℕ → Kept
kept_at c p = record { place = p; rs = (at c p).field.solve.rs; norms = length (at c p).field.norms }

abbrev pub mark_of : Task → Option ℕ → Option Kept
mark_of c None = None
mark_of c (Some p) = Some (kept_at c p)

unfoldable pub run_of : Task → Counter → Run
run_of c s = record { plan = plan_of c; stand = stand_of s.place (at c s.place); mark = mark_of c s.mark; passes = s.passes }

-- ---- the buffers

-- the marked place's vectors, +0 where there is no mark
abbrev pub kept_vectors : Task → Option ℕ → List Float
kept_vectors c None = replicate (3 * vertex_count c) plus_zero
kept_vectors c (Some p) = let s = (at c p).field.solve in s.x ++ (s.r ++ s.p)

-- the segments that a pass works on
abbrev pub front_segments : Task → State → List (List Float)
front_segments c s =
    c.vertices
    ∷ right_of c
    ∷ replicate (vertex_count c) plus_zero
    ∷ padded (9 * triangle_count c + vertex_count c) plus_zero (values_of (matrix_of c))
    ∷ s.field.solve.x
    ∷ s.field.solve.r
    ∷ s.field.solve.p
    ∷ replicate (vertex_count c) plus_zero
    ∷ s.trail.gradients
    ∷ []

abbrev pub float_segments : Task → State → Option ℕ → List Float → List (List Float)
float_segments c s m rest = front_segments c s ++ (padded (c.limit + 1) plus_zero s.field.norms ∷ (kept_vectors c m ++ rest) ∷ [])

unfoldable pub floats_of : Task → State → Option ℕ → List Float → List Float
floats_of c s m rest = flat (float_segments c s m rest)

unfoldable pub words_of : Task → List ℕ → List ℕ
words_of c rest =
    flat (c.triangles
    ∷ c.neighbours
    ∷ c.tags
    ∷ starts_of (matrix_of c)
    ∷ padded (9 * triangle_count c + vertex_count c) 0 (columns_of (matrix_of c))
    ∷ replicate (vertex_count c) 0
    ∷ replicate (3 * triangle_count c) 0
    ∷ replicate (vertex_count c) 0
    ∷ rest
    ∷ [])

unfoldable pub path_of : Task → State → List Float → List Float
path_of c s rest = padded (point_floats * c.room) plus_zero (coordinates_of s.trail.path) ++ rest

-- what was lent beyond the places that a run uses, which no call changes
pub record Rest : Type 0 where
  pub floats : List Float
  pub words : List ℕ
  pub path : List Float

unfoldable pub image : Task → Counter → Rest → Buffers
image c s rest = buffers (floats_of c (at c s.place) s.mark rest.floats) (words_of c rest.words) (path_of c (at c s.place) rest.path)

-- where the run's own places end
abbrev pub floats_used : Task → ℕ
floats_used c = 12 * vertex_count c + 11 * triangle_count c + (c.limit + 1)

abbrev pub words_used : Task → ℕ
words_used c = 5 * vertex_count c + 18 * triangle_count c + 1

abbrev pub rest_of : Task → Buffers → Rest
rest_of c b = record { floats = drop (floats_used c) b.floats; words = drop (words_used c) b.words; path = drop (point_floats * c.room) b.path }
