-- What the steps of opening come to: the plan of a header, the list of a section as its items are read one by one, and what each step leaves in the lent buffers.
-- Definitions only. Assumes nothing.
use Rattle.std.specs.Prelude.{ℕ, zero, suc, ◌+◌, ◌*◌, ◌≤◌, ◌≡◌, Bool, List, [], ◌∷◌, ◌++◌, get_or, replicate, drop, Float}
use Rattle.binary64.specs.Constants.{plus_zero}
use Rattle.binary64.specs.Root.{root}
use Rattle.stretch.specs.Stretch.{splice}
use Rattle.sparse.specs.Stored.{Sound}
use Rattle.laplace.specs.Placed.{values_of, padded}
use Rattle.conjugate.specs.Solver.{Solve}
use Rattle.format.specs.Content.{max_vertices, max_triangles, max_limit, default_limit, default_tolerance, whole_or, real_or}
use Rattle.format.specs.Range.{InRange}
use Rattle.format.specs.Sheet.{content_of}
use Rattle.sheet.specs.declared.Header.{Header}
use Rattle.sheet.specs.Items.{coordinate_in, whole_in}
use Rattle.sheet.specs.ItemLaws.{IsAccepted}
use Rattle.model.specs.Task.{Task, vertex_count, triangle_count, both_given, task}
use Rattle.model.specs.Run.{matrix_of, right_of}
use Rattle.work.specs.declared.Plan.{Plan}
use Rattle.work.specs.Layout.{at_right, at_row, at_values, at_gradients, at_norms, at_neighbours, at_tags, matrix_at}
use Rattle.work.specs.Memory.{begun_again, vectors_put}
use Rattle.work.specs.declared.Run.{Run}
use Rattle.model.specs.Machine.{fresh, needs}
use Rattle.image.specs.Calls.{Buffers}
use Rattle.image.specs.CallLaws.{Enough, lacking, asked}
use Rattle.image.specs.Image.{words_of, words_used, run_of, image, rest_of}
use Rattle.image.specs.Shown.{lengths_of}

-- ---- the plan

abbrev pub plan_by : Header → Plan
plan_by h = record {
  n = h.n;
  t = h.t;
  limit = whole_or default_limit h.settings.limit;
  room = whole_or 0 h.settings.room;
  tolerance = real_or default_tolerance h.settings.tolerance;
  step = real_or plus_zero h.settings.step;
  start = both_given h.settings.x h.settings.y;
}

-- ---- items one after the other

-- the lists f 0 to f (k − 1) in a row
unfoldable pub joined : {A : Type 0} → (ℕ → List A) → ℕ → List A
joined f zero = []
joined f (suc k) = joined f k ++ f k

-- of the part of a sheet that starts after a section's count: k coordinates, k numbers, n tags
abbrev pub coordinate_read : List ℕ → ℕ → List Float
coordinate_read part i = coordinate_in part i ∷ []

abbrev pub number_read : List ℕ → ℕ → List ℕ
number_read part i = whole_in part i ∷ []

abbrev pub tag_read : List ℕ → ℕ → List ℕ
tag_read part i = get_or part i 0 ∷ []

abbrev pub coordinates_read : List ℕ → ℕ → List Float
coordinates_read part k = joined (coordinate_read part) k

abbrev pub numbers_read : List ℕ → ℕ → List ℕ
numbers_read part k = joined (number_read part) k

abbrev pub tags_read : List ℕ → ℕ → List ℕ
tags_read part n = joined (tag_read part) n

-- ---- the mesh, its matrix and its right side

-- an accepted sheet
pub record Read (sheet : List ℕ) (h : Header) : Type 0 where
  pub is : IsAccepted sheet h
  pub good : InRange (content_of sheet)

-- the lent buffers have room for what is laid out there
pub record Fits (h : Header) (floats words : ℕ) : Type 0 where
  pub floats_fit : 5 * h.n + 9 * h.t ≤ floats
  pub words_fit : 5 * h.n + 18 * h.t + 1 ≤ words

-- the task's lists at the front of each buffer
abbrev pub mesh_floats : Task → List Float → List Float
mesh_floats c floats = splice floats 0 c.vertices

abbrev pub mesh_words : Task → List ℕ → List ℕ
mesh_words c words = splice (splice (splice words 0 c.triangles) (at_neighbours (triangle_count c)) c.neighbours) (at_tags (triangle_count c)) c.tags

pub record Loaded (c : Task) (floats : List Float) (words : List ℕ) (floats' : List Float) (words' : List ℕ) : Type 0 where
  pub floats_are : floats' ≡ mesh_floats c floats
  pub words_are : words' ≡ mesh_words c words

-- the right side, the row buffer and the values behind the vertices; the words are those of every place
unfoldable pub assembled_floats : Task → List Float → List Float
assembled_floats c floats =
    splice (splice (splice (mesh_floats c floats) (at_right (vertex_count c) (triangle_count c)) (right_of c)) (at_row (vertex_count c) (triangle_count c)) (replicate (vertex_count c) plus_zero))
    (at_values (vertex_count c) (triangle_count c)) (padded (9 * triangle_count c + vertex_count c) plus_zero (values_of (matrix_of c)))

pub record LaidOut (c : Task) (floats : List Float) (words : List ℕ) (floats' : List Float) (words' : List ℕ) : Type 0 where
  pub floats_are : floats' ≡ assembled_floats c floats
  pub words_are : words' ≡ words_of c (drop (words_used c) words)

-- ---- place 0 of the field

pub record Begins (plan : Plan) (words : List ℕ) (floats : ℕ) : Type 0 where
  pub n_most : plan.n ≤ max_vertices
  pub t_most : plan.t ≤ max_triangles
  pub limit-most : plan.limit ≤ max_limit
  pub floats_fit : at_norms plan.n plan.t + (plan.limit + 1) + 3 * plan.n ≤ floats
  pub sound : Sound words (matrix_at plan.n plan.t)

-- +0 at the gradients, the norms and the kept vectors, which stand in a row
abbrev pub none_kept : Plan → List Float → List Float
none_kept plan floats = splice floats (at_gradients plan.n plan.t) (replicate (2 * plan.t + (plan.limit + 1) + 3 * plan.n) plus_zero)

-- the vectors of s, and the first norm
unfoldable pub begun_floats : Plan → Solve → List Float → List Float
begun_floats plan s floats = splice (vectors_put plan s floats) (at_norms plan.n plan.t) (root s.rs ∷ [])

pub record Begun (plan : Plan) (words : List ℕ) (floats : List Float) (rs : Float) (floats' : List Float) : Type 0 where
  pub sum : rs ≡ (begun_again plan words (none_kept plan floats)).rs
  pub floats_are : floats' ≡ begun_floats plan (begun_again plan words (none_kept plan floats)) (none_kept plan floats)

-- ---- all of it

-- whether buffers of these lengths are too short for a run of this plan
abbrev pub lacks : Plan → ℕ → ℕ → ℕ → Bool
lacks p floats words path = lacking (asked p) (record { floats = floats; words = words; path = path })

-- an accepted sheet, its plan, and buffers that suffice
pub record Suffices (sheet : List ℕ) (h : Header) (plan : Plan) (b : Buffers) : Type 0 where
  pub read : Read sheet h
  pub plan_is : plan ≡ plan_by h
  pub space : Enough (needs (task (content_of sheet))) (lengths_of b)

-- the run of a task at place 0
pub record Stands (c : Task) (b : Buffers) (run : Run) (b' : Buffers) : Type 0 where
  pub run_is : run ≡ run_of c fresh
  pub held : b' ≡ image c fresh (rest_of c b)
