-- What the theorem over lists of calls takes of the image: where a search and a mark lead from it, that its record and words are in range, and how long its buffers are.
-- Definitions only. Assumes nothing.
use Rattle.std.specs.Prelude.{ℕ, ◌+◌, ◌*◌, ◌≤◌, min, ◌≡◌, true, List, length, Float, Option, Some, None}
use Rattle.sparse.specs.Stored.{matrix}
use Rattle.laplace.specs.Placed.{values_of}
use Rattle.pde.specs.Path.{point_floats, coordinates_of}
use Rattle.model.specs.Task.{Task, vertex_count, triangle_count}
use Rattle.model.specs.Space.{farthest}
use Rattle.model.specs.Run.{at, matrix_of, right_of, last_place}
use Rattle.work.specs.Layout.{matrix_at}
use Rattle.work.specs.Memory.{Work, work, seek, kept_floats}
use Rattle.image.specs.Calls.{stand_sound, mark_sound, words_sound}
use Rattle.image.specs.Image.{plan_of, stand_of, mark_of, floats_of, words_of, path_of, floats_used, words_used}

-- a mark at a place of the run
abbrev pub MarkIn : Option ℕ → ℕ → Type 0
MarkIn None last = Unit
MarkIn (Some q) last = q ≤ last

-- floats, path and stand at place p, with a mark
abbrev pub work_at : Task → ℕ → Option ℕ → List Float → List Float → Work
work_at c p m floats path = work (floats_of c (at c p) m floats) (path_of c (at c p) path) (stand_of p (at c p))

pub record Facts (c : Task) : Type 0 where
  -- a search leads to its target, at most to the last place
  pub seek-image : (p target : ℕ) (m : Option ℕ) (floats : List Float) (words : List ℕ) (path : List Float) → p ≤ last_place c → MarkIn m (last_place c)
      → seek (plan_of c) (words_of c words) (mark_of c m) target (work_at c p m floats path) ≡ work_at c (min target (last_place c)) m floats path
  pub mark_image : (p : ℕ) (m : Option ℕ) (floats : List Float) → p ≤ last_place c → MarkIn m (last_place c)
      → kept_floats (plan_of c) (floats_of c (at c p) m floats) ≡ floats_of c (at c p) (Some p) floats
  pub last_bound : last_place c ≤ farthest (triangle_count c) c.limit
  -- record and words are in range
  pub stand_sound_lem : (p : ℕ) → p ≤ last_place c → stand_sound (plan_of c) (stand_of p (at c p)) ≡ true
  pub mark_sound_lem : (m : Option ℕ) → MarkIn m (last_place c) → mark_sound (plan_of c) (mark_of c m) ≡ true
  pub words_sound_lem : (words : List ℕ) → words_sound (plan_of c) (words_of c words) ≡ true
  -- the places used, and the rest
  pub floats_long : (p : ℕ) (m : Option ℕ) (floats : List Float) → p ≤ last_place c → MarkIn m (last_place c) → length (floats_of c (at c p) m floats) ≡ floats_used c + length floats
  pub words_long : (words : List ℕ) → length (words_of c words) ≡ words_used c + length words
  pub path_long : (p : ℕ) (path : List Float) → p ≤ last_place c → length (path_of c (at c p) path) ≡ point_floats * c.room + length path

-- What the statement on the record and the buffers takes besides: the matrix is read back from them, and how long the lists of a place are.
pub record Parts (c : Task) : Type 0 where
  pub read_back : (p : ℕ) (m : Option ℕ) (floats : List Float) (words : List ℕ) → p ≤ last_place c → MarkIn m (last_place c)
      → matrix (words_of c words) (floats_of c (at c p) m floats) (matrix_at (vertex_count c) (triangle_count c)) ≡ matrix_of c
  pub right_long : length (right_of c) ≡ vertex_count c
  pub values_long : length (values_of (matrix_of c)) ≤ 9 * triangle_count c + vertex_count c
  pub x_long : (p : ℕ) → p ≤ last_place c → length (at c p).field.solve.x ≡ vertex_count c
  pub r_long : (p : ℕ) → p ≤ last_place c → length (at c p).field.solve.r ≡ vertex_count c
  pub p_long : (p : ℕ) → p ≤ last_place c → length (at c p).field.solve.p ≡ vertex_count c
  pub gradients_long : (p : ℕ) → p ≤ last_place c → length (at c p).trail.gradients ≡ 2 * triangle_count c
  pub norms_long : (p : ℕ) → p ≤ last_place c → length (at c p).field.norms ≤ c.limit + 1
  pub path_counted : (p : ℕ) → p ≤ last_place c → length (coordinates_of (at c p).trail.path) ≡ point_floats * (at c p).trail.walk.points
  pub points_in_lem : (p : ℕ) → p ≤ last_place c → (at c p).trail.walk.points ≤ c.room
