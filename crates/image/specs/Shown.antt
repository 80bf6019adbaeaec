-- What document 01 compares after a list of calls (Counter machine), as one statement on a task, the machine's state, a record and the three buffers. Definitions only. Assumes nothing.
use Rattle.std.specs.Prelude.{ℕ, ◌+◌, ◌-◌, ◌*◌, ◌≤◌, ◌<◌, ◌≡◌, false, List, [], ◌∷◌, eqb, length, get_or, replicate, Float, Some, None}
use Rattle.binary64.specs.Constants.{plus_zero, one}
use Rattle.binary64.specs.Number.{pick}
use Rattle.stretch.specs.Stretch.{part}
use Rattle.sparse.specs.Sparse.{Entry, entry}
use Rattle.sparse.specs.Stored.{matrix}
use Rattle.mesh.specs.Mesh.{free}
use Rattle.pde.specs.Path.{point_floats, coordinates_of}
use Rattle.laplace.specs.Matrix.{value_at, Rising, Below}
use Rattle.model.specs.Task.{Task, vertex_count, triangle_count}
use Rattle.model.specs.Space.{factor}
use Rattle.model.specs.Run.{State, at, matrix_of, last_place}
use Rattle.model.specs.Machine.{Space, Counter, fresh, needs, Lent, Ticked, ticks}
use Rattle.work.specs.declared.Run.{Run}
use Rattle.work.specs.Layout.{at_x, at_gradients, at_norms, matrix_at}
use Rattle.image.specs.Calls.{Buffers}
use Rattle.image.specs.Lists.{Held}
use Rattle.image.specs.Parts.{field_of, norms_of, gradients_of}
use Rattle.image.specs.Points.{points_of}

-- ---- where the machine stands

-- how many places each buffer has
abbrev pub lengths_of : Buffers → Space
lengths_of b = record { floats = length b.floats; words = length b.words; path = length b.path }

-- the machine after a list of calls from place 0, where there are `all` places to lend
abbrev pub machine : Task → Space → List Lent → Ticked
machine c all ls = ticks (needs c) all (last_place c) ls (record { counter = fresh; said = [] })

-- the state of the uninterrupted run where the machine stands
abbrev pub state_at : Task → Counter → State
state_at c s = at c s.place

-- ---- what is read from the record and the buffers

-- all field values, all gradients, the norms and the points that are filled, and the places beyond them
abbrev pub field_in : Task → Buffers → List Float
field_in c b = part b.floats (at_x (vertex_count c) (triangle_count c)) (vertex_count c)

abbrev pub gradients_in : Task → Buffers → List Float
gradients_in c b = part b.floats (at_gradients (vertex_count c) (triangle_count c)) (2 * triangle_count c)

abbrev pub norms_in : Task → Run → Buffers → List Float
norms_in c run b = part b.floats (at_norms (vertex_count c) (triangle_count c)) run.stand.norms

abbrev pub beyond_norms_in : Task → Run → Buffers → List Float
beyond_norms_in c run b = part b.floats (at_norms (vertex_count c) (triangle_count c) + run.stand.norms) (c.limit + 1 - run.stand.norms)

abbrev pub points_in : Run → Buffers → List Float
points_in run b = part b.path 0 (point_floats * run.stand.walk.points)

abbrev pub beyond_points_in : Task → Run → Buffers → List Float
beyond_points_in c run b = part b.path (point_floats * run.stand.walk.points) (point_floats * c.room - point_floats * run.stand.walk.points)

-- the matrix in the work, and its row i
abbrev pub matrix_in : Task → Buffers → List (List Entry)
matrix_in c b = matrix b.words b.floats (matrix_at (vertex_count c) (triangle_count c))

abbrev pub row_in : Task → Buffers → ℕ → List Entry
row_in c b i = get_or (matrix_in c b) i []

-- ---- the matrix that is 01's

-- What is so of the n rows of a matrix where some vertices are held: in each row columns rise and are below n; it equals its transpose; a held row, and a held column, has a lone 1.
pub record Symmetric (n : ℕ) (tags : List ℕ) (rows : List (List Entry)) : Type 0 where
  pub count : length rows ≡ n
  pub rising : (i : ℕ) → i < n → Rising 0 (get_or rows i [])
  pub below : (i : ℕ) → i < n → Below n (get_or rows i [])
  pub transposed : (i j : ℕ) → i < n → j < n → value_at (get_or rows i []) j ≡ value_at (get_or rows j []) i
  pub held_row : (i : ℕ) → i < n → free tags i ≡ false → get_or rows i [] ≡ entry i one ∷ []
  pub held_column : (i j : ℕ) → i < n → free tags j ≡ false → value_at (get_or rows i []) j ≡ pick (eqb i j) (Some one) None

-- ---- the statement

pub record Shown (c : Task) (s : Counter) (run : Run) (b : Buffers) : Type 0 where
  -- place and passes are the machine's; place ≤ limit + 1 + 20 T
  pub place : run.stand.place ≡ s.place
  pub passes : run.passes ≡ s.passes
  pub reach : run.stand.place ≤ c.limit + 1 + factor * triangle_count c
  -- both ends
  pub field_end : run.stand.end ≡ (state_at c s).field.end
  pub path_end : run.stand.walk.end ≡ (state_at c s).trail.walk.end
  -- all n field values and all T gradients
  pub field : field_in c b ≡ (state_at c s).field.solve.x
  pub gradients : gradients_in c b ≡ (state_at c s).trail.gradients
  -- the norms and how many, and +0 beyond them
  pub norm_count : run.stand.norms ≡ length (state_at c s).field.norms
  pub norms : norms_in c run b ≡ (state_at c s).field.norms
  pub beyond_norms : beyond_norms_in c run b ≡ replicate (c.limit + 1 - run.stand.norms) plus_zero
  -- the points and how many, and +0 beyond them
  pub point_count : run.stand.walk.points ≡ (state_at c s).trail.walk.points
  pub points : points_in run b ≡ coordinates_of (state_at c s).trail.path
  pub beyond_points : beyond_points_in c run b ≡ replicate (point_floats * c.room - point_floats * run.stand.walk.points) plus_zero
  -- the matrix in the work is 01's, equals its transpose, and has a lone 1 in each held row and column
  pub matrix : matrix_in c b ≡ matrix_of c
  pub symmetric : Symmetric (vertex_count c) c.tags (matrix_in c b)

-- the same of a whole list of calls: where the machine comes to, and each call's refusal
pub record ListShown (c : Task) (t : Ticked) (h : Held) : Type 0 where
  pub refusals : h.said ≡ t.said
  pub shown : Shown c t.counter h.run h.all

-- What `field`, `norms`, `gradients` and `points` hand out of a record and the buffers is what the uninterrupted run has where the machine stands.
pub record HandedOut (c : Task) (s : Counter) (run : Run) (b : Buffers) : Type 0 where
  pub field : field_of run b.floats ≡ (state_at c s).field.solve.x
  pub norms : norms_of run b.floats ≡ (state_at c s).field.norms
  pub gradients : gradients_of run b.floats ≡ (state_at c s).trail.gradients
  pub points : points_of run b.path ≡ coordinates_of (state_at c s).trail.path
