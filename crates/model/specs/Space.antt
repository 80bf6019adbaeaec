-- How far a run can go, and document 01's space rule. Definitions only. Assumes nothing.
use Rattle.std.specs.Prelude.{ℕ, ◌+◌, ◌*◌}
use Rattle.pde.specs.Path.{point_floats}

-- crossings for each triangle
abbrev pub factor : ℕ
factor = 20

-- the greatest place that a run can reach
abbrev pub farthest : ℕ → ℕ → ℕ
farthest triangles limit = limit + 1 + factor * triangles

-- ---- document 01's space rule

abbrev pub float_space : ℕ → ℕ → ℕ → ℕ
float_space n triangles limit = 12 * n + 12 * triangles + limit + 32

abbrev pub word_space : ℕ → ℕ → ℕ
word_space n triangles = 8 * n + 32 * triangles + 32

abbrev pub path_space : ℕ → ℕ
path_space room = point_floats * room
