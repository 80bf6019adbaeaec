-- The vectors of a pass in a buffer of their own, x, r and p one after the other, beside the matrix's buffers; the product is not kept. Definitions only. Assumes nothing.
use Rattle.std.specs.Prelude.{◌≡◌, ℕ, ◌+◌, ◌*◌, ◌≤◌, Float}
use mathlib.Core.List.{List}
use Rattle.stretch.specs.Stretch.{part, splice}
use Rattle.sparse.specs.Sparse.{mat_vec}
use Rattle.sparse.specs.Stored.{CsrAt, Sound, matrix}
use Rattle.conjugate.specs.declared.Pass.{Pass}
use Rattle.conjugate.specs.Solver.{Solve, Turn, halted, reached, moved, pass}
use Rattle.conjugate.specs.Passes.{answer_of}

-- a sound matrix with its values in a buffer of l, and room for three vectors in one of k
pub record Beside (words : List ℕ) (l : ℕ) (m : CsrAt) (k : ℕ) : Type 0 where
  pub sound : Sound words m
  pub values_fit : m.vals + m.count ≤ l
  pub vectors_fit : 3 * m.rows ≤ k

-- the vectors of v, and the product of the matrix with p
abbrev pub vectors_of : List Float → ℕ → Float → Solve
vectors_of v n rs = record { x = part v 0 n; r = part v n n; p = part v (2 * n) n; rs = rs }

abbrev pub product_of : List ℕ → List Float → CsrAt → List Float → List Float
product_of words floats m v = mat_vec (matrix words floats m) (part v (2 * m.rows) m.rows)

-- What a pass leaves: where it halts, the vectors as they were; where it reaches the tolerance, x and r moved and p as it was.
unfoldable pub left_by : ℕ → List Float → Turn → List Float
left_by n v halted = v
left_by n v (reached x r norm) = splice (splice v 0 x) n r
left_by n v (moved t norm) = splice (splice (splice v 0 t.x) n t.r) (2 * n) t.p

-- ---- what the functions ensure: v is the vectors' buffer before, l after

abbrev pub turn_beside : List ℕ → List Float → CsrAt → List Float → Float → Float → Float → Turn
turn_beside words floats m v tiny tolerance rs = pass tiny (matrix words floats m) tolerance (vectors_of v m.rows rs)

pub record PassedBeside (v l : List Float) (n : ℕ) (t : Turn) (answer : Pass) : Type 0 where
  pub said : answer ≡ answer_of t
  pub left : l ≡ left_by n v t
