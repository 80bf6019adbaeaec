-- The matrix that the slices of a struct are, and its product with a vector. Definitions only. Assumes nothing.
use Rattle.std.specs.Prelude.{◌≡◌, ℕ, ◌-◌, List, length, Float}
use Rattle.stretch.specs.Vec.{dot}
use Rattle.sparse.specs.declared.Matrix.{Matrix}
use Rattle.sparse.specs.Sparse.{Entry, mat_vec}
use Rattle.sparse.specs.ByRows.{first_rows}

abbrev pub rows : Matrix → ℕ
rows m = length m.starts.now - 1

abbrev pub matrix_of : Matrix → List (List Entry)
matrix_of m = first_rows m.starts.now m.cols.now m.values.now (rows m)

-- A x, and x·Ax
pub record Multiplied (m : Matrix) (x out : List Float) (sum : Float) : Type 0 where
  pub is : out ≡ mat_vec (matrix_of m) x
  pub sum_is : sum ≡ dot x (mat_vec (matrix_of m) x)
