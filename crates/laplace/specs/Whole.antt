-- The matrix and the right side of the mesh that stands in the work, and what the assembly leaves in the buffers. Definitions only. Assumes nothing.
use Rattle.std.specs.Prelude.{ℕ, ◌+◌, ◌*◌, ◌≡◌, List, Float, replicate}
use Rattle.binary64.specs.Constants.{plus_zero}
use Rattle.stretch.specs.Stretch.{splice}
use Rattle.sparse.specs.Sparse.{Entry}
use Rattle.laplace.specs.declared.Places.{Places}
use Rattle.laplace.specs.Assembly.{Push, pushes, rows}
use Rattle.laplace.specs.Matrix.{count}
use Rattle.laplace.specs.Placed.{values_of, columns_of, starts_of, padded}
use Rattle.laplace.specs.Row.{vertices_in, corners_in, tags_in}

abbrev pub pushes_in : Float → List Float → List ℕ → ℕ → ℕ → Places → List Push
pushes_in flat floats words n t at = pushes flat (vertices_in floats n at) (corners_in words t at)

abbrev pub rows_for : Float → List Float → List ℕ → ℕ → ℕ → Places → ℕ → List (List Entry)
rows_for flat floats words n t at i = rows (tags_in words n at) (pushes_in flat floats words n t at) i

-- how many entries there is room for
abbrev pub most : ℕ → ℕ → ℕ
most n t = 9 * t + n

-- Every place after the assembly of k entries: the rows rs, the right side rhs, zeros where there was only scratch or there is only room, and all else as it was.
pub record Assembled (floats : List Float) (words : List ℕ) (floats' : List Float) (words' : List ℕ) (n t : ℕ) (at : Places) (k : ℕ) (rs : List (List Entry)) (rhs : List Float) : Type 0 where
  pub total : k ≡ count rs
  pub floats_are :
      floats' ≡ splice (splice (splice floats at.right rhs) at.row (replicate n plus_zero)) at.values (padded (most n t) plus_zero (values_of rs))
  pub words_are :
      words'
      ≡ splice (splice (splice (splice (splice words at.starts (starts_of rs)) at.cols (padded (most n t) 0 (columns_of rs))) at.heads (replicate n 0)) at.links (replicate (3 * t) 0))
      at.rowcols (replicate n 0)
