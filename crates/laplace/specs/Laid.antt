-- What the assembly asks of its stretches: they lie in a row in each buffer, apart from each other, and every corner is a vertex. Definitions only. Assumes nothing.
use Rattle.std.specs.Prelude.{ℕ, ◌+◌, ◌*◌, ◌≤◌, List, length, Float}
use Rattle.stretch.specs.Stretch.{part}
use Rattle.laplace.specs.declared.Places.{Places}
use Rattle.laplace.specs.Matrix.{AllBelow}

-- as many vertices and triangles as a sheet may have
pub record Few (n t : ℕ) : Type 0 where
  pub vertices : n ≤ 4096
  pub triangles : t ≤ 8192

pub record LaidFloats (floats : List Float) (n t : ℕ) (at : Places) : Type 0 where
  pub vertices : at.vertices + 2 * n ≤ at.right
  pub right : at.right + n ≤ at.row
  pub row : at.row + n ≤ at.values
  pub values : at.values + (9 * t + n) ≤ length floats

pub record LaidWords (words : List ℕ) (n t : ℕ) (at : Places) : Type 0 where
  pub few : Few n t
  pub triangles : at.triangles + 3 * t ≤ at.tags
  pub tags : at.tags + n ≤ at.starts
  pub starts : at.starts + n + 1 ≤ at.cols
  pub cols : at.cols + (9 * t + n) ≤ at.heads
  pub heads : at.heads + n ≤ at.links
  pub links : at.links + 3 * t ≤ at.rowcols
  pub row : at.rowcols + n ≤ length words
  pub corners : AllBelow n (part words at.triangles (3 * t))
