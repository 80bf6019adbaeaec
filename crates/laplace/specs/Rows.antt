-- Rows put down one behind the other, each built in a row that is clear before and after. Definitions only. Assumes nothing.
use Rattle.std.specs.Prelude.{ℕ, suc, ◌+◌, ◌*◌, ◌≤◌, ◌≡◌, List, Float, length, set, replicate}
use Rattle.binary64.specs.Constants.{plus_zero}
use Rattle.stretch.specs.Stretch.{splice}
use Rattle.sparse.specs.Sparse.{Entry}
use Rattle.laplace.specs.declared.element.Elements.{Elements}
use Rattle.laplace.specs.Assembly.{row, rows}
use Rattle.laplace.specs.Matrix.{count}
use Rattle.laplace.specs.Elements.{AreElements, pushes_of}
use Rattle.laplace.specs.Placed.{values_in, columns_in, values_of, columns_of, starts_of}

-- row r of a mesh's matrix, and its first i rows
abbrev pub row_of : Elements → ℕ → List Entry
row_of e r = row e.tags.now (pushes_of e) r

abbrev pub rows_of : Elements → ℕ → List (List Entry)
rows_of e i = rows e.tags.now (pushes_of e) i

-- how many entries there is room for: nine for each triangle, and one for each vertex
abbrev pub room_of : Elements → ℕ
room_of e = 3 * length e.triangles.now + length e.tags.now

-- k entries of a row go behind `count` others; values and cols are lengths
pub record Appends (values cols k count : ℕ) : Type 0 where
  pub room : count + k ≤ values
  pub cols_room : count + k ≤ cols

-- the row is clear, and the matrix has room
pub record Ready (e : Elements) (row : List Float) (rowcols starts cols : List ℕ) (values : List Float) : Type 0 where
  pub mesh : AreElements e
  pub row_clear : row ≡ replicate (length e.tags.now) plus_zero
  pub columns_clear : rowcols ≡ replicate (length e.tags.now) 0
  pub starts_long : length starts ≡ suc (length e.tags.now)
  pub cols_long : length cols ≡ room_of e
  pub values_long : length values ≡ room_of e

-- the row es of vertex r put behind `before` entries; `end` counts them all
pub record RowPut (starts cols : List ℕ) (values : List Float) (starts' cols' : List ℕ) (values' : List Float) (r before end : ℕ) (es : List Entry) : Type 0 where
  pub total : end ≡ before + length es
  pub start : starts' ≡ set starts (r + 1) (before + length es)
  pub columns : cols' ≡ splice cols before (columns_in es)
  pub entries : values' ≡ splice values before (values_in es)

-- the rows rs put down, k entries in all
pub record RowsPut (starts cols : List ℕ) (values : List Float) (starts' cols' : List ℕ) (values' : List Float) (k : ℕ) (rs : List (List Entry)) : Type 0 where
  pub total : k ≡ count rs
  pub start : starts' ≡ splice starts 0 (starts_of rs)
  pub columns : cols' ≡ splice cols 0 (columns_of rs)
  pub entries : values' ≡ splice values 0 (values_of rs)
