-- The row that is built and the matrix, as the code holds them. Definitions only. Assumes nothing.
use Rattle.std.specs.Prelude.{ℕ, ◌≡◌, List}
use Rattle.sparse.specs.Sparse.{Entry}
use Rattle.laplace.specs.declared.element.Elements.{Elements}
use Rattle.laplace.specs.Row.{entries_in, Written, Building}
use Rattle.rows.specs.declared.row.Row.{Row}
use Rattle.laplace.specs.Rows.{Ready, RowPut, RowsPut}
use Rattle.rows.specs.declared.matrix.Builder.{Builder}

abbrev pub entries_of : Row → List Entry
entries_of r = entries_in r.values.now r.cols.now r.count

-- It lends the same two stretches: what a function that takes a struct of `&mut` slices has to ensure, since it could put others there. Where it writes, it is a part of what is written.
pub record SameRow (old new : Row) : Type 0 where
  pub values : new.values.ghost_name ≡ old.values.ghost_name
  pub cols : new.cols.ghost_name ≡ old.cols.ghost_name

-- the entries es are written to its front, and nothing else
pub record Writes (old new : Row) (es : List Entry) : Type 0 where
  pub same : SameRow old new
  pub written : Written old.values.now old.cols.now new.values.now new.cols.now new.count es

-- it holds what it held, and is empty
pub record Restores (old new : Row) : Type 0 where
  pub same : SameRow old new
  pub values : new.values.now ≡ old.values.now
  pub cols : new.cols.now ≡ old.cols.now
  pub empty : new.count ≡ 0

abbrev pub IsBuilt : Elements → Row → Type 0
IsBuilt e r = Building e r.values.now r.cols.now r.count

-- it lends the same three stretches
pub record SameBuilder (old new : Builder) : Type 0 where
  pub starts : new.starts.ghost_name ≡ old.starts.ghost_name
  pub cols : new.cols.ghost_name ≡ old.cols.ghost_name
  pub values : new.values.ghost_name ≡ old.values.ghost_name

-- the row that is built is clear and empty, and the matrix has room
pub record IsReady (e : Elements) (r : Row) (m : Builder) : Type 0 where
  pub ready : Ready e r.values.now r.cols.now m.starts.now m.cols.now m.values.now
  pub empty : r.count ≡ 0

-- the row es of vertex r is put behind the others
pub record PutsRow (old new : Builder) (r : ℕ) (es : List Entry) : Type 0 where
  pub same : SameBuilder old new
  pub put : RowPut old.starts.now old.cols.now old.values.now new.starts.now new.cols.now new.values.now r old.count new.count es

-- the rows rs are put down
pub record PutsRows (old new : Builder) (rs : List (List Entry)) : Type 0 where
  pub same : SameBuilder old new
  pub put : RowsPut old.starts.now old.cols.now old.values.now new.starts.now new.cols.now new.values.now new.count rs
