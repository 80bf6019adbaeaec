-- The parts that the assembly works on, and what it leaves in them. Definitions only. Assumes nothing.
use Rattle.std.specs.Prelude.{ℕ, suc, ◌+◌, ◌*◌, ◌≡◌, List, Float, length, replicate}
use Rattle.binary64.specs.Constants.{plus_zero}
use Rattle.stretch.specs.Stretch.{splice}
use Rattle.sparse.specs.Sparse.{Entry}
use Rattle.laplace.specs.declared.element.Elements.{Elements}
use Rattle.laplace.specs.Mesh.{held_value}
use Rattle.laplace.specs.Assembly.{pushes, rows, right_side}
use Rattle.laplace.specs.Matrix.{count}
use Rattle.laplace.specs.Elements.{AreElements}
use Rattle.laplace.specs.Placed.{values_of, columns_of, starts_of, padded}
use Rattle.laplace.specs.Rows.{room_of}
use Rattle.rows.specs.declared.row.Row.{Row}
use Rattle.rows.specs.declared.matrix.Builder.{Builder}
use Rattle.rows.specs.Buffers.{SameRow, SameBuilder}

-- each part has its place for each vertex, each corner or each entry, and the matrix and the row are empty
pub record Fits (e : Elements) (m : Builder) (right : List Float) (r : Row) (heads links : List ℕ) : Type 0 where
  pub mesh : AreElements e
  pub right_long : length right ≡ length e.tags.now
  pub row_long : length r.values.now ≡ length e.tags.now
  pub rowcols_long : length r.cols.now ≡ length e.tags.now
  pub row_empty : r.count ≡ 0
  pub heads_long : length heads ≡ length e.tags.now
  pub links_long : length links ≡ length e.triangles.now
  pub starts_long : length m.starts.now ≡ suc (length e.tags.now)
  pub cols_long : length m.cols.now ≡ room_of e
  pub values_long : length m.values.now ≡ room_of e
  pub empty : m.count ≡ 0

-- the rows rs in a matrix with room for `room` entries, and zeros behind them
pub record PutsMatrix (old new : Builder) (room : ℕ) (rs : List (List Entry)) : Type 0 where
  pub same : SameBuilder old new
  pub total : new.count ≡ count rs
  pub starts : new.starts.now ≡ splice old.starts.now 0 (starts_of rs)
  pub columns : new.cols.now ≡ padded room 0 (columns_of rs)
  pub values : new.values.now ≡ padded room plus_zero (values_of rs)

-- a row of n zeros
pub record Clears (old new : Row) (n : ℕ) : Type 0 where
  pub same : SameRow old new
  pub values : new.values.now ≡ replicate n plus_zero
  pub cols : new.cols.now ≡ replicate n 0

-- how long each part is
pub record Lengths (e : Elements) (right row values starts cols heads links rowcols : ℕ) : Type 0 where
  pub mesh : AreElements e
  pub right_long : right ≡ length e.tags.now
  pub row_long : row ≡ length e.tags.now
  pub values_long : values ≡ room_of e
  pub starts_long : starts ≡ suc (length e.tags.now)
  pub cols_long : cols ≡ room_of e
  pub heads_long : heads ≡ length e.tags.now
  pub links_long : links ≡ length e.triangles.now
  pub rowcols_long : rowcols ≡ length e.tags.now

-- what is in each part of the assembly of the mesh vs, ts, gs, whose matrix has k entries
pub record Filled (flat : Float) (vs : List Float) (ts gs s₀ : List ℕ) (right row values : List Float) (starts cols heads links rowcols : List ℕ) (k : ℕ) : Type 0 where
  pub total : k ≡ count (rows gs (pushes flat vs ts) (length gs))
  pub side : right ≡ right_side held_value gs (pushes flat vs ts) (length gs)
  pub row_clear : row ≡ replicate (length gs) plus_zero
  pub entries : values ≡ padded (3 * length ts + length gs) plus_zero (values_of (rows gs (pushes flat vs ts) (length gs)))
  pub first : starts ≡ splice s₀ 0 (starts_of (rows gs (pushes flat vs ts) (length gs)))
  pub columns : cols ≡ padded (3 * length ts + length gs) 0 (columns_of (rows gs (pushes flat vs ts) (length gs)))
  pub heads_clear : heads ≡ replicate (length gs) 0
  pub links_clear : links ≡ replicate (length ts) 0
  pub rowcols_clear : rowcols ≡ replicate (length gs) 0
