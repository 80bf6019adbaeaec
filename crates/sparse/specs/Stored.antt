-- A matrix as it stands in the two buffers, and what has to hold of its row starts and columns for it to be read. Definitions only. Assumes nothing.
use Rattle.std.specs.Prelude.{ℕ, zero, suc, ◌+◌, ◌-◌, ◌≤◌, ◌<◌, List, [], ◌∷◌, ◌++◌, length, get_or, Float}
use Rattle.stretch.specs.Stretch.{part}
use Rattle.sparse.specs.Sparse.{Entry, entries}

-- `rows` + 1 row starts from `starts` and `count` columns from `cols` in the words, `count` values from `vals` in the floats. A row start counts entries.
pub record CsrAt : Type 0 where
  pub starts : ℕ
  pub cols : ℕ
  pub vals : ℕ
  pub rows : ℕ
  pub count : ℕ

-- where row i starts and ends among the entries
abbrev pub start : List ℕ → CsrAt → ℕ → ℕ
start words m i = get_or words (m.starts + i) 0

abbrev pub end : List ℕ → CsrAt → ℕ → ℕ
end words m i = get_or words (m.starts + i + 1) 0

-- row i, and the first k rows
unfoldable pub row_at : List ℕ → List Float → CsrAt → ℕ → List Entry
row_at words floats m i = entries (part words (m.cols + start words m i) (end words m i - start words m i)) (part floats (m.vals + start words m i) (end words m i - start words m i))

unfoldable pub rows_of : List ℕ → List Float → CsrAt → ℕ → List (List Entry)
unfolding row_at
rows_of words floats m zero = []
rows_of words floats m (suc i) = rows_of words floats m i ++ (row_at words floats m i ∷ [])

abbrev pub matrix : List ℕ → List Float → CsrAt → List (List Entry)
matrix words floats m = rows_of words floats m m.rows

-- ---- what a scan establishes

-- the starts of the first k rows rise, and none is past the count of the entries
pub record Rising (words : List ℕ) (m : CsrAt) (k : ℕ) : Type 0 where
  pub at : (i : ℕ) → i < k → (start words m i ≤ end words m i) × (end words m i ≤ m.count)

-- the k words from c are below n
pub record Below (words : List ℕ) (c n k : ℕ) : Type 0 where
  pub at : (j : ℕ) → j < k → get_or words (c + j) 0 < n

pub record Sound (words : List ℕ) (m : CsrAt) : Type 0 where
  pub starts_fit : m.starts + m.rows < length words
  pub columns_fit : m.cols + m.count ≤ length words
  pub rising : Rising words m m.rows
  pub below : Below words m.cols m.rows m.count
