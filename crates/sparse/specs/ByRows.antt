-- Compressed sparse rows as three lists: where each row's entries start, and the entries' columns and values. Definitions only. Assumes nothing.
use Rattle.std.specs.Prelude.{◌≡◌, ℕ, zero, suc, ◌+◌, ◌-◌, ◌≤◌, ◌<◌, List, [], ◌∷◌, ◌++◌, length, get_or, Float}
use Rattle.stretch.specs.Stretch.{part}
use Rattle.sparse.specs.Sparse.{Entry, entries}

-- as many values as columns, and each column below n
pub record IsRow (cols : List ℕ) (v n : ℕ) : Type 0 where
  pub as_many : length cols ≡ v
  pub below : (j : ℕ) → j < length cols → get_or cols j 0 < n

-- There is a start, and one more for each row; the starts rise, none is past the entries, and each column is that of a row.
pub record IsByRows (starts cols : List ℕ) (values : List Float) : Type 0 where
  pub started : 0 < length starts
  pub rising : (i : ℕ) → i + 1 < length starts → get_or starts i 0 ≤ get_or starts (i + 1) 0
  pub ends : (i : ℕ) → i + 1 < length starts → get_or starts (i + 1) 0 ≤ length cols
  pub row : IsRow cols (length values) (length starts - 1)

-- row i, and the first k rows
unfoldable pub row_at : List ℕ → List ℕ → List Float → ℕ → List Entry
row_at starts cols values i =
    let from = get_or starts i 0 in
    let k = get_or starts (i + 1) 0 - from in
    entries (part cols from k) (part values from k)

unfoldable pub first_rows : List ℕ → List ℕ → List Float → ℕ → List (List Entry)
unfolding row_at
first_rows starts cols values zero = []
first_rows starts cols values (suc i) = first_rows starts cols values i ++ (row_at starts cols values i ∷ [])
