-- How a matrix by rows stands in the buffers: values and columns of all rows one after the other, and the row starts, which count entries. Definitions only. Assumes nothing.
use Rattle.std.specs.Prelude.{ℕ, ◌+◌, ◌-◌, List, [], ◌∷◌, ◌++◌, length, replicate, Float}
use Rattle.sparse.specs.Sparse.{Entry}

-- of one row
unfoldable pub values_in : List Entry → List Float
values_in [] = []
values_in (e ∷ es) = e.value ∷ values_in es

unfoldable pub columns_in : List Entry → List ℕ
columns_in [] = []
columns_in (e ∷ es) = e.col ∷ columns_in es

-- of all rows
unfoldable pub values_of : List (List Entry) → List Float
unfolding values_in
values_of [] = []
values_of (es ∷ rs) = values_in es ++ values_of rs

unfoldable pub columns_of : List (List Entry) → List ℕ
unfolding columns_in
columns_of [] = []
columns_of (es ∷ rs) = columns_in es ++ columns_of rs

-- the running counts, from c
unfoldable pub starts_from : ℕ → List (List Entry) → List ℕ
starts_from c [] = c ∷ []
starts_from c (es ∷ rs) = c ∷ starts_from (c + length es) rs

abbrev pub starts_of : List (List Entry) → List ℕ
starts_of rs = starts_from 0 rs

-- l, and z up to m places in all
unfoldable pub padded {ℓ} : {A : Type ℓ} → ℕ → A → List A → List A
padded m z l = l ++ replicate (m - length l) z
