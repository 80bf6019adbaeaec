-- A sparse matrix as a list of rows, each a list of entries, and its product with a vector: every row's sum runs left to right from +0, product first, then sum (document 01, Stand-ins).
-- Definitions only. Assumes nothing.
use Rattle.std.specs.Prelude.{ℕ, List, [], ◌∷◌, get_or, Float}
use Rattle.std.specs.Float.{nan}
use Rattle.binary64.specs.Arith.{◌⊕◌, ◌⊗◌}
use Rattle.binary64.specs.Constants.{plus_zero}

pub record Entry : Type 0 where
  pub col : ℕ
  pub value : Float

abbrev pub entry : ℕ → Float → Entry
entry j v = record { col = j; value = v }

-- z + v₀ x[c₀] + v₁ x[c₁] + .., from the left
unfoldable pub row_from : Float → List Entry → List Float → Float
row_from z [] x = z
row_from z (e ∷ es) x = row_from (z ⊕ e.value ⊗ get_or x e.col nan) es x

unfoldable pub row_product : List Entry → List Float → Float
unfolding row_from
row_product es x = row_from plus_zero es x

unfoldable pub mat_vec : List (List Entry) → List Float → List Float
unfolding row_product
mat_vec [] x = []
mat_vec (r ∷ rs) x = row_product r x ∷ mat_vec rs x

-- columns and values, pair by pair
unfoldable pub entries : List ℕ → List Float → List Entry
entries [] vs = []
entries (c ∷ cs) [] = []
entries (c ∷ cs) (v ∷ vs) = entry c v ∷ entries cs vs
