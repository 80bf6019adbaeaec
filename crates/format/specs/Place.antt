-- A list with other elements from an index on. Definitions only. Assumes nothing.
use Rattle.std.specs.Prelude.{ℕ, suc, List, [], ◌∷◌, set}

-- m with vs from index `at`
unfoldable pub placed : List ℕ → ℕ → List ℕ → List ℕ
placed m at [] = m
placed m at (v ∷ vs) = placed (set m at v) (suc at) vs
