-- The corners of each vertex in rising order, as heads and links: a corner by its number + 1, and 0 for none. Definitions only. Assumes nothing.
use Rattle.std.specs.Prelude.{ℕ, zero, suc, ◌^◌, ◌<◌, ◌≡◌, List, [], ◌∷◌, ◌++◌, length, eqb}
use Rattle.binary64.specs.Number.{pick}
use Rattle.laplace.specs.Matrix.{AllBelow}

-- the first corner that is vertex r, of those in ts, which are numbered from k
unfoldable pub first_from : ℕ → ℕ → List ℕ → ℕ
first_from k r [] = 0
first_from k r (t ∷ ts) = pick (eqb t r) (suc k) (first_from (suc k) r ts)

-- that of each of the first n vertices
unfoldable pub heads_from : ℕ → List ℕ → ℕ → List ℕ
unfolding first_from
heads_from k ts zero = []
heads_from k ts (suc n) = heads_from k ts n ++ (first_from k n ts ∷ [])

-- for each corner the next one that is its vertex
unfoldable pub links_from : ℕ → List ℕ → List ℕ
unfolding first_from
links_from k [] = []
links_from k (t ∷ ts) = first_from (suc k) t ts ∷ links_from (suc k) ts

abbrev pub heads_of : List ℕ → ℕ → List ℕ
heads_of ts n = heads_from 0 ts n

abbrev pub links_of : List ℕ → List ℕ
links_of ts = links_from 0 ts

-- corners of n vertices, with a place for the link of each
pub record Linkable (ts : List ℕ) (n links : ℕ) : Type 0 where
  pub few : length ts < 2 ^ 32
  pub places : links ≡ length ts
  pub corners : AllBelow n ts
