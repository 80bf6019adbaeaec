-- Vectors of binary64 numbers as lists: the stand-ins of document 01 for the dot product and for x + a p. Each operation rounds once, in the order written here.
-- Definitions only. Assumes nothing.
use Rattle.std.specs.Prelude.{List, [], ◌∷◌, ℕ, ◌+◌, ◌≤◌, Float}
use Rattle.binary64.specs.Arith.{◌⊕◌, ◌⊖◌, ◌⊗◌}
use Rattle.binary64.specs.Constants.{plus_zero}
use Rattle.stretch.specs.Stretch.{Readable}

-- z + u₀ v₀ + u₁ v₁ + .., from the left, as far as both lists go
unfoldable pub dot_from : Float → List Float → List Float → Float
dot_from z [] vs = z
dot_from z (u ∷ us) [] = z
dot_from z (u ∷ us) (v ∷ vs) = dot_from (z ⊕ u ⊗ v) us vs

unfoldable pub dot : List Float → List Float → Float
dot us vs = dot_from plus_zero us vs

-- x + a p, and r − a q: of vectors by mathlib's `zip_with (plus a)`, `zip_with (less a)`
abbrev pub plus : Float → Float → Float → Float
plus a x p = x ⊕ a ⊗ p

abbrev pub less : Float → Float → Float → Float
less a r q = r ⊖ a ⊗ q

-- In a buffer of l places, the n from `at` can be written from the n from u and the n from v, pair by pair.
pub record Zips (l at u v n : ℕ) : Type 0 where
  pub fits : at + n ≤ l
  pub u_fits : u + n ≤ l
  pub v_fits : v + n ≤ l
  pub u_read : Readable at u n
  pub v_read : Readable at v n
