-- Little-endian numbers in a list of bytes (document 01, section Sheet). Definitions only. Assumes nothing.
use Rattle.std.specs.Prelude.{ℕ, zero, suc, ◌+◌, ◌*◌, ◌/◌, ◌%◌, ◌<◌, List, [], ◌∷◌, ◌++◌, drop, get_or}

-- every element is a byte, as it is in any slice of u8
pub record Bytes (s : List ℕ) : Type 0 where
  pub below : (i : ℕ) → get_or s i 0 < 256

-- The number in the first w bytes of s, the least byte first. A byte that is missing counts as 0.
unfoldable pub number : ℕ → List ℕ → ℕ
number zero s = 0
number (suc w) [] = 0
number (suc w) (b ∷ s) = b + 256 * number w s

-- The w bytes of a number.
unfoldable pub bytes : ℕ → ℕ → List ℕ
bytes zero x = []
bytes (suc w) x = x % 256 ∷ bytes w (x / 256)

-- k numbers of w bytes each, one behind the other.
unfoldable pub numbers : ℕ → ℕ → List ℕ → List ℕ
numbers w zero s = []
numbers w (suc k) s = number w s ∷ numbers w k (drop w s)

unfoldable pub all_bytes : ℕ → List ℕ → List ℕ
all_bytes w [] = []
all_bytes w (x ∷ xs) = bytes w x ++ all_bytes w xs
