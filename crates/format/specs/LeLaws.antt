-- The library's little-endian bytes of a number are those of `bytes`, and its number of 4 or 8 bytes is that of `number`. A list in pieces holds its numbers. Assumes nothing.
use Rattle.std.specs.Prelude.{ℕ, zero, suc, ◌+◌, ◌*◌, ◌≤◌, ◌≡◌, refl, List, [], ◌∷◌, map, take, drop}
use Rattle.std.specs.Int.{from_le_bytes, to_le_bytes, w32, w64}
use Rattle.std.proofs.Common.{ap, ap₂, arith, le_of_suc-le-suc}
use Rattle.std.specs.Simd.{first_chunks}
use Rattle.format.specs.Bytes.{number, bytes, numbers}

pub from_four : (s : List ℕ) → from_le_bytes w32 s ≡ number 4 s
unfolding number
from_four [] = omega arith
from_four (a ∷ []) = omega arith
from_four (a ∷ b ∷ []) = omega arith
from_four (a ∷ b ∷ c ∷ []) = omega arith
from_four (a ∷ b ∷ c ∷ d ∷ s) = omega arith

pub from_eight : (s : List ℕ) → from_le_bytes w64 s ≡ number 8 s
unfolding number
from_eight [] = omega arith
from_eight (a ∷ []) = omega arith
from_eight (a ∷ b ∷ []) = omega arith
from_eight (a ∷ b ∷ c ∷ []) = omega arith
from_eight (a ∷ b ∷ c ∷ d ∷ []) = omega arith
from_eight (a ∷ b ∷ c ∷ d ∷ e ∷ []) = omega arith
from_eight (a ∷ b ∷ c ∷ d ∷ e ∷ f ∷ []) = omega arith
from_eight (a ∷ b ∷ c ∷ d ∷ e ∷ f ∷ g ∷ []) = omega arith
from_eight (a ∷ b ∷ c ∷ d ∷ e ∷ f ∷ g ∷ h ∷ s) = omega arith

pub number_take : (w : ℕ) (s : List ℕ) → number w (take w s) ≡ number w s
unfolding number
number_take zero s = refl
number_take (suc w) [] = refl
number_take (suc w) (b ∷ s) = ap (λ (n : ℕ). b + 256 * n) (number_take w s)

pub four : (a b c d a' b' c' d' : ℕ) → a ≡ a' → b ≡ b' → c ≡ c' → d ≡ d' → ◌≡◌ {A = List ℕ} (a ∷ b ∷ c ∷ d ∷ []) (a' ∷ b' ∷ c' ∷ d' ∷ [])
four a b c d a' b' c' d' p q r s = cc

pub to_four : (x : ℕ) → to_le_bytes w32 x ≡ bytes 4 x
unfolding bytes
to_four x = four _ _ _ _ _ _ _ _ (omega arith) (omega arith) (omega arith) (omega arith)

eight : (a b c d e f g h a' b' c' d' e' f' g' h' : ℕ) → a ≡ a' → b ≡ b' → c ≡ c' → d ≡ d' → e ≡ e' → f ≡ f' → g ≡ g' → h ≡ h'
    → ◌≡◌ {A = List ℕ} (a ∷ b ∷ c ∷ d ∷ e ∷ f ∷ g ∷ h ∷ []) (a' ∷ b' ∷ c' ∷ d' ∷ e' ∷ f' ∷ g' ∷ h' ∷ [])
eight a b c d e f g h a' b' c' d' e' f' g' h' p q r s t u v w = cc

pub to_eight : (x : ℕ) → to_le_bytes w64 x ≡ bytes 8 x
unfolding bytes
to_eight x = eight _ _ _ _ _ _ _ _ _ _ _ _ _ _ _ _ (omega arith) (omega arith) (omega arith) (omega arith) (omega arith) (omega arith) (omega arith) (omega arith)

-- ---- a list in pieces of w bytes

pub numbers_pieces : (w k : ℕ) (s : List ℕ) → map (number w) (first_chunks w k s) ≡ numbers w k s
unfolding numbers
numbers_pieces w zero s = refl
numbers_pieces w (suc k) s = ap₂ (λ (n : ℕ) (l : List ℕ). n ∷ l) (number_take w s) (numbers_pieces w k (drop w s))

pub fewer_pieces : (w k m : ℕ) (s : List ℕ) → k ≤ m → take k (first_chunks w m s) ≡ first_chunks w k s
fewer_pieces w zero m s h = refl
fewer_pieces w (suc k) zero s h = absurd (omega arith)
fewer_pieces w (suc k) (suc m) s h = ap (λ (l : List (List ℕ)). take w s ∷ l) (fewer_pieces w k m (drop w s) (le_of_suc-le-suc h))
