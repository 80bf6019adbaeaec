-- Stretches of a list, as document 01's vectors stand in the lent buffers: one read, one written, and a list that is several segments in a row.
-- Definitions only. Assumes nothing.
use Rattle.std.specs.Prelude.{◌≡◌, List, [], ◌∷◌, ◌++◌, ℕ, zero, suc, ◌+◌, ◌≤◌, ◌<◌, length, take, drop}

module _ {ℓ} {A : Type ℓ} where
  -- the n elements from `at`
  unfoldable pub part : List A → ℕ → ℕ → List A
  part l at n = take n (drop at l)

  -- l with the stretch that starts at `at` replaced by `new`, as far as l goes
  unfoldable pub splice : List A → ℕ → List A → List A
  splice [] at new = []
  splice (x ∷ xs) zero [] = x ∷ xs
  splice (x ∷ xs) zero (y ∷ ys) = y ∷ splice xs zero ys
  splice (x ∷ xs) (suc at) new = x ∷ splice xs at new

  -- the segments in a row
  unfoldable pub flat : List (List A) → List A
  flat [] = []
  flat (s ∷ ss) = s ++ flat ss

  -- where segment i starts
  unfoldable pub off : List (List A) → ℕ → ℕ
  off ss zero = 0
  off [] (suc i) = 0
  off (s ∷ ss) (suc i) = length s + off ss i

  -- A write of the n places from `at` and of no other: l is the buffer before it, l' after it.
  pub record Wrote (l l' : List A) (at n : ℕ) (new : List A) : Type ℓ where
    pub is : l' ≡ splice l at new
    pub long : length new ≡ n
    pub fits : at + n ≤ length l

-- A stretch of n that starts at u can be read while one that starts at `at` is written from its start on: where it starts before that one, it ends before it.
abbrev pub Readable : ℕ → ℕ → ℕ → Type 0
Readable at u n = u < at → u + n ≤ at

-- In a buffer of l places, the n from `at` can be written from the n from src.
pub record Copies (l src at n : ℕ) : Type 0 where
  pub from : src + n ≤ l
  pub to : at + n ≤ l
  pub read : Readable at src n
