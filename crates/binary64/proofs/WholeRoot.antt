-- The whole part of a square root: `whole_root k n` is the one number whose square is at most n and whose successor's square is above it, for n below 4 ^ k;
-- and the method of digits, which finds it two digits of n at a time. Assumes nothing.
use Rattle.std.proofs.Common.{◌≡◌, ℕ, zero, suc, ◌+◌, ◌*◌, ◌/◌, ◌%◌, ◌^◌, ◌<◌, ◌≤◌, Bool, true, false, leb, sym, refl, ap, ◌∙◌, zero-le, lt_of_lt_of_le, lt_of_le_of_lt, mul_assoc, mul-le-mul, mul-div_cancel, arith, pow_mono, pow-add, shl_lt, leb-false, leb-true}
use native.Mathlib.Nat.{pow-succ'}
use lib.Arith.{digits_div}
use Rattle.binary64.specs.Number.{pick}
use Rattle.binary64.specs.Root.{whole_root, square}

-- a square grows with its root, so it tells its root
pub root-lt : (a b : ℕ) → square a < square b → a < b
root-lt a b h = go (leb b a) refl
  where
    go : (t : Bool) → leb b a ≡ t → a < b
    go true e = let l : square b ≤ square a = mul-le-mul (leb-true b a e) (leb-true b a e) in absurd (omega arith)
    go false e = leb-false b a e

pub only_root : (n a b : ℕ) → square a ≤ n → n < square (a + 1) → square b ≤ n → n < square (b + 1) → a ≡ b
only_root n a b la ha lb hb =
    let p : a < b + 1 = root-lt a (b + 1) (omega arith) in
    let q : b < a + 1 = root-lt b (a + 1) (omega arith) in
    omega arith

record Bounds (n r : ℕ) : Type 0 where
  least : square r ≤ n
  most : n < square (r + 1)

-- one digit more: r is twice the root of a quarter of n
digit : (n r : ℕ) → Bounds (n / 4) r → Bounds n (pick (leb (square (2 * r + 1)) n) (2 * r + 1) (2 * r))
digit n r h = go (leb (square (2 * r + 1)) n) refl
  where
    go : (t : Bool) → leb (square (2 * r + 1)) n ≡ t → Bounds n (pick t (2 * r + 1) (2 * r))
    go true e = let l = leb-true (square (2 * r + 1)) n e in record { least = l; most = omega (arith, h.most) }
    go false e = let l = leb-false (square (2 * r + 1)) n e in record { least = omega (arith, h.least); most = l }

bounds : (k n : ℕ) → n < 4 ^ k → Bounds n (whole_root k n)
unfolding whole_root
bounds zero n h = record { least = omega arith; most = omega arith }
bounds (suc k) n h =
    let e = pow-succ' 4 k in
    digit n (whole_root k (n / 4)) (bounds k (n / 4) (omega arith))

pub whole_root-low : (k n : ℕ) → n < 4 ^ k → square (whole_root k n) ≤ n
whole_root-low k n h = (bounds k n h).least

pub whole_root_high : (k n : ℕ) → n < 4 ^ k → n < square (whole_root k n + 1)
whole_root_high k n h = (bounds k n h).most

pub whole_root_unique : (k n r : ℕ) → n < 4 ^ k → square r ≤ n → n < square (r + 1) → r ≡ whole_root k n
whole_root_unique k n r h l u = only_root n r (whole_root k n) l u (whole_root-low k n h) (whole_root_high k n h)

-- a root has at most one digit for each pair of the operand's
pub whole_root-lt : (k n : ℕ) → whole_root k n < 2 ^ k
unfolding whole_root
whole_root-lt zero n = omega arith
whole_root-lt (suc k) n = go (whole_root k (n / 4)) (leb (square (2 * whole_root k (n / 4) + 1)) n) (whole_root-lt k (n / 4))
  where
    go : (r : ℕ) (t : Bool) → r < 2 ^ k → pick t (2 * r + 1) (2 * r) < 2 ^ suc k
    go r true h = omega (arith, pow-succ' 2 k)
    go r false h = omega (arith, pow-succ' 2 k)

-- ---- the method of digits

-- After i turns: r is the root of the digits brought down, rem what its square leaves of them, and m the digits to come, followed by zeros.
pub record Partial (operand i m rem r : ℕ) : Type 0 where
  pub whole : (square r + rem) * 2 ^ 54 + m ≡ operand * 4 ^ i
  pub rest : m < 2 ^ 54
  pub least : rem ≤ 2 * r
  pub long : r < 2 ^ i

-- the digits so far leave room in 64 bits for two more of the operand
pub partial_small : {operand i m rem r : ℕ} → Partial operand i m rem r → i < 54 → r < 2 ^ 53
partial_small {i = i} p h = let l : i ≤ 53 = omega arith in lt_of_lt_of_le p.long (pow_mono l)

-- Two more digits of the operand, with the next digit of the root 0, or 1.
module _ (operand i m rem r : ℕ) (p : Partial operand i m rem r) (m' rem' r' : ℕ) (moved : m' ≡ m % 2 ^ 52 * 4) where
  quadruple : operand * 4 ^ (i + 1) ≡ 4 * (operand * 4 ^ i)
  quadruple = let e = ap (λ (x : ℕ). operand * x) (pow-add 4 i 1) in omega arith

  double : 2 ^ (i + 1) ≡ 2 * 2 ^ i
  double = let e = pow-add 2 i 1 in omega arith

  pub partial_zero : rem' ≡ rem * 4 + m / 2 ^ 52 → rem' < 4 * r + 1 → r' ≡ r * 2 → Partial operand (i + 1) m' rem' r'
  partial_zero e h d = let s = ap square d in omega (arith, quadruple, double)

  pub partial_one : rem' + (4 * r + 1) ≡ rem * 4 + m / 2 ^ 52 → r' ≡ r * 2 + 1 → Partial operand (i + 1) m' rem' r'
  partial_one e d = let s = ap square d in omega (arith, quadruple, double)

-- after 54 turns all digits are brought down, and the root is that of the operand followed by 54 zeros
none_left : (w a n m : ℕ) → a * w + m ≡ n * (w * w) → m < w → a ≡ n * w
none_left w a n m e h = sym (digits_div a h) ∙ ap (λ (x : ℕ). x / w) (e ∙ sym (mul_assoc n w w)) ∙ mul-div_cancel (n * w) (lt_of_le_of_lt zero-le h)

within : (n r rem : ℕ) → square r + rem ≡ n → rem ≤ 2 * r → (square r ≤ n) × (n < square (r + 1))
within n r rem e h = omega arith

pub partial_done : {operand m rem r : ℕ} → operand < 2 ^ 54 → Partial operand 54 m rem r → r ≡ whole_root 54 (operand * 2 ^ 54)
partial_done {operand} {m} {rem} {r} h p =
    let b = within (operand * 2 ^ 54) r rem (none_left (2 ^ 54) (square r + rem) operand m p.whole p.rest) p.least in
    whole_root_unique 54 (operand * 2 ^ 54) r (shl_lt 54 54 h) b.0 b.1
