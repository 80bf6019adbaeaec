-- A root guessed and made certain: what the square of a · 2^26 + b leaves, product by product, and how far the nearest root is from there.
-- The whole number p + 1 is the nearest to the root of y where y is above p² + p and at most p² + 3p + 2, the squares of the midpoints beside it less a quarter. Assumes nothing.
use Rattle.std.proofs.Common.{◌≡◌, ℕ, ◌+◌, ◌*◌, ◌/◌, ◌%◌, ◌^◌, ◌<◌, ◌≤◌, Bool, true, false, ltb, refl, ◌∙◌, subst, add-zero, arith, shl_lt, ltb-false, ltb-true}
use Rattle.binary64.specs.Number.{pick}
use Rattle.binary64.specs.Root.{whole_root, square}
use Rattle.binary64.proofs.WholeRoot.{root-lt, whole_root-low, whole_root_high}

-- ---- the remainder

halves : (operand a b first second rest : ℕ) → first + a * a ≡ operand → second + 2 * a * b ≡ first * 2 ^ 26 → rest + b * b ≡ second * 2 ^ 26 → (a * 2 ^ 26 + b) * (a * 2 ^ 26 + b) + rest ≡ operand * 2 ^ 52
halves operand a b first second rest e f g = omega arith

pub taken_off : (operand q first second rest : ℕ) → first + q / 2 ^ 26 * (q / 2 ^ 26) ≡ operand → second + 2 * (q / 2 ^ 26) * (q % 2 ^ 26) ≡ first * 2 ^ 26 → rest + q % 2 ^ 26 * (q % 2 ^ 26) ≡ second * 2 ^ 26 → q * q + rest ≡ operand * 2 ^ 52
taken_off operand q first second rest e f g =
    let s : q / 2 ^ 26 * 2 ^ 26 + q % 2 ^ 26 ≡ q = omega arith in
    subst (λ (x : ℕ). x * x + rest ≡ operand * 2 ^ 52) s (halves operand (q / 2 ^ 26) (q % 2 ^ 26) first second rest e f g)

-- ---- the nearest root

-- 54 digits of the root, of which the last rounds, give the whole number nearest to the root of a quarter
near : (n y p : ℕ) → n ≡ 4 * y → n < 4 ^ 54 → square p + p < y → y ≤ square p + 3 * p + 2 → p + 1 ≡ (whole_root 54 n + 1) / 2
near n y p e h l u =
    let w : ℕ = whole_root 54 n in
    let a : square w ≤ n = whole_root-low 54 n h in
    let b : n < square (w + 1) = whole_root_high 54 n h in
    let c : w < 2 * p + 3 = root-lt w (2 * p + 3) (omega arith) in
    let d : 2 * p + 1 < w + 1 = root-lt (2 * p + 1) (w + 1) (omega arith) in
    omega arith

module _ (operand q rest : ℕ) (h : operand < 2 ^ 54) (found : q * q + rest ≡ operand * 2 ^ 52) where
  near_by : (r k : ℕ) → r ≡ q + k + 1 → square (q + k) + (q + k) < q * q + rest → q * q + rest ≤ square (q + k) + 3 * (q + k) + 2 → r ≡ (whole_root 54 (operand * 2 ^ 54) + 1) / 2
  near_by r k e l u = e ∙ near (operand * 2 ^ 54) (operand * 2 ^ 52) (q + k) (omega arith) (shl_lt 54 54 h) (omega arith) (omega arith)

  pub next_is : q < rest → rest ≤ 3 * q + 2 → q + 1 ≡ (whole_root 54 (operand * 2 ^ 54) + 1) / 2
  next_is l u = near_by (q + 1) 0 (omega arith) (omega arith) (omega arith)

  pub nearest_is : q < rest → rest ≤ 7 * q + 12 → q + 1 + pick (ltb (3 * q + 2) rest) 1 0 + pick (ltb (5 * q + 6) rest) 1 0 ≡ (whole_root 54 (operand * 2 ^ 54) + 1) / 2
  nearest_is l u = go (ltb (3 * q + 2) rest) (ltb (5 * q + 6) rest) refl refl
    where
      go : (a b : Bool) → ltb (3 * q + 2) rest ≡ a → ltb (5 * q + 6) rest ≡ b → q + 1 + pick a 1 0 + pick b 1 0 ≡ (whole_root 54 (operand * 2 ^ 54) + 1) / 2
      go false false e f = let i = ltb-false (3 * q + 2) rest e in add-zero (q + 1 + 0) ∙ add-zero (q + 1) ∙ next_is l i
      go false true e f = let i = ltb-false (3 * q + 2) rest e in let j = ltb-true (5 * q + 6) rest f in absurd (omega arith)
      go true false e f = let i = ltb-true (3 * q + 2) rest e in let j = ltb-false (5 * q + 6) rest f in near_by (q + 1 + 1 + 0) 1 (omega arith) (omega arith) (omega arith)
      go true true e f = let j = ltb-true (5 * q + 6) rest f in near_by (q + 1 + 1 + 1) 2 (omega arith) (omega arith) (omega arith)
