-- What a pattern of binary64 is read as, sorted by the exponent's field: zero, subnormal or ordinary (a finite value that is not zero), infinite or blank. Assumes nothing.
use Rattle.std.proofs.Common.{◌≡◌, ℕ, zero, suc, ◌+◌, ◌-◌, ◌*◌, ◌/◌, ◌%◌, ◌^◌, ◌<◌, ◌≤◌, Bool, true, false, cond, T, eqb, ℤ, pos, sym, refl, ap, ◌∙◌, subst, lt_irrefl, mod-eq_of_lt, mul-pos, zero-mul, arith, pow_pos, ne_eqb, le-leb}
use borrow.Author.Tests.{lt-leb}
use lib.Ieee.{Float, nan, inf, fin, binary64, up, down, odd, fits, of_fields, of_bits, to_bits}
use lib.Ieee.Digits.{odd_val}
use lib.Ieee.Fits.{down_pos}
use lib.Ieee.Positive.{positive}
use lib.Ieee.Bits.{of_bits-to_bits, to_bits-lt}

-- ---- a finite value that is not zero

pub record NonZero (s : Bool) (v : Float) : Type 0 where
  pub digits : ℕ
  pub exponent : ℤ
  pub is : v ≡ fin s (suc digits) exponent

some : (s : Bool) (m : ℕ) (e : ℤ) (a c : ℕ) → 0 < a → m * up e * c ≡ a * down e → NonZero s (fin s m e)
some s zero e a c h p =
    let l : 0 < a * down e = mul-pos h (down_pos e) in
    let z : 0 * up e * c ≡ 0 = ap (λ (x : ℕ). x * c) (zero-mul (up e)) ∙ zero-mul c in
    absurd (omega arith)
some s (suc m) e a c h p = record { digits = m; exponent = e; is = refl }

odd_some : (d : ℕ) (s : Bool) (q k l : ℕ) → 0 < q → NonZero s (odd d s q k l)
unfolding odd
odd_some d s zero k l h = absurd (lt_irrefl 0 h)
odd_some d s (suc q) k l h = some s _ _ (suc q * 2 ^ k) (2 ^ l) (mul-pos h (pow_pos k)) (odd_val d s (suc q) k l)

pub fields_some : (s : Bool) (f t : ℕ) → f < 2047 → 0 < f + t → NonZero s (of_fields binary64 s f t)
unfolding of_fields
fields_some s zero t l h = odd_some 53 s t 0 1074 (omega arith)
fields_some s (suc f) t l h = rw (ne_eqb (suc f) 2047 (omega arith)) (odd_some 53 s (2 ^ 52 + t) f 1074 (omega arith))

pub fields_zero : (s : Bool) → of_fields binary64 s 0 0 ≡ fin s 0 (pos 0)
unfolding of_fields odd
fields_zero s = refl

-- the highest field: an infinity, or no number
pub fields_top : (s : Bool) (t : ℕ) → of_fields binary64 s 2047 t ≡ cond (eqb t 0) (inf s) nan
unfolding of_fields
fields_top s t = refl

-- ---- a pattern's sign and fields

pub bits-plus : (b : ℕ) → b < 2 ^ 63 → of_bits binary64 b ≡ of_fields binary64 false (b / 2 ^ 52) (b % 2 ^ 52)
unfolding of_bits
bits-plus b h = rw (lt-leb (2 ^ 63) b h, mod-eq_of_lt h)

pub bits-minus : (b : ℕ) → 2 ^ 63 ≤ b → b < 2 ^ 64 → of_bits binary64 b ≡ of_fields binary64 true ((b - 2 ^ 63) / 2 ^ 52) ((b - 2 ^ 63) % 2 ^ 52)
unfolding of_bits
bits-minus b l h =
    let e : b % 2 ^ 63 ≡ b - 2 ^ 63 = omega arith in
    let d : b % 2 ^ 52 ≡ (b - 2 ^ 63) % 2 ^ 52 = omega arith in
    rw (le-leb (2 ^ 63) b l, e, d)

-- ---- a positive finite value's pattern is above 0 and below the infinity's

-- what `of_fields` picks from, with the sign set
picks_minus : (a c : Bool) (v : Float) → positive v ≡ false → positive (cond a (cond c (inf true) nan) v) ≡ false
picks_minus true true v h = refl
picks_minus true false v h = refl
picks_minus false c v h = h

odd_minus : (d q k l : ℕ) → positive (odd d true q k l) ≡ false
unfolding odd
odd_minus d zero k l = refl
odd_minus d (suc q) k l = refl

fields_minus : (f t : ℕ) → positive (of_fields binary64 true f t) ≡ false
unfolding of_fields
fields_minus zero t = odd_minus 53 t 0 1074
fields_minus (suc f) t = picks_minus (eqb (suc f) 2047) (eqb t 0) (odd 53 true (2 ^ 52 + t) f 1074) (odd_minus 53 (2 ^ 52 + t) f 1074)

top_none : (t : Bool) → positive (cond t (inf false) nan) ≡ false
top_none true = refl
top_none false = refl

module _ (x : Float) (h : T (fits binary64 x)) (p : T (positive x)) where
  read : x ≡ of_bits binary64 (to_bits binary64 x)
  read = sym (of_bits-to_bits binary64 x h)

  not_other : (v : Float) → x ≡ v → positive v ≡ false → ⊥
  not_other v e f = subst T (ap positive e ∙ f) p

  pub pattern_range : (0 < to_bits binary64 x) × (to_bits binary64 x < 2047 * 2 ^ 52)
  pattern_range =
      let b = to_bits binary64 x in
      let w : b < 2 ^ 64 = to_bits-lt binary64 x h in
      let minus : ¬ (2 ^ 63 ≤ b) = λ l. not_other _ (read ∙ bits-minus b l w) (fields_minus ((b - 2 ^ 63) / 2 ^ 52) ((b - 2 ^ 63) % 2 ^ 52)) in
      let plus : b < 2 ^ 63 = omega arith in
      let top : ¬ (b / 2 ^ 52 ≡ 2047) = λ e. not_other _ (read ∙ bits-plus b plus ∙ ap (λ (f : ℕ). of_fields binary64 false f (b % 2 ^ 52)) e ∙ fields_top false (b % 2 ^ 52)) (top_none (eqb (b % 2 ^ 52) 0)) in
      let none : ¬ (b ≡ 0) = λ e. not_other _ (read ∙ ap (of_bits binary64) e ∙ bits-plus 0 (omega arith) ∙ fields_zero false) refl in
      omega arith
