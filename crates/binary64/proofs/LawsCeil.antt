-- `ceil_count` by comparison: 0 where x is not above 0, 2^64 − 1 from 2^64 on, and between them the whole part, or one more where the whole part as a float is below x.
-- The whole part of a double is a double: it has no fraction to lose where the exponent is not negative, and at most 53 digits where it is. Assumes nothing.
use Rattle.std.proofs.Common.{◌≡◌, ℕ, zero, suc, ◌+◌, ◌-◌, ◌*◌, ◌/◌, ◌%◌, ◌^◌, ◌<◌, ◌≤◌, min, Bool, true, false, ◌&&◌, T, eqb, ltb, leb, ℤ, pos, negsuc, sym, refl, ap, ◌∙◌, subst, true≢false, le_trans, lt_of_lt_of_le, lt_of_le_of_lt, zero-lt-suc, mul_assoc, div-lt_iff_lt-mul, add-mul, lt_of_mul-lt-mul_right, le-div_iff_mul-le, zero-mul, mul-one, div-le_self, mul_right_comm, div-mul-le_self, le_of_mul-le-mul_right, div-one, arith, lit<, lit≤, ltb→lt, lt→ltb, pow-add, shl_lt, ltb-false, ltb-true}
use native.Mathlib.Nat.{div-eq_of_lt, div-eq_of_lt-le, lt-div-mul-add}
use mathlib.Core.Bool.{false≢true}
use lib.Ieee.{Float, nan, inf, fin, binary64, fits, up, down, lt, of_bits, of_int, round, to_unsigned}
use lib.Ieee.Fits.{down_pos, and_l, and_r}
use lib.Ieee.Exact.{HasValue, round_exact}
use lib.Ieee.Back.{round_whole}
use Rattle.binary64.specs.Number.{quotient_up, ceil_count}
use Rattle.binary64.specs.Constants.{plus_zero}

-- 2^64
abbrev limit : Float
limit = of_bits binary64 0x43f0_0000_0000_0000

-- ---- rounding a quotient up

module _ (a d : ℕ) (above : 0 < d) where
  -- a is a multiple of d
  up_same : a ≤ a / d * d → quotient_up a d ≡ a / d
  up_same h = div-eq_of_lt-le d (omega (arith, div-mul-le_self a d)) (omega (arith, add-mul (a / d) 1 d))

  -- a is no multiple of d
  up_more : a / d * d < a → quotient_up a d ≡ a / d + 1
  up_more h = div-eq_of_lt-le d (omega (arith, add-mul (a / d) 1 d)) (omega (arith, lt-div-mul-add {a = a} {b = d} above, add-mul (a / d) 1 d, add-mul (a / d + 1) 1 d))

-- ---- 0 where x is not above 0, 2^64 − 1 from 2^64 on

pub ceil_none : (x : Float) → lt plus_zero x ≡ false → 0 ≡ ceil_count x
unfolding lt ceil_count of_bits
ceil_none nan h = refl
ceil_none (inf true) h = refl
ceil_none (inf false) h = absurd (true≢false h)
ceil_none (fin true m e) h = refl
ceil_none (fin false m e) h = none (m * up e) (down e) (down_pos e) h
  where
    none : (a d : ℕ) → 0 < d → ltb (0 * d) (a * 1) ≡ false → 0 ≡ min (quotient_up a d) (2 ^ 64 - 1)
    none a d p h =
        let z : a ≡ 0 = omega (arith, ltb-false (0 * d) (a * 1) h, zero-mul d) in
        let q : quotient_up a d ≡ 0 = div-eq_of_lt (omega arith) in
        omega arith

pub ceil_all : (x : Float) → lt plus_zero x ≡ true → lt x limit ≡ false → 2 ^ 64 - 1 ≡ ceil_count x
unfolding lt ceil_count of_bits
ceil_all nan p h = absurd (false≢true p)
ceil_all (inf true) p h = absurd (false≢true p)
ceil_all (inf false) p h = refl
ceil_all (fin true m e) p h = absurd (false≢true p)
ceil_all (fin false m e) p h = all (m * up e) (down e) (down_pos e) h
  where
    all : (a d : ℕ) → 0 < d → ltb (a * 1) (2 ^ 64 * d) ≡ false → 2 ^ 64 - 1 ≡ min (quotient_up a d) (2 ^ 64 - 1)
    all a d p h =
        let q : 2 ^ 64 ≤ quotient_up a d = (le-div_iff_mul-le p).1 (omega (arith, ltb-false (a * 1) (2 ^ 64 * d) h)) in
        omega arith

-- ---- between them

-- a double has at most 53 digits
digits : (s : Bool) (m : ℕ) (e : ℤ) → T (fits binary64 (fin s m e)) → m < 2 ^ 53
unfolding fits
digits s zero e t = lit< tt
digits s (suc m) e t =
    let a : Bool = eqb (suc m % 2) 1 in
    let b : Bool = ltb (suc m) (2 ^ 53) in
    let c : Bool = leb (down e) (2 ^ 1074) in
    ltb→lt (suc m) (2 ^ 53) (and_r a b (and_l (a && b) c (and_l (a && b && c) (ltb (suc m * up e) (2 ^ 1024 * down e)) t)))

-- the whole part is a double
whole_part : (m : ℕ) (e : ℤ) → m < 2 ^ 53 → m * up e < 2 ^ 64 * down e → HasValue (of_int binary64 (pos (m * up e / down e))) false (m * up e / down e) 1
unfolding of_int
whole_part m (pos k) s u =
    let v : m * 2 ^ k < 2 ^ 64 = omega arith in
    let w : m * 2 ^ k * 2 ^ 1074 ≡ m * 2 ^ (k + 1074) = mul_assoc m (2 ^ k) (2 ^ 1074) ∙ ap (λ (p : ℕ). m * p) (sym (pow-add 2 k 1074)) in
    let fine : m * 2 ^ (k + 1074) < 2 ^ (1074 + 1024) = subst (λ (p : ℕ). p < 2 ^ (1074 + 1024)) w (lt_of_lt_of_le (shl_lt 64 1074 v) (lit≤ tt)) in
    subst (λ (q : ℕ). HasValue (round binary64 false q 1) false q 1) (sym (div-one (m * 2 ^ k)))
    (round_exact binary64 false (m * 2 ^ k) 1 m (k + 1074) (zero-lt-suc 0) s fine (w ∙ sym (mul-one (m * 2 ^ (k + 1074)))))
whole_part m (negsuc k) s u = round_whole binary64 false (m * 1 / 2 ^ suc k) (le_trans (div-le_self (m * 1) (2 ^ suc k)) (omega arith))

-- a whole part with a fraction behind it has at most 53 digits
whole-small : (m : ℕ) (e : ℤ) → m < 2 ^ 53 → m * up e / down e * down e < m * up e → m * up e / down e < 2 ^ 53
whole-small m (pos k) s h = absurd (omega (arith, div-one (m * 2 ^ k)))
whole-small m (negsuc k) s h = lt_of_le_of_lt (div-le_self (m * 1) (2 ^ suc k)) (omega arith)

-- a float that is the number q, compared with m * 2 ^ e
module _ (q m : ℕ) (e : ℤ) where
  times : (b c d : ℕ) → b * 1 ≡ q * c → b * d ≡ q * d * c
  times b c d v = ap (λ (p : ℕ). p * d) (sym (mul-one b) ∙ v) ∙ mul_right_comm q c d

  below : (b : Float) → HasValue b false q 1 → lt b (fin false m e) ≡ true → q * down e < m * up e
  unfolding lt
  below nan v h = elim v [ ]
  below (inf _) v h = elim v [ ]
  below (fin true n g) v h = absurd (true≢false v.0)
  below (fin false n g) v h = lt_of_mul-lt-mul_right (down g) (rw (← times (n * up g) (down g) (down e) v.1) (ltb-true _ _ h))

  reaches : (b : Float) → HasValue b false q 1 → lt b (fin false m e) ≡ false → m * up e ≤ q * down e
  unfolding lt
  reaches nan v h = elim v [ ]
  reaches (inf _) v h = elim v [ ]
  reaches (fin true n g) v h = absurd (true≢false v.0)
  reaches (fin false n g) v h = le_of_mul-le-mul_right (rw (← times (n * up g) (down g) (down e) v.1) (ltb-false _ _ h)) (down_pos g)

-- What is known of x between 0 and 2^64, of its whole part n and of n as a float.
record Cut (m : ℕ) (e : ℤ) (n : ℕ) (b : Float) : Type 0 where
  pub short : m < 2 ^ 53
  pub under : m * up e < 2 ^ 64 * down e
  pub whole : n ≡ m * up e / down e
  pub back : HasValue b false n 1

cut : (m : ℕ) (e : ℤ) (n : ℕ) (b : Float) → T (fits binary64 (fin false m e)) → lt (fin false m e) limit ≡ true → n ≡ to_unsigned 64 (fin false m e) → b ≡ of_int binary64 (pos n) → Cut m e n b
unfolding lt to_unsigned of_bits
cut m e n b t u p q =
    let s : m < 2 ^ 53 = digits false m e t in
    let a : m * up e < 2 ^ 64 * down e = omega (arith, ltb-true (m * up e * 1) (2 ^ 64 * down e) u) in
    let w : m * up e / down e < 2 ^ 64 = (div-lt_iff_lt-mul (down_pos e)).1 a in
    let z : n ≡ m * up e / down e = omega arith in
    record { short = s; under = a; whole = z; back = rw (q, z) (whole_part m e s a) }

pub ceil_more : (x : Float) (n : ℕ) (b : Float) → T (fits binary64 x) → lt plus_zero x ≡ true → lt x limit ≡ true → n ≡ to_unsigned 64 x → b ≡ of_int binary64 (pos n) → lt b x ≡ true → (n < 2 ^ 53) × (n + 1 ≡ ceil_count x)
unfolding lt ceil_count of_bits
ceil_more nan n b t a u p q h = absurd (false≢true a)
ceil_more (inf true) n b t a u p q h = absurd (false≢true a)
ceil_more (inf false) n b t a u p q h = absurd (false≢true u)
ceil_more (fin true m e) n b t a u p q h = absurd (false≢true a)
ceil_more (fin false m e) n b t a u p q h =
    let k = cut m e n b t u p q in
    let l : m * up e / down e * down e < m * up e = rw (← k.whole) (below n m e b k.back h) in
    let w = up_more (m * up e) (down e) (down_pos e) l in
    let s = whole-small m e k.short l in
    (omega (arith, k.whole), omega (arith, k.whole))

pub ceil_same : (x : Float) (n : ℕ) (b : Float) → T (fits binary64 x) → lt plus_zero x ≡ true → lt x limit ≡ true → n ≡ to_unsigned 64 x → b ≡ of_int binary64 (pos n) → lt b x ≡ false → n ≡ ceil_count x
unfolding lt ceil_count of_bits
ceil_same nan n b t a u p q h = absurd (false≢true a)
ceil_same (inf true) n b t a u p q h = absurd (false≢true a)
ceil_same (inf false) n b t a u p q h = absurd (false≢true u)
ceil_same (fin true m e) n b t a u p q h = absurd (false≢true a)
ceil_same (fin false m e) n b t a u p q h =
    let k = cut m e n b t u p q in
    let l : m * up e ≤ m * up e / down e * down e = rw (← k.whole) (reaches n m e b k.back h) in
    let w = up_same (m * up e) (down e) (down_pos e) l in
    let f : m * up e / down e < 2 ^ 64 = (div-lt_iff_lt-mul (down_pos e)).1 k.under in
    omega (arith, k.whole)

-- what the cast to a whole number asks
pub cuttable : (x : Float) → lt plus_zero x ≡ true → lt x limit ≡ true → T (lt (fin true 1 (pos 0)) x) × T (lt x (fin false 1 (pos 64)))
unfolding of_bits lt
cuttable x a u = (above x a, subst T (sym u) tt)
  where
    above : (x : Float) → lt plus_zero x ≡ true → T (lt (fin true 1 (pos 0)) x)
    above nan h = absurd (false≢true h)
    above (inf true) h = absurd (false≢true h)
    above (inf false) h = tt
    above (fin true m e) h = absurd (false≢true h)
    above (fin false m e) h = lt→ltb 0 (1 * down e + m * up e * 1) (omega (arith, down_pos e))
