-- `root` of a value by its pattern, sort by sort, and the bounds of the pattern that it gives. Assumes nothing.
use Rattle.std.proofs.Common.{◌≡◌, ℕ, zero, suc, ◌+◌, ◌-◌, ◌*◌, ◌/◌, ◌%◌, ◌^◌, ◌<◌, ◌≤◌, Bool, true, false, cond, not, T, eqb, ltb, leb, pos, sym, refl, ap, ◌∙◌, subst, mul-le-mul_right, mod-eq_of_lt, mul_comm, mul-one, arith, pow-add, shl_lt, ltb-false, ltb-true, le-ltb, leb-false, leb-true}
use lib.Count.{count_leading_zeros, leading_unique}
use lib.Ieee.{Float, nan, inf, fin, binary64, size, fits, is_nan, nan_bits, of_fields, of_bits, to_bits}
use lib.Ieee.Digits.{size-lt, size_reaches, size-le}
use lib.Ieee.Bits.{of_bits-to_bits, to_bits-of_bits, to_bits-lt, nan_bits_above, nan_bits_is}
use Rattle.binary64.specs.Root.{root, root_of, root_pattern, whole_root}
use Rattle.binary64.proofs.WholeRoot.{whole_root-lt}
use Rattle.binary64.proofs.Patterns.{NonZero, fields_some, fields_zero, fields_top, bits-plus, bits-minus}

-- ---- a subnormal's digits moved up to 53

pub record Raised (t z : ℕ) : Type 0 where
  pub most : z ≤ 52
  pub least : 2 ^ 52 ≤ t * 2 ^ z
  pub long : t * 2 ^ z < 2 ^ 53

pub size_pos : (t : ℕ) → 0 < t → 0 < size t
size_pos t h = go (size t) (size-lt t)
  where
    go : (s : ℕ) → t < 2 ^ s → 0 < s
    go zero l = omega arith
    go (suc s) l = omega arith

pub raised : (t : ℕ) → 0 < t → t < 2 ^ 52 → Raised t (53 - size t)
raised t p h =
    let s = size t in
    let lo : 0 < s = size_pos t p in
    let hi : s ≤ 52 = size-le t 52 h in
    let low : 2 ^ (s - 1) * 2 ^ (53 - s) ≤ t * 2 ^ (53 - s) = mul-le-mul_right (2 ^ (53 - s)) (size_reaches t (s - 1) (omega arith)) in
    let up : t * 2 ^ (53 - s) < 2 ^ (s + (53 - s)) = shl_lt s (53 - s) (size-lt t) in
    let a : s - 1 + (53 - s) ≡ 52 = omega arith in
    let b : s + (53 - s) ≡ 53 = omega arith in
    record {
      most = omega arith;
      least = subst (λ (x : ℕ). x ≤ t * 2 ^ (53 - s)) (sym (pow-add 2 (s - 1) (53 - s)) ∙ ap (λ (x : ℕ). 2 ^ x) a) low;
      long = subst (λ (x : ℕ). t * 2 ^ (53 - s) < 2 ^ x) b up;
    }

-- the leading zeros of 64 digits say how far
zeros_size : (t : ℕ) → 0 < t → t < 2 ^ 52 → count_leading_zeros 64 t ≡ 64 - size t
zeros_size t p h =
    let s = size t in
    let lo : 0 < s = size_pos t p in
    let hi : s ≤ 52 = size-le t 52 h in
    let low : 2 ^ (s - 1) ≤ t = size_reaches t (s - 1) (omega arith) in
    let e : 2 ^ s ≡ 2 * 2 ^ (s - 1) = ap (λ (x : ℕ). 2 ^ x) (before s lo) ∙ pow-add 2 1 (s - 1) in
    sym (leading_unique 64 t (64 - s) s (omega arith) (size-lt t) (omega arith))
  where
    before : (s : ℕ) → 0 < s → s ≡ 1 + (s - 1)
    before s l = omega arith

pub record Shift (t lz : ℕ) : Type 0 where
  pub eleven : 11 ≤ lz
  pub is : lz - 11 ≡ 53 - size t
  pub raises : Raised t (lz - 11)

pub shift : (t : ℕ) → 0 < t → t < 2 ^ 52 → Shift t (count_leading_zeros 64 t)
shift t p h =
    let e = zeros_size t p h in
    let hi : size t ≤ 52 = size-le t 52 h in
    let z : count_leading_zeros 64 t - 11 ≡ 53 - size t = omega arith in
    record { eleven = omega arith; is = z; raises = rw z (raised t p h) }

-- ---- the pattern of a root

-- an operand at an odd exponent is doubled
pub even_operand : (g m : ℕ) → g % 2 ≡ 0 → m ≡ m * 2 ^ (g % 2)
even_operand g m e = sym (ap (λ (x : ℕ). m * 2 ^ x) e ∙ mul-one m)

pub odd_operand : (g m : ℕ) → (g % 2 ≡ 0 → ⊥) → 2 * m ≡ m * 2 ^ (g % 2)
odd_operand g m n = let e : g % 2 ≡ 1 = omega arith in sym (ap (λ (x : ℕ). m * 2 ^ x) e ∙ mul_comm m 2)

pub pattern_is : (g m o r : ℕ) → o ≡ m * 2 ^ (g % 2) → r ≡ (whole_root 54 (o * 2 ^ 54) + 1) / 2 → (g / 2 - 1) * 2 ^ 52 + r ≡ root_pattern g m
unfolding root_pattern
pattern_is g m o r e d = ap (λ (x : ℕ). (g / 2 - 1) * 2 ^ 52 + x) (d ∙ ap (λ (x : ℕ). (whole_root 54 (x * 2 ^ 54) + 1) / 2) e)

-- it is below the infinity's

pattern_lt : (g m : ℕ) → g < 4092 → root_pattern g m < 2047 * 2 ^ 52
unfolding root_pattern
pattern_lt g m h = let l = whole_root-lt 54 (m * 2 ^ (g % 2) * 2 ^ 54) in omega arith

pub root_of-lt : (f t : ℕ) → f < 2047 → root_of f t < 2047 * 2 ^ 52
unfolding root_of
root_of-lt zero t h = pattern_lt (1024 - (53 - size t)) (t * 2 ^ (53 - size t)) (omega arith)
root_of-lt (suc f) t h = pattern_lt (1024 + f) (2 ^ 52 + t) (omega arith)

no_nan : (b : ℕ) → b < 2047 * 2 ^ 52 → nan_bits binary64 b ≡ false
no_nan b h = nan_bits_above binary64 b ∙ le-ltb (2047 * 2 ^ 52) (b % 2 ^ 63) (omega arith)

pub number : (b : ℕ) → b < 2047 * 2 ^ 52 → T (not (nan_bits binary64 b))
number b h = subst (λ (t : Bool). T (not t)) (sym (no_nan b h)) tt

pub root_no_nan : (f t r : ℕ) → f < 2047 → r ≡ root_of f t → T (not (nan_bits binary64 r))
root_no_nan f t r h e = subst (λ (n : ℕ). T (not (nan_bits binary64 n))) (sym e) (number (root_of f t) (root_of-lt f t h))

not_nan : (b : ℕ) → b < 2047 * 2 ^ 52 → is_nan (of_bits binary64 b) ≡ false
not_nan b h = sym (nan_bits_is binary64 b) ∙ no_nan b h

pub same_bits : (b : ℕ) → b < 2047 * 2 ^ 52 → to_bits binary64 (of_bits binary64 b) ≡ b
same_bits b h = to_bits-of_bits binary64 b (omega arith) (subst (λ (t : Bool). T (not t)) (sym (not_nan b h)) tt)

-- the two sorts of positive finite values
pub ordinary_is : (f t : ℕ) → 0 < f → root_pattern (1023 + f) (2 ^ 52 + t) ≡ root_of f t
unfolding root_of
ordinary_is zero t h = absurd (omega arith)
ordinary_is (suc f) t h = let e : 1023 + suc f ≡ 1024 + f = omega arith in ap (λ (g : ℕ). root_pattern g (2 ^ 52 + t)) e

pub subnormal_is : (t z : ℕ) → z ≡ 53 - size t → t * 2 ^ z < 2 ^ 53 → root_pattern (1024 - z) (t * 2 ^ z % 2 ^ 64) ≡ root_of 0 t
unfolding root_of
subnormal_is t z e h =
    let m : t * 2 ^ z % 2 ^ 64 ≡ t * 2 ^ z = mod-eq_of_lt (omega arith) in
    ap (root_pattern (1024 - z)) m ∙ ap (λ (y : ℕ). root_pattern (1024 - y) (t * 2 ^ y)) e

-- ---- the root of a value, sort by sort

pub of_nan : (v : Float) → v ≡ nan → v ≡ root v
unfolding root
of_nan v e = e ∙ ap root (sym e)

zero_same : (v : Float) (s : Bool) → v ≡ fin s 0 (pos 0) → v ≡ root v
unfolding root
zero_same v s e = e ∙ ap root (sym e)

top_plus : (v : Float) (t : Bool) → v ≡ cond t (inf false) nan → v ≡ root v
unfolding root
top_plus v true e = e ∙ ap root (sym e)
top_plus v false e = e ∙ ap root (sym e)

top_minus : (v : Float) (t : Bool) → v ≡ cond t (inf true) nan → root v ≡ nan
unfolding root
top_minus v true e = ap root e
top_minus v false e = ap root e

some_minus : (v : Float) → NonZero true v → root v ≡ nan
unfolding root
some_minus v n = ap root n.is

some_plus : (v : Float) → NonZero false v → root v ≡ of_bits binary64 (root_of (to_bits binary64 v / 2 ^ 52) (to_bits binary64 v % 2 ^ 52))
unfolding root
some_plus v n = rw n.is

-- A value that the format holds is what its pattern b is read as.
module _ (x : Float) (h : T (fits binary64 x)) (b : ℕ) (is : to_bits binary64 x ≡ b) where
  read : x ≡ of_bits binary64 b
  read = sym (of_bits-to_bits binary64 x h) ∙ ap (of_bits binary64) is

  wide : b < 2 ^ 64
  wide = subst (λ (n : ℕ). n < 2 ^ 64) is (to_bits-lt binary64 x h)

  pub of_zero : b / 2 ^ 52 % 2048 ≡ 0 → b % 2 ^ 52 ≡ 0 → x ≡ root x
  of_zero f t = go (leb (2 ^ 63) b) refl
    where
      go : (s : Bool) → leb (2 ^ 63) b ≡ s → x ≡ root x
      go true e =
          let l = leb-true (2 ^ 63) b e in
          let w = wide in
          let n : (b - 2 ^ 63) / 2 ^ 52 ≡ 0 = omega arith in
          let d : (b - 2 ^ 63) % 2 ^ 52 ≡ 0 = omega arith in
          zero_same x true (read ∙ bits-minus b l w ∙ rw (n, d) (fields_zero true))
      go false e =
          let l = leb-false (2 ^ 63) b e in
          let n : b / 2 ^ 52 ≡ 0 = omega arith in
          zero_same x false (read ∙ bits-plus b l ∙ rw (n, t) (fields_zero false))

  -- subnormal and ordinary
  pub of_some : 0 < b → b < 2047 * 2 ^ 52 → root x ≡ of_bits binary64 (root_of (b / 2 ^ 52) (b % 2 ^ 52))
  of_some p l =
      let s = fields_some false (b / 2 ^ 52) (b % 2 ^ 52) (omega arith) (omega arith) in
      rw is at (some_plus x (subst (λ (v : Float). NonZero false v) (sym (read ∙ bits-plus b (omega arith))) s))

  pub of_fields_lem : (f r : ℕ) → b / 2 ^ 52 ≡ f → 0 < b → f < 2047 → r ≡ root_of f (b % 2 ^ 52) → of_bits binary64 r ≡ root x
  of_fields_lem f r d p l e = ap (of_bits binary64) (e ∙ ap (λ (y : ℕ). root_of y (b % 2 ^ 52)) (sym d)) ∙ sym (of_some p (omega arith))

  pub of_top : b / 2 ^ 52 ≡ 2047 → x ≡ root x
  of_top f = top_plus x (eqb (b % 2 ^ 52) 0) (read ∙ bits-plus b (omega arith) ∙ rw f (fields_top false (b % 2 ^ 52)))

  pub of_minus : 2 ^ 63 < b → root x ≡ nan
  of_minus l = go (ltb ((b - 2 ^ 63) / 2 ^ 52) 2047) refl
    where
      pattern : x ≡ of_fields binary64 true ((b - 2 ^ 63) / 2 ^ 52) ((b - 2 ^ 63) % 2 ^ 52)
      pattern = read ∙ bits-minus b (omega arith) wide

      go : (s : Bool) → ltb ((b - 2 ^ 63) / 2 ^ 52) 2047 ≡ s → root x ≡ nan
      go true e =
          let f = ltb-true ((b - 2 ^ 63) / 2 ^ 52) 2047 e in
          some_minus x (subst (λ (v : Float). NonZero true v) (sym pattern) (fields_some true ((b - 2 ^ 63) / 2 ^ 52) ((b - 2 ^ 63) % 2 ^ 52) f (omega arith)))
      go false e =
          let f = ltb-false ((b - 2 ^ 63) / 2 ^ 52) 2047 e in
          let w = wide in
          let n : (b - 2 ^ 63) / 2 ^ 52 ≡ 2047 = omega arith in
          top_minus x (eqb ((b - 2 ^ 63) % 2 ^ 52) 0) (pattern ∙ rw n (fields_top true ((b - 2 ^ 63) % 2 ^ 52)))
