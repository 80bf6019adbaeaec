-- `abs_of` by one comparison with +0: where x is at most 0, either zero included, it is 0 − x, a difference that is exact for a number of the format, and elsewhere it is the number itself. Assumes nothing.
use Rattle.std.proofs.Common.{◌≡◌, ℕ, zero, suc, ◌+◌, ◌-◌, ◌*◌, ◌%◌, ◌^◌, ◌<◌, ◌≤◌, Bool, true, false, ◌&&◌, ◌||◌, T, eqb, ltb, leb, ℤ, pos, negsuc, sym, refl, ap, ◌∙◌, subst, true≢false, lt_of_lt_of_le, zero-lt-suc, mul_assoc, mul-pos, one-mul, zero-mul, mul-one, mul_right_comm, not-le_of_lt, arith, eqb→eq, ltb→lt, leb→le, pow_pos, pow_mono, pow-add, shl_lt, le-ltb, lt-ltb, ne_eqb}
use native.Mathlib.Nat.{pow-succ'}
use mathlib.Core.Bool.{false≢true}
use lib.Pow.{pow-lt}
use lib.Ieee.{Float, nan, inf, fin, binary64, fits, up, down, round, sub, le, of_bits, to_bits}
use lib.Ieee.Bits.{of_bits-to_bits}
use lib.Ieee.Exact.{HasValue, round_exact}
use lib.Ieee.Fits.{up_pos, down_pos, and_l, and_r, round-fits}
use lib.Ieee.Nearest.{div_same}
use lib.Ieee.Scale.{round_same}
use Rattle.binary64.specs.Arith.{◌⊖◌}
use Rattle.binary64.specs.Number.{abs_of}
use Rattle.binary64.specs.Constants.{plus_zero}

-- ---- a number of the format is what its own value is rounded to

-- two numbers of the format with one sign and one value are one, since a pattern depends on these alone
same_bits : (s : Bool) (m : ℕ) (e : ℤ) (n : ℕ) (d : ℤ) → n * up d * down e ≡ m * up e * down d → to_bits binary64 (fin s n d) ≡ to_bits binary64 (fin s m e)
unfolding to_bits
same_bits s m e n d v =
    let q : n * up d * 2 ^ 1074 * down e ≡ m * up e * 2 ^ 1074 * down d = mul_right_comm (n * up d) (2 ^ 1074) (down e) ∙ ap (λ (z : ℕ). z * 2 ^ 1074) v ∙ mul_right_comm (m * up e) (down d) (2 ^ 1074) in
    rw (div_same (n * up d * 2 ^ 1074) (down d) (m * up e * 2 ^ 1074) (down e) (down_pos d) (down_pos e) q)

same : (s : Bool) (m : ℕ) (e : ℤ) (x : Float) → T (fits binary64 (fin s m e)) → T (fits binary64 x) → HasValue x s (m * up e) (down e) → x ≡ fin s m e
same s m e nan h k v = absurd v
same s m e (inf t) h k v = absurd v
same s m e (fin t n d) h k v =
    let i = ap (λ (z : Bool). fin z n d) v.0 in
    i ∙ sym (of_bits-to_bits binary64 (fin s n d) (subst (λ (z : Float). T (fits binary64 z)) i k)) ∙ ap (of_bits binary64) (same_bits s m e n d v.1) ∙ of_bits-to_bits binary64 (fin s m e) h

exact : (s : Bool) (m : ℕ) (e : ℤ) → m < 2 ^ 53 → down e ≤ 2 ^ 1074 → m * up e < 2 ^ 1024 * down e → HasValue (round binary64 s (m * up e) (down e)) s (m * up e) (down e)
exact s m (pos k) a b c =
    let w : m * 2 ^ k * 2 ^ 1074 ≡ m * 2 ^ (k + 1074) = mul_assoc m (2 ^ k) (2 ^ 1074) ∙ ap (λ (p : ℕ). m * p) (sym (pow-add 2 k 1074)) in
    let l : m * 2 ^ k < 2 ^ 1024 = subst (λ (p : ℕ). m * 2 ^ k < p) (mul-one (2 ^ 1024)) c in
    round_exact binary64 s (m * 2 ^ k) 1 m (k + 1074) (zero-lt-suc 0) a (subst (λ (p : ℕ). p < 2 ^ (1074 + 1024)) w (shl_lt 1024 1074 l)) (w ∙ sym (mul-one (m * 2 ^ (k + 1074))))
exact s m (negsuc k) a b c =
    let n : ¬ (1074 < suc k) = λ g. not-le_of_lt (pow-lt g) b in
    let j = 1074 - suc k in
    let i : j + suc k ≡ 1074 = omega arith in
    let w : 2 ^ j * 2 ^ suc k ≡ 2 ^ 1074 = sym (pow-add 2 j (suc k)) ∙ ap (λ (p : ℕ). 2 ^ p) i in
    round_exact binary64 s (m * 1) (2 ^ suc k) m j (pow_pos (suc k)) a (lt_of_lt_of_le (shl_lt 53 j a) (pow_mono {i = 53 + j} {j = 2098} (omega arith)))
    (ap (λ (p : ℕ). p * 2 ^ 1074) (mul-one m) ∙ ap (λ (p : ℕ). m * p) (sym w) ∙ sym (mul_assoc m (2 ^ j) (2 ^ suc k)))

round_own : (s : Bool) (m : ℕ) (e : ℤ) → T (fits binary64 (fin s (suc m) e)) → round binary64 s (suc m * up e) (down e) ≡ fin s (suc m) e
unfolding fits
round_own s m e h =
    let a : Bool = eqb (suc m % 2) 1 in
    let b : Bool = ltb (suc m) (2 ^ 53) in
    let c : Bool = leb (down e) (2 ^ 1074) in
    let d : Bool = ltb (suc m * up e) (2 ^ 1024 * down e) in
    let h3 = and_l (a && b && c) d h in
    let v =
    exact s (suc m) e (ltb→lt (suc m) (2 ^ 53) (and_r a b (and_l (a && b) c h3))) (leb→le (down e) (2 ^ 1074) (and_r (a && b) c h3))
    (ltb→lt (suc m * up e) (2 ^ 1024 * down e) (and_r (a && b && c) d h)) in
    same s (suc m) e (round binary64 s (suc m * up e) (down e)) h (round-fits binary64 s (suc m * up e) (down e)) v

-- ---- at most 0

-- a zero that fits has the exponent 0
flat : (e : ℤ) → up e * down e ≡ 1 → e ≡ pos 0
flat (pos zero) h = refl
flat (pos (suc k)) h = absurd (omega (arith, mul-one (2 ^ suc k), pow-succ' 2 k, pow_pos k))
flat (negsuc k) h = absurd (omega (arith, one-mul (2 ^ suc k), pow-succ' 2 k, pow_pos k))

pub abs_at_most : (x : Float) → T (fits binary64 x) → le x plus_zero ≡ true → plus_zero ⊖ x ≡ abs_of x
unfolding le sub abs_of of_bits fits
abs_at_most nan t h = absurd (false≢true h)
abs_at_most (inf true) t h = refl
abs_at_most (inf false) t h = absurd (false≢true h)
abs_at_most (fin s zero e) t h = subst (λ (d : ℤ). plus_zero ⊖ fin s 0 d ≡ fin false 0 d) (sym (flat e (eqb→eq (up e * down e) 1 t))) (zeros s)
  where
    zeros : (s : Bool) → plus_zero ⊖ fin s 0 (pos 0) ≡ fin false 0 (pos 0)
    zeros true = refl
    zeros false = refl
abs_at_most (fin true (suc m) e) t h =
    round_same binary64 false (0 * 1 * down e + suc m * up e * 1) (1 * down e) (suc m * up e) (down e) (mul-pos (zero-lt-suc 0) (down_pos e)) (down_pos e) (omega arith) ∙ round_own false m e t
abs_at_most (fin false (suc m) e) t h = absurd (none (suc m * up e * 1) (down e) (mul-pos (mul-pos (zero-lt-suc m) (up_pos e)) (zero-lt-suc 0)) h)
  where
    none : (a d : ℕ) → 0 < a → ltb a (0 * d) || (eqb a (0 * d) && true) ≡ true → ⊥
    none a d p h = let z = zero-mul d in false≢true (rw (le-ltb a (0 * d) (omega arith), ne_eqb a (0 * d) (λ e. omega arith)) at h)

-- ---- elsewhere

pub abs_else : (x : Float) → le x plus_zero ≡ false → x ≡ abs_of x
unfolding le abs_of of_bits
abs_else nan h = refl
abs_else (inf true) h = absurd (true≢false h)
abs_else (inf false) h = refl
abs_else (fin false m e) h = refl
abs_else (fin true m e) h = absurd (equal (m * up e * 1) (0 * down e) (zero-mul (down e)) h)
  where
    equal : (a b : ℕ) → b ≡ 0 → ltb 0 (a + b) || (eqb a b && (false || eqb a 0)) ≡ false → ⊥
    equal zero b z h = true≢false (rw z at h)
    equal (suc a) b z h = true≢false (rw (lt-ltb 0 (suc a + b) (omega arith)) at h)
