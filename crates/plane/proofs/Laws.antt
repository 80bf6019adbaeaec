-- Of the projection's range: its upper end as the code adds it up, and that a quotient d / l with 0 < d < l lies in it, as in any range from below 0 to 1 or more: it is from 0 to 1.
-- Such a d is finite, and such an l is not 0; if l is infinite, the quotient is 0. Assumes nothing.
use mathlib.Core.Path.{◌≡◌, refl, ap, ◌∙◌, subst}
use mathlib.Core.Bool.{true, false, false≢true, ◌&&◌, ◌||◌}
use Prim.Native.Nat.{ℕ, ◌+◌, ◌*◌, ◌≤◌, ◌<◌}
use native.Mathlib.Nat.{zero-mul, mul-pos, mul-le-mul, le_of_eq, le_of_lt, lt_of_le_of_lt}
use native.Mathlib.Omega.{arith}
use borrow.Author.Tests.{ltb-true, lt-ltb, ne_eqb}
use lib.Dec.{T, eqb, eqb→eq, ltb→lt, lit≤, lit<}
use lib.IntN.{ℤ, pos}
use lib.Ieee.{Float, nan, inf, fin, binary64, up, down, round, neg, add, div, lt, le, of_bits}
use lib.Ieee.Bits.{is_true}
use lib.Ieee.Fits.{up_pos, down_pos, and_l}
use lib.Ieee.Order.{round_mono}
use lib.Ieee.Positive.{num, den, den_pos, positive, first_pos}
use Rattle.binary64.specs.Arith.{◌⊕◌, ◌⊘◌}
use Rattle.binary64.specs.Constants.{plus_zero, one, small, one_and_small}
use Rattle.binary64.specs.NumberLaws.{both}

pub one_and_small_lem : one ⊕ small ≡ one_and_small
unfolding add of_bits
one_and_small_lem = refl

-- ---- a quotient from 0 to 1

some : (m : ℕ) (e d : ℤ) → T (positive (fin false m e)) → 0 < m * up e * down d
some m e d p = mul-pos (mul-pos (ltb→lt 0 m p) (up_pos e)) (down_pos d)

-- what is not below 0 is above −s
above_minus : (s x : Float) → T (positive s) → T (le (fin false 0 (pos 0)) x) → le (neg s) x ≡ true
unfolding le neg
above_minus nan x p h = absurd p
above_minus (inf u) x p h = absurd p
above_minus (fin true m e) x p h = absurd p
above_minus (fin false m e) nan p h = absurd h
above_minus (fin false m e) (inf true) p h = absurd h
above_minus (fin false m e) (inf false) p h = refl
above_minus (fin false m e) (fin true n d) p h =
    let z : n * up d ≡ 0 = omega (arith, eqb→eq (0 * 1 * down d) (n * up d * 1) (and_l (eqb (0 * 1 * down d) (n * up d * 1)) (false || eqb (0 * 1 * down d) 0) h)) in
    let l : n * up d * down e < m * up e * down d = lt_of_le_of_lt (le_of_eq (ap (λ (k : ℕ). k * down e) z ∙ zero-mul (down e))) (some m e d p) in
    rw (lt-ltb (n * up d * down e) (m * up e * down d) l)
above_minus (fin false m e) (fin false n d) p h = rw (lt-ltb 0 (m * up e * down d + n * up d * down e) (omega (arith, some m e d p)))

zero_rounds : round binary64 false 0 1 ≡ fin false 0 (pos 0)
unfolding round
zero_rounds = refl

-- from −s to a t that is 1 or more, and that is what its own value is rounded to
module _ (s t : Float) (p : T (positive s)) (most : den t ≤ num t) (own : round binary64 false (num t) (den t) ≡ t) where
  abbrev Inside : Float → Type 0
  Inside x = (le (neg s) x && le x t) ≡ true

  rounded : (a c : ℕ) → a ≤ c → 0 < c → Inside (round binary64 false a c)
  rounded a c h l =
      let x = round binary64 false a c in
      let k : a * den t ≤ c * num t = mul-le-mul h most in
      let u : T (le x t) = subst (λ (z : Float). T (le x z)) own (round_mono binary64 a c (num t) (den t) l (den_pos t) (omega arith)) in
      let o : T (le (fin false 0 (pos 0)) x) = subst (λ (z : Float). T (le z x)) zero_rounds (round_mono binary64 0 1 a c (lit< tt) l (omega arith)) in
      rw (above_minus s x p o, is_true (le x t) u)

  divided : (d l : Float) → lt plus_zero d ≡ true → lt d l ≡ true → Inside (d ⊘ l)
  unfolding lt div of_bits
  divided nan l g h = absurd (false≢true g)
  divided (inf true) l g h = absurd (false≢true g)
  divided (inf false) nan g h = absurd (false≢true h)
  divided (inf false) (inf u) g h = absurd (false≢true h)
  divided (inf false) (fin u n i) g h = absurd (false≢true h)
  divided (fin true m e) l g h = absurd (false≢true g)
  divided (fin false m e) nan g h = absurd (false≢true h)
  divided (fin false m e) (inf true) g h = absurd (false≢true h)
  divided (fin false m e) (inf false) g h = subst Inside zero_rounds (rounded 0 1 (lit≤ tt) (lit< tt))
  divided (fin false m e) (fin true n i) g h = absurd (false≢true h)
  divided (fin false m e) (fin false n i) g h =
      let k = ltb-true (m * up e * down i) (n * up i * down e) h in
      let z : 0 < n = first_pos n (up i) (first_pos (n * up i) (down e) (omega arith)) in
      rw (ne_eqb n 0 (omega arith)) (rounded (m * up e * down i) (n * up i * down e) (le_of_lt k) (omega arith))

  inside : (d l : Float) → (lt plus_zero d && lt d l) ≡ true → (le (neg s) (d ⊘ l) && le (d ⊘ l) t) ≡ true
  inside d l h = let k = both _ _ h in divided d l k.0 k.1

pub in_range : (d l : Float) → (lt plus_zero d && lt d l) ≡ true → (le (neg small) (d ⊘ l) && le (d ⊘ l) one_and_small) ≡ true
unfolding round of_bits
in_range d l h = inside small one_and_small tt (lit≤ tt) refl d l h
