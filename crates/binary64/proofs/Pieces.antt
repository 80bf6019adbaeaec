-- In how many pieces a root is laid, told by its square, for a spacing from 2^−34 to 2^20: a square above 2^−68 and below the spacing's makes one piece.
-- A square between those of the spacing's products with two constants between n and n + 1 makes n + 1 pieces: each product is rounded, and the constants leave room for that. Assumes nothing.
use Rattle.std.proofs.Common.{◌≡◌, ℕ, suc, ◌+◌, ◌-◌, ◌*◌, ◌/◌, ◌%◌, ◌^◌, ◌<◌, ◌≤◌, min, true, false, ◌&&◌, T, pos, negsuc, sym, refl, ap, ◌∙◌, subst, le_trans, le_of_eq, lt_of_lt_of_le, le_of_lt, mul-le-mul_right, mul_assoc, div-lt_iff_lt-mul, mul-le-mul, lt_of_mul-lt-mul_right, mul-le-mul_left, mul-pos, le-div_iff_mul-le, div-mul-le_self, le_of_mul-le-mul_right, arith, lit<, lit≤, ltb→lt, lt→ltb, pow_pos, pow_mono, pow-add, shl_lt, ne_eqb}
use Prim.Native.Nat.{compare}
use native.Mathlib.Nat.{div-eq_of_lt-le}
use lib.Ieee.{Float, nan, inf, fin, binary64, up, down, size, fits, of_bits, lt, le, div, mul, round}
use lib.Ieee.Back.{round_whole}
use lib.Ieee.Digits.{size_reaches}
use lib.Ieee.Exact.{HasValue, round_exact}
use lib.Ieee.Fits.{mul-fits, nearest-le}
use lib.Ieee.Nearest.{nearest-ge}
use lib.Ieee.Order.{round_mono, drop, kept}
use lib.Ieee.Positive.{num, den, den_pos, own_value, positive, positive-finite, positive_of_value, value_pos, above_of_le, between, mul_at, mul_mono, le→cross, values_of_le, through, le_trans_positive}
use lib.Ieee.Scale.{grid, round_val, round_under, normal_of_fraction}
use Rattle.binary64.specs.Number.{quotient_up, ceil_count}
use Rattle.binary64.specs.NumberLaws.{both}
use Rattle.binary64.specs.Root.{root}
use Rattle.binary64.proofs.RootOrder.{low, floor, bits-lt, lt→cross, lt→le, le-bits, bits_positive, lt-finite, lt-positive, rooted, root_under, root_over}

-- ---- a quotient from n + 2^−e to n + 1 is rounded up to n + 1

div_is : (x y : Float) → T (positive x) → T (positive y) → div binary64 x y ≡ round binary64 false (num x * den y) (num y * den x)
unfolding div
div_is nan y p q = absurd p
div_is (inf s) y p q = absurd p
div_is (fin true m e) y p q = absurd p
div_is (fin false m e) nan p q = absurd q
div_is (fin false m e) (inf t) p q = absurd q
div_is (fin false m e) (fin true n d) p q = absurd q
div_is (fin false m e) (fin false n d) p q = let l = ltb→lt 0 n q in rw (ne_eqb n 0 (omega arith))

up_is : (n a d : ℕ) → n < 2 ^ 52 → n * d < a → a ≤ (n + 1) * d → n + 1 ≡ min (quotient_up a d) (2 ^ 64 - 1)
up_is n a d m h k =
    let q : quotient_up a d ≡ n + 1 = div-eq_of_lt-le d (omega arith) (omega arith) in
    omega arith

count_is : (n : ℕ) (q : Float) → n < 2 ^ 52 → T (positive q) → n * den q < num q → num q ≤ (n + 1) * den q → n + 1 ≡ ceil_count q
unfolding ceil_count
count_is n nan m p h k = absurd p
count_is n (inf s) m p h k = absurd p
count_is n (fin true a e) m p h k = absurd p
count_is n (fin false a e) m p h k = up_is n (a * up e) (down e) m h k

module _ (n e : ℕ) (small : n < 2 ^ 52) (fine : n * 2 ^ e + 1 < 2 ^ 53) (deep : e ≤ 1074) where
  least : HasValue (round binary64 false (n * 2 ^ e + 1) (2 ^ e)) false (n * 2 ^ e + 1) (2 ^ e)
  least =
      let l : (n * 2 ^ e + 1) * 2 ^ (1074 - e) < 2 ^ 2098 = lt_of_lt_of_le (shl_lt 53 (1074 - e) fine) (pow_mono {i = 53 + (1074 - e)} {j = 2098} (omega arith)) in
      let i : 2 ^ 1074 ≡ 2 ^ (1074 - e) * 2 ^ e = ap (λ (z : ℕ). 2 ^ z) {x = 1074} {y = 1074 - e + e} (omega arith) ∙ pow-add 2 (1074 - e) e in
      round_exact binary64 false (n * 2 ^ e + 1) (2 ^ e) (n * 2 ^ e + 1) (1074 - e) (pow_pos e) fine l
      (ap (λ (z : ℕ). (n * 2 ^ e + 1) * z) i ∙ sym (mul_assoc (n * 2 ^ e + 1) (2 ^ (1074 - e)) (2 ^ e)))

  most : HasValue (round binary64 false (n + 1) 1) false (n + 1) 1
  most = round_whole binary64 false (n + 1) (omega arith)

  module _ (a c : ℕ) (C : 0 < c) (h : (n * 2 ^ e + 1) * c ≤ a * 2 ^ e) (k : a ≤ (n + 1) * c) where
    counted : n + 1 ≡ ceil_count (round binary64 false a c)
    counted =
        let z = round binary64 false a c in
        let lo = round binary64 false (n * 2 ^ e + 1) (2 ^ e) in
        let hi = round binary64 false (n + 1) 1 in
        let l : T (le lo z) = round_mono binary64 (n * 2 ^ e + 1) (2 ^ e) a c (pow_pos e) C h in
        let m : T (le z hi) = round_mono binary64 a c (n + 1) 1 C (lit< tt) (omega arith) in
        let p : T (positive lo) = positive_of_value lo _ _ least (omega arith) in
        let q : T (positive hi) = positive_of_value hi _ _ most (omega arith) in
        let r = between lo z hi p q l m in
        let i : (n * 2 ^ e + 1) * den z ≤ num z * 2 ^ e = values_of_le lo z _ _ _ _ p r least (own_value z r) l in
        let j : num z * 1 ≤ (n + 1) * den z = values_of_le z hi _ _ _ _ r q (own_value z r) most m in
        let d = den_pos z in
        let g : n * den z * 2 ^ e < num z * 2 ^ e = omega arith in
        count_is n z small r (lt_of_mul-lt-mul_right (2 ^ e) g) (omega arith)

-- ---- a rounded fraction from 2^−1022 on, n / c in units of 2^−1074, is off by no more than its 2^30th part, which is all that is needed

module _ (n c : ℕ) (C : 0 < c) (normal : 53 ≤ size (n / c)) where
  leading : 2 ^ 30 * (c * 2 ^ drop 53 n c) ≤ n
  leading =
      let k = drop 53 n c in
      let r : 2 ^ (30 + k) * c ≤ n = (le-div_iff_mul-le C).0 (size_reaches (n / c) (30 + k) (omega arith)) in
      let e : 2 ^ (30 + k) ≡ 2 ^ 30 * 2 ^ k = pow-add 2 30 k in
      le_trans (le_of_eq (rw e (omega arith))) r

  near_above : 2 ^ 30 * (kept 53 n c * 2 ^ drop 53 n c * c) ≤ (2 ^ 30 + 1) * n
  near_above =
      let u = c * 2 ^ drop 53 n c in
      let l : kept 53 n c * u ≤ suc (n / u) * u = mul-le-mul_right u (nearest-le (n / u) (compare (n % u * 2) u)) in
      let h : n / u * u ≤ n = div-mul-le_self n u in
      let d = leading in
      omega arith

  near_below : (2 ^ 30 - 1) * n ≤ 2 ^ 30 * (kept 53 n c * 2 ^ drop 53 n c * c)
  near_below =
      let u = c * 2 ^ drop 53 n c in
      let l : n / u * u ≤ kept 53 n c * u = mul-le-mul_right u (nearest-ge (n / u) (compare (n % u * 2) u)) in
      let h : n < suc (n / u) * u = (div-lt_iff_lt-mul (mul-pos C (pow_pos (drop 53 n c)))).0 (omega arith) in
      let d = leading in
      omega arith

-- d / e beside g / U, which is beside a / c
module _ (U g d e a c : ℕ) (P : 0 < U) where
  under_near : d * U ≤ g * e → 2 ^ 30 * (g * c) ≤ (2 ^ 30 + 1) * (a * U) → 2 ^ 30 * (d * c) ≤ (2 ^ 30 + 1) * (a * e)
  under_near h k =
      let i : d * U * c ≤ g * e * c = mul-le-mul_right c h in
      let j : 2 ^ 30 * (g * c) * e ≤ (2 ^ 30 + 1) * (a * U) * e = mul-le-mul_right e k in
      let l : 2 ^ 30 * (d * c) * U ≤ (2 ^ 30 + 1) * (a * e) * U = omega arith in
      le_of_mul-le-mul_right l P

  over_near : g * e ≤ d * U → (2 ^ 30 - 1) * (a * U) ≤ 2 ^ 30 * (g * c) → (2 ^ 30 - 1) * (a * e) ≤ 2 ^ 30 * (d * c)
  over_near h k =
      let i : g * e * c ≤ d * U * c = mul-le-mul_right c h in
      let j : (2 ^ 30 - 1) * (a * U) * e ≤ 2 ^ 30 * (g * c) * e = mul-le-mul_right e k in
      let l : (2 ^ 30 - 1) * (a * e) * U ≤ 2 ^ 30 * (d * c) * U = omega arith in
      le_of_mul-le-mul_right l P

-- ---- a spacing from 2^−34 to 2^20

-- 2^20
abbrev longest : ℕ
longest = 1043 * 2 ^ 52

under_longest : (s : Float) → T (positive s) → T (le s (of_bits binary64 longest)) → num s ≤ 2 ^ 20 * den s
unfolding of_bits
under_longest s p h = let l = le→cross s (fin false 1 (pos 20)) p tt h in omega arith

over-floor : (d : Float) → T (positive d) → T (le (of_bits binary64 floor) d) → den d ≤ num d * 2 ^ 34
unfolding of_bits
over-floor d p h = let l = le→cross (fin false 1 (negsuc 33)) d tt p h in omega arith

floor_some : T (positive (of_bits binary64 floor))
floor_some = bits_positive floor (lit< tt) (lit< tt)

pub record Spacing (s : Float) : Type 0 where
  some : T (positive s)
  long : den s ≤ num s * 2 ^ 34
  less : num s ≤ 2 ^ 20 * den s

pub spacing : (s : Float) (i j : ℕ) → (lt (of_bits binary64 i) s && lt s (of_bits binary64 j)) ≡ true → floor ≤ i → i < j → j ≤ longest → Spacing s
spacing s i j t l m n =
    let I = bits_positive i (omega arith) (omega arith) in
    let J = bits_positive j (omega arith) (omega arith) in
    let v = both _ _ t in
    let p = lt-positive (of_bits binary64 i) s (of_bits binary64 j) I v.0 v.1 in
    let f = le_trans_positive (of_bits binary64 floor) (of_bits binary64 i) s floor_some I p (le-bits floor i (omega arith) l) (lt→le _ s v.0) in
    let g = le_trans_positive s (of_bits binary64 j) (of_bits binary64 longest) p J (bits_positive longest (lit< tt) (lit< tt)) (lt→le s _ v.1) (le-bits j longest (lit< tt) n) in
    record { some = p; long = over-floor s p f; less = under_longest s p g }

-- ---- its rounded product with a constant from 1 to 2^20

record Factor (k : Float) : Type 0 where
  some : T (positive k)
  least : den k ≤ num k
  most : num k ≤ 2 ^ 20 * den k

floor_rounds : round binary64 false 1 (2 ^ 34) ≡ of_bits binary64 floor
unfolding round of_bits
floor_rounds = refl

floor-squared : T (positive (mul binary64 (of_bits binary64 floor) (of_bits binary64 floor)))
unfolding mul of_bits
floor-squared = tt

long_some : T (positive (round binary64 false (2 ^ 40) 1))
unfolding round
long_some = tt

-- y is 2^−34 at least, and any double d beside it is beside a / c, which is rounded to it
record Near (y : Float) (a c : ℕ) : Type 0 where
  some : T (positive y)
  reaches : T (le (of_bits binary64 floor) y)
  under : (d : Float) → T (positive d) → T (le d y) → 2 ^ 30 * (num d * c) ≤ (2 ^ 30 + 1) * (a * den d)
  over : (d : Float) → T (positive d) → T (le y d) → (2 ^ 30 - 1) * (a * den d) ≤ 2 ^ 30 * (num d * c)

product : (s k : Float) → Spacing s → Factor k → Near (mul binary64 s k) (num s * num k) (den s * den k)
product s k u v =
    let a = num s * num k in
    let c = den s * den k in
    let C : 0 < c = mul-pos (den_pos s) (den_pos k) in
    let z = round binary64 false a c in
    let is : mul binary64 s k ≡ z = mul_at binary64 s k (num s) (den s) (num k) (den k) u.some v.some (den_pos s) (den_pos k) (own_value s u.some) (own_value k v.some) in
    let f : den s * den k ≤ num s * 2 ^ 34 * num k = mul-le-mul u.long v.least in
    let g : num s * num k ≤ 2 ^ 20 * den s * (2 ^ 20 * den k) = mul-le-mul u.less v.most in
    let h : 2 ^ 52 * c ≤ a * 2 ^ 86 = omega arith in
    let l : T (le (of_bits binary64 floor) z) = subst (λ (y : Float). T (le y z)) floor_rounds (round_mono binary64 1 (2 ^ 34) a c (pow_pos 34) C (omega arith)) in
    let m : T (le z (round binary64 false (2 ^ 40) 1)) = round_mono binary64 a c (2 ^ 40) 1 C (lit< tt) (omega arith) in
    let p : T (positive z) = between _ z _ floor_some long_some l m in
    let w = round_val binary64 a c (round_under binary64 a c (positive-finite z p)) in
    let n : 53 ≤ size (a * 2 ^ 1074 / c) = normal_of_fraction binary64 a c C (le_trans h (mul-le-mul_left a (lit≤ tt))) in
    rw is
    (record {
      some = p;
      reaches = l;
      under = λ d q i. under_near (2 ^ 1074) (grid binary64 a c) (num d) (den d) a c (pow_pos 1074) (values_of_le d z _ _ _ _ q p (own_value d q) w i) (near_above (a * 2 ^ 1074) c C n);
      over = λ d q i. over_near (2 ^ 1074) (grid binary64 a c) (num d) (den d) a c (pow_pos 1074) (values_of_le z d _ _ _ _ p q w (own_value d q) i) (near_below (a * 2 ^ 1074) c C n);
    })

-- ---- one piece: the root is no longer than the spacing

quotient_pos : (d s : Float) → T (positive s) → 0 < num s * den d
quotient_pos d s p = mul-pos (value_pos s _ _ p (den_pos s) (own_value s p)) (den_pos d)

pub short-one : (x s : Float) (l : ℕ) → T (fits binary64 x) → T (fits binary64 s) → Spacing s → (lt (of_bits binary64 l) x && lt x (mul binary64 s s)) ≡ true → low ≤ l → l < 2047 * 2 ^ 52
    → 1 ≡ ceil_count (div binary64 (root x) s)
short-one x s l h k u t i j =
    let v = both _ _ t in
    let r = rooted x (mul binary64 s s) l h i j v.0 v.1 in
    let q = u.some in
    let d = root x in
    let f : T (le d s) = root_under x s h k r.above q v.1 in
    let e : T (le (of_bits binary64 floor) d) = subst (λ (z : Float). T (le (of_bits binary64 floor) z)) (sym r.is) (le-bits floor _ r.most r.least) in
    let p : T (positive d) = between (of_bits binary64 floor) d s floor_some q e f in
    let m : num d * den s ≤ num s * den d = le→cross d s p q f in
    let g : num s * den d ≤ 2 ^ 20 * den s * (num d * 2 ^ 34) = mul-le-mul u.less (over-floor d p e) in
    rw (div_is d s p q) (counted 0 54 (lit< tt) (lit< tt) (lit≤ tt) (num d * den s) (num s * den d) (quotient_pos d s q) (omega arith) (omega arith))

-- ---- n + 1 pieces: the root lies between the spacing's products with two constants between n and n + 1

-- n + 2^−20, and n + 1 − 2^−20
abbrev after : ℕ → Float
after n = fin false (n * 2 ^ 20 + 1) (negsuc 19)

abbrev before : ℕ → Float
before n = fin false (n * 2 ^ 20 + (2 ^ 20 - 1)) (negsuc 19)

-- constants between the two
pub record Window (n : ℕ) (low high : Float) : Type 0 where
  few : n ≤ 2 ^ 8
  low-factor : Factor low
  high_factor : Factor high
  from : (n * 2 ^ 20 + 1) * den low ≤ num low * 2 ^ 20
  to : num high * 2 ^ 20 ≤ (n * 2 ^ 20 + (2 ^ 20 - 1)) * den high

window : (n a b p q : ℕ) → of_bits binary64 a ≡ after n → of_bits binary64 b ≡ before n → 0 < n → n ≤ 2 ^ 8 → b < 2047 * 2 ^ 52 → a < p → p < q → q < b → Window n (of_bits binary64 p) (of_bits binary64 q)
window n a b p q A B some few u l m k =
    let low = of_bits binary64 p in
    let high = of_bits binary64 q in
    let P = bits_positive p (omega arith) (omega arith) in
    let Q = bits_positive q (omega arith) (omega arith) in
    let f : (n * 2 ^ 20 + 1) * 1 * den low < num low * 2 ^ 20 = lt→cross (after n) low (lt→ltb 0 (n * 2 ^ 20 + 1) (omega arith)) P (subst (λ (z : Float). lt z low ≡ true) A (bits-lt a p (omega arith) l)) in
    let g : num low * den high < num high * den low = lt→cross low high P Q (bits-lt p q (omega arith) m) in
    let e : num high * 2 ^ 20 < (n * 2 ^ 20 + (2 ^ 20 - 1)) * 1 * den high =
    lt→cross high (before n) Q (lt→ltb 0 (n * 2 ^ 20 + (2 ^ 20 - 1)) (omega arith)) (subst (λ (z : Float). lt high z ≡ true) B (bits-lt q b u k)) in
    let v : n * den high ≤ 2 ^ 8 * den high = mul-le-mul_right (den high) few in
    let w : 1 * den low ≤ n * den low = mul-le-mul_right (den low) some in
    let c : 1 * den low ≤ num low * 1 = omega arith in
    let d : num high * 1 ≤ 2 ^ 20 * den high = omega arith in
    let i : 1 * den high ≤ num high * 1 = through 1 (num low) (num high) 1 (den low) (den high) (den_pos low) c (le_of_lt g) in
    let j : num low * 1 ≤ 2 ^ 20 * den low = through (num low) (num high) (2 ^ 20) (den low) (den high) 1 (den_pos high) (le_of_lt g) d in
    record {
      few = few;
      low-factor = record { some = P; least = omega arith; most = omega arith };
      high_factor = record { some = Q; least = omega arith; most = omega arith };
      from = omega arith;
      to = omega arith;
    }

-- from 1 + 2^−20 to 2 − 2^−20
pub second : (p q : ℕ) → 1023 * 2 ^ 52 + 2 ^ 32 < p → p < q → q < 1024 * 2 ^ 52 - 2 ^ 32 → Window 1 (of_bits binary64 p) (of_bits binary64 q)
unfolding of_bits
second p q = window 1 (1023 * 2 ^ 52 + 2 ^ 32) (1024 * 2 ^ 52 - 2 ^ 32) p q refl refl (lit< tt) (lit≤ tt) (lit< tt)

-- from 2 + 2^−20 to 3 − 2^−20
pub third : (p q : ℕ) → 1024 * 2 ^ 52 + 2 ^ 31 < p → p < q → q < 1024 * 2 ^ 52 + 2 ^ 51 - 2 ^ 31 → Window 2 (of_bits binary64 p) (of_bits binary64 q)
unfolding of_bits
third p q = window 2 (1024 * 2 ^ 52 + 2 ^ 31) (1024 * 2 ^ 52 + 2 ^ 51 - 2 ^ 31) p q refl refl (lit< tt) (lit≤ tt) (lit< tt)

-- K / D is a constant, and B / A the root over the spacing
module _ (n A B K D : ℕ) (few : n ≤ 2 ^ 8) (P : 0 < D) where
  quotient_least : (2 ^ 30 - 1) * (K * A) ≤ 2 ^ 30 * (B * D) → (n * 2 ^ 20 + 1) * D ≤ K * 2 ^ 20 → (n * 2 ^ 21 + 1) * A ≤ B * 2 ^ 21
  quotient_least h k =
      let i : (n * 2 ^ 20 + 1) * D * A ≤ K * 2 ^ 20 * A = mul-le-mul_right A k in
      let j : n * (D * A) ≤ 2 ^ 8 * (D * A) = mul-le-mul_right (D * A) few in
      let l : (n * 2 ^ 21 + 1) * A * D ≤ B * 2 ^ 21 * D = omega arith in
      le_of_mul-le-mul_right l P

  quotient_most : 2 ^ 30 * (B * D) ≤ (2 ^ 30 + 1) * (K * A) → K * 2 ^ 20 ≤ (n * 2 ^ 20 + (2 ^ 20 - 1)) * D → B ≤ (n + 1) * A
  quotient_most h k =
      let i : K * 2 ^ 20 * A ≤ (n * 2 ^ 20 + (2 ^ 20 - 1)) * D * A = mul-le-mul_right A k in
      let j : n * (D * A) ≤ 2 ^ 8 * (D * A) = mul-le-mul_right (D * A) few in
      let l : B * D ≤ (n + 1) * A * D = omega arith in
      le_of_mul-le-mul_right l P

pub between_squares : (n : ℕ) (x s low high : Float) → T (fits binary64 x) → Spacing s → Window n low high
    → (lt (mul binary64 (mul binary64 s low) (mul binary64 s low)) x && lt x (mul binary64 (mul binary64 s high) (mul binary64 s high))) ≡ true
    → n + 1 ≡ ceil_count (div binary64 (root x) s)
between_squares n x s low high h u w t =
    let few = w.few in
    let y = mul binary64 s low in
    let z = mul binary64 s high in
    let Y = product s low u w.low-factor in
    let Z = product s high u w.high_factor in
    let v = both _ _ t in
    let o = mul_mono binary64 (of_bits binary64 floor) y (of_bits binary64 floor) y floor_some Y.some floor_some Y.some Y.reaches Y.reaches in
    let a = lt-positive (mul binary64 y y) x (mul binary64 z z) (lt-finite (mul binary64 y y) x (above_of_le _ _ floor-squared o) v.0) v.0 v.1 in
    let d = root x in
    let f : T (le y d) = root_over x y h (mul-fits binary64 s low) a Y.some v.0 in
    let g : T (le d z) = root_under x z h (mul-fits binary64 s high) a Z.some v.1 in
    let p = between y d z Y.some Z.some f g in
    let q = u.some in
    let A = num s * den d in
    let B = num d * den s in
    rw (div_is d s p q)
    (counted n 21 (omega arith) (omega arith) (lit≤ tt) B A (quotient_pos d s q)
    (quotient_least n A B (num low) (den low) few (den_pos low) (le_trans (le_of_eq (omega arith)) (le_trans (Y.over d p f) (le_of_eq (omega arith)))) w.from)
    (quotient_most n A B (num high) (den high) few (den_pos high) (le_trans (le_of_eq (omega arith)) (le_trans (Z.under d p g) (le_of_eq (omega arith)))) w.to))
