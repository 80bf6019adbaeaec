-- What the square of a distance tells of its root: the root is at most any double whose square is not below the operand, and at least any whose square is not above it.
-- So the root of what lies beside the rounded square of a double lies beside the double, and the root of what is above 2^−68 is at least 2^−34 and below infinity. Assumes nothing.
use Rattle.std.proofs.Common.{◌≡◌, ℕ, zero, suc, ◌+◌, ◌-◌, ◌*◌, ◌/◌, ◌%◌, ◌^◌, ◌<◌, ◌≤◌, Bool, true, false, ◌&&◌, ◌||◌, T, sym, refl, ap, ◌∙◌, subst, true≢false, zero-le, le_trans, le_of_eq, lt_of_lt_of_le, lt_of_le_of_lt, le_of_lt, add-le-add, mul-le-mul_right, mul-le-mul, lt_of_mul-lt-mul_right, mul-le-mul_left, mul-lt-mul_of_pos_right, mul-pos, mul-one, not-le_of_lt, arith, lit≤, pow_pos, pow_mono, shl_lt, ltb-true, lt-ltb, ne_eqb}
use mathlib.Core.Bool.{false≢true}
use lib.Ieee.{Float, nan, inf, fin, binary64, up, down, odd, fits, of_fields, of_bits, to_bits, lt, le, eq, mul, round}
use lib.Ieee.Bits.{of_bits-to_bits}
use lib.Ieee.Exact.{HasValue, odd_sign, round_exact}
use lib.Ieee.Fits.{down_pos}
use lib.Ieee.Order.{le_of_values, round_mono}
use lib.Ieee.Positive.{num, den, den_pos, own_value, positive, above, above_of_le, positive_of_value, value_pos, between, mul_at, le→cross, le_trans_positive}
use Rattle.binary64.specs.NumberLaws.{both}
use Rattle.binary64.specs.Root.{root, root_of, weight, units, square, Between}
use Rattle.binary64.proofs.Units.{units_is, units-next, units_mono}
use Rattle.binary64.proofs.Patterns.{bits-plus, pattern_range}
use Rattle.binary64.proofs.RootLaws.{root_of-lt, same_bits, of_some}
use Rattle.binary64.proofs.Nearest.{root-between, root-fits, root-infinity}

-- ---- a pattern's value

fields_value : (f t : ℕ) → f < 2047 → HasValue (of_fields binary64 false f t) false (weight f t) (2 ^ 1074)
unfolding of_fields weight
fields_value zero t l = subst (λ (a : ℕ). HasValue (odd 53 false t 0 1074) false a (2 ^ 1074)) (mul-one t) (odd_sign 53 false t 0 1074)
fields_value (suc f) t l = rw (ne_eqb (suc f) 2047 (omega arith)) (odd_sign 53 false (2 ^ 52 + t) f 1074)

bits-value : (b : ℕ) → b < 2047 * 2 ^ 52 → HasValue (of_bits binary64 b) false (units b) (2 ^ 1074)
bits-value b l = rw (bits-plus b (omega arith), units_is b (b / 2 ^ 52) (b % 2 ^ 52) refl refl) (fields_value (b / 2 ^ 52) (b % 2 ^ 52) (omega arith))

-- ---- the order of values and of patterns

cross : (m n d e a b c : ℕ) → m * c ≡ a * d → n * c ≡ b * e → (m * e * c ≡ a * (d * e)) × (n * d * c ≡ b * (d * e))
cross m n d e a b c p q = let x = ap (λ (z : ℕ). z * e) p in let y = ap (λ (z : ℕ). z * d) q in (omega arith, omega arith)

module _ (a b c : ℕ) where
  lt_of_values : (x y : Float) → HasValue x false a c → HasValue y false b c → a < b → lt x y ≡ true
  unfolding lt
  lt_of_values nan y p q h = absurd p
  lt_of_values (inf s) y p q h = absurd p
  lt_of_values (fin true m e) y p q h = absurd (true≢false p.0)
  lt_of_values (fin false m e) nan p q h = absurd q
  lt_of_values (fin false m e) (inf t) p q h = absurd q
  lt_of_values (fin false m e) (fin true n d) p q h = absurd (true≢false q.0)
  lt_of_values (fin false m e) (fin false n d) p q h =
      let z = cross (m * up e) (n * up d) (down e) (down d) a b c p.1 q.1 in
      let l : a * (down e * down d) < b * (down e * down d) = mul-lt-mul_of_pos_right h (mul-pos (down_pos e) (down_pos d)) in
      let g : m * up e * down d * c < n * up d * down e * c = rw (z.0, z.1) l in
      lt-ltb _ _ (lt_of_mul-lt-mul_right c g)

  values_of-lt : (x y : Float) → 0 < c → HasValue x false a c → HasValue y false b c → lt x y ≡ true → a < b
  unfolding lt
  values_of-lt nan y C p q h = absurd p
  values_of-lt (inf s) y C p q h = absurd p
  values_of-lt (fin true m e) y C p q h = absurd (true≢false p.0)
  values_of-lt (fin false m e) nan C p q h = absurd q
  values_of-lt (fin false m e) (inf t) C p q h = absurd q
  values_of-lt (fin false m e) (fin true n d) C p q h = absurd (true≢false q.0)
  values_of-lt (fin false m e) (fin false n d) C p q h =
      let z = cross (m * up e) (n * up d) (down e) (down d) a b c p.1 q.1 in
      let l : m * up e * down d * c < n * up d * down e * c = mul-lt-mul_of_pos_right (ltb-true _ _ h) C in
      lt_of_mul-lt-mul_right (down e * down d) (rw (z.0, z.1) at l)

pub bits-lt : (a b : ℕ) → b < 2047 * 2 ^ 52 → a < b → lt (of_bits binary64 a) (of_bits binary64 b) ≡ true
bits-lt a b l h =
    lt_of_values (units a) (units b) (2 ^ 1074) _ _ (bits-value a (omega arith)) (bits-value b l) (lt_of_lt_of_le (units-next a) (units_mono (a + 1) b (omega arith)))

lt-bits : (a b : ℕ) → a < 2047 * 2 ^ 52 → b < 2047 * 2 ^ 52 → lt (of_bits binary64 a) (of_bits binary64 b) ≡ true → a < b
lt-bits a b k l h =
    let u = values_of-lt (units a) (units b) (2 ^ 1074) _ _ (pow_pos 1074) (bits-value a k) (bits-value b l) h in
    let n : ¬ (b ≤ a) = λ g. not-le_of_lt u (units_mono b a g) in
    omega arith

pub lt→cross : (x y : Float) → T (positive x) → T (positive y) → lt x y ≡ true → num x * den y < num y * den x
unfolding lt
lt→cross nan y p q h = absurd p
lt→cross (inf s) y p q h = absurd p
lt→cross (fin true m e) y p q h = absurd p
lt→cross (fin false m e) nan p q h = absurd q
lt→cross (fin false m e) (inf t) p q h = absurd q
lt→cross (fin false m e) (fin true n d) p q h = absurd q
lt→cross (fin false m e) (fin false n d) p q h = ltb-true _ _ h

-- ---- a value above a positive one and below any

pub lt→le : (x y : Float) → lt x y ≡ true → T (le x y)
unfolding le
lt→le x y h = subst (λ (t : Bool). T (t || eq x y)) (sym h) tt

pub lt-finite : (x y : Float) → T (above x) → lt x y ≡ true → T (positive x)
unfolding lt
lt-finite nan y p h = absurd p
lt-finite (inf true) y p h = absurd p
lt-finite (inf false) nan p h = absurd (false≢true h)
lt-finite (inf false) (inf t) p h = absurd (false≢true h)
lt-finite (inf false) (fin t n d) p h = absurd (false≢true h)
lt-finite (fin true m e) y p h = absurd p
lt-finite (fin false m e) y p h = p

pub lt-positive : (l x y : Float) → T (positive l) → lt l x ≡ true → lt x y ≡ true → T (positive x)
lt-positive l x y p g h = lt-finite x y (above_of_le l x p (lt→le l x g)) h

-- ---- a root beside a pattern, by the squares

module _ (k u r w : ℕ) where
  at_most : square (units (r - 1) + units r) < 4 * k * u → k * u ≤ square (units w) → r ≤ w
  at_most h l =
      let n : ¬ (w < r) = λ g.
      let s : units w + units w ≤ units (r - 1) + units r = add-le-add (units_mono w (r - 1) (omega arith)) (units_mono w r (omega arith)) in
      let m : square (units w + units w) ≤ square (units (r - 1) + units r) = mul-le-mul s s in
      not-le_of_lt (lt_of_le_of_lt m h) (omega arith) in
      omega arith

  at_least : 4 * k * u < square (units r + units (r + 1)) → square (units w) ≤ k * u → w ≤ r
  at_least h l =
      let n : ¬ (r < w) = λ g.
      let s : units r + units (r + 1) ≤ units w + units w = add-le-add (units_mono r w (omega arith)) (units_mono (r + 1) w (omega arith)) in
      let m : square (units r + units (r + 1)) ≤ square (units w + units w) = mul-le-mul s s in
      not-le_of_lt (lt_of_lt_of_le h m) (omega arith) in
      omega arith

root_beside : (x : Float) → T (fits binary64 x) → T (positive x) → Between (to_bits binary64 x) (to_bits binary64 (root x))
root_beside nan h p = absurd p
root_beside (inf s) h p = absurd p
root_beside (fin true m e) h p = absurd p
root_beside (fin false zero e) h p = absurd p
root_beside (fin false (suc m) e) h p = root-between m e h

module _ (x : Float) (h : T (fits binary64 x)) (p : T (positive x)) (w : ℕ) where
  pub root-at-most : 2 ^ 1074 * units (to_bits binary64 x) ≤ square (units w) → to_bits binary64 (root x) ≤ w
  root-at-most = at_most (2 ^ 1074) (units (to_bits binary64 x)) (to_bits binary64 (root x)) w (root_beside x h p).above

  pub root-at_least : square (units w) ≤ 2 ^ 1074 * units (to_bits binary64 x) → w ≤ to_bits binary64 (root x)
  root-at_least = at_least (2 ^ 1074) (units (to_bits binary64 x)) (to_bits binary64 (root x)) w (root_beside x h p).below

root_range : (x : Float) → T (fits binary64 x) → T (positive x) → to_bits binary64 (root x) < 2047 * 2 ^ 52
root_range x h p =
    let b = to_bits binary64 x in
    let n = pattern_range x h p in
    let l = root_of-lt (b / 2 ^ 52) (b % 2 ^ 52) (omega arith) in
    let t = ap (to_bits binary64) (of_some x h b refl n.0 n.1) ∙ same_bits (root_of (b / 2 ^ 52) (b % 2 ^ 52)) l in
    subst (λ (r : ℕ). r < 2047 * 2 ^ 52) (sym t) l

-- ---- an operand above a pattern l from 2^−68 on

-- 2^−68 and its root
abbrev pub low : ℕ
low = 955 * 2 ^ 52

abbrev pub floor : ℕ
floor = 989 * 2 ^ 52

floor-square : square (units floor) ≤ 2 ^ 1074 * units low
unfolding units weight
floor-square = lit≤ tt

pub bits_positive : (b : ℕ) → 0 < b → b < 2047 * 2 ^ 52 → T (positive (of_bits binary64 b))
bits_positive b p l = positive_of_value (of_bits binary64 b) (units b) (2 ^ 1074) (bits-value b l) (lt_of_le_of_lt zero-le (lt_of_lt_of_le (units-next 0) (units_mono 1 b p)))

-- the pattern of its root
pub record Rooted (x : Float) (r : ℕ) : Type 0 where
  pub above : T (positive x)
  pub is : root x ≡ of_bits binary64 r
  pub least : floor ≤ r
  pub most : r < 2047 * 2 ^ 52

pub rooted : (x y : Float) (l : ℕ) → T (fits binary64 x) → low ≤ l → l < 2047 * 2 ^ 52 → lt (of_bits binary64 l) x ≡ true → lt x y ≡ true → Rooted x (to_bits binary64 (root x))
rooted x y l h i j g k =
    let p = lt-positive (of_bits binary64 l) x y (bits_positive l (omega arith) j) g k in
    let b = to_bits binary64 x in
    let n = pattern_range x h p in
    let e : lt (of_bits binary64 l) (of_bits binary64 b) ≡ true = ap (lt (of_bits binary64 l)) (of_bits-to_bits binary64 x h) ∙ g in
    let m : l < b = lt-bits l b j n.1 e in
    record {
      above = p;
      is = sym (of_bits-to_bits binary64 (root x) (root-fits x h));
      least = root-at_least x h p floor (le_trans floor-square (mul-le-mul_left (2 ^ 1074) (units_mono low b (omega arith))));
      most = root_range x h p;
    }

-- ---- an operand beside the rounded square of a double

-- a double is what its own value is rounded to
fields_exact : (f t : ℕ) → f < 2047 → t < 2 ^ 52 → HasValue (round binary64 false (weight f t) (2 ^ 1074)) false (weight f t) (2 ^ 1074)
unfolding weight
fields_exact zero t l h = round_exact binary64 false t (2 ^ 1074) t 0 (pow_pos 1074) (omega arith) (lt_of_le_of_lt (le_of_eq (mul-one t)) (lt_of_lt_of_le h (lit≤ tt))) (ap (λ (z : ℕ). z * 2 ^ 1074) (sym (mul-one t)))
fields_exact (suc f) t l h =
    let m : 2 ^ 52 + t < 2 ^ 53 = omega arith in
    round_exact binary64 false ((2 ^ 52 + t) * 2 ^ f) (2 ^ 1074) (2 ^ 52 + t) f (pow_pos 1074) m (lt_of_lt_of_le (shl_lt 53 f m) (pow_mono {i = 53 + f} {j = 2098} (omega arith))) refl

bits_exact : (b : ℕ) → b < 2047 * 2 ^ 52 → HasValue (round binary64 false (units b) (2 ^ 1074)) false (units b) (2 ^ 1074)
bits_exact b l = rw (units_is b (b / 2 ^ 52) (b % 2 ^ 52) refl refl) (fields_exact (b / 2 ^ 52) (b % 2 ^ 52) (omega arith) (omega arith))

value : (x : Float) → T (fits binary64 x) → T (positive x) → HasValue x false (units (to_bits binary64 x)) (2 ^ 1074)
value x h p =
    subst (λ (v : Float). HasValue v false (units (to_bits binary64 x)) (2 ^ 1074)) (of_bits-to_bits binary64 x h) (bits-value (to_bits binary64 x) (pattern_range x h p).1)

-- what is below the rounded square is not above the square itself, and what is above the one is not below the other
module _ (x s : Float) (a b c : ℕ) (above : 0 < c) (p : T (positive x)) (q : T (positive s)) (u : HasValue x false a c) (v : HasValue s false b c) (own : HasValue (round binary64 false a c) false a c) where
  square_reaches : lt x (mul binary64 s s) ≡ true → c * a ≤ b * b
  square_reaches h =
      let y = mul binary64 s s in
      let z = round binary64 false a c in
      let n : ¬ (b * b < c * a) = λ g.
      let i : b * b * c ≤ a * (c * c) = le_trans (mul-le-mul_right c (le_of_lt g)) (le_of_eq (omega arith)) in
      let k : T (le y z) = subst (λ (w : Float). T (le w z)) (sym (mul_at binary64 s s b c b c q q above above v v)) (round_mono binary64 (b * b) (c * c) a c (mul-pos above above) above i) in
      let o : T (positive z) = positive_of_value z a c own (value_pos x a c p above u) in
      let w : T (positive y) = between x y z p o (lt→le x y h) k in
      let d : T (le z x) = le_of_values z x a c a c above above own u (le_of_eq refl) in
      not-le_of_lt (lt→cross x y p w h) (le→cross y x w p (le_trans_positive y z x w o p k d)) in
      omega arith

  square_reached : lt (mul binary64 s s) x ≡ true → b * b ≤ c * a
  square_reached h =
      let y = mul binary64 s s in
      let z = round binary64 false a c in
      let n : ¬ (c * a < b * b) = λ g.
      let i : a * (c * c) ≤ b * b * c = le_trans (le_of_eq (omega arith)) (mul-le-mul_right c (le_of_lt g)) in
      let k : T (le z y) = subst (λ (w : Float). T (le z w)) (sym (mul_at binary64 s s b c b c q q above above v v)) (round_mono binary64 a c (b * b) (c * c) above (mul-pos above above) i) in
      let o : T (positive z) = positive_of_value z a c own (value_pos x a c p above u) in
      let w : T (positive y) = lt-finite y x (above_of_le z y o k) h in
      let d : T (le x z) = le_of_values x z a c a c above above u own (le_of_eq refl) in
      not-le_of_lt (lt→cross y x w p h) (le→cross x y p w (le_trans_positive x z y p o w d k)) in
      omega arith

pub le-bits : (a b : ℕ) → b < 2047 * 2 ^ 52 → a ≤ b → T (le (of_bits binary64 a) (of_bits binary64 b))
le-bits a b l h =
    le_of_values _ _ (units a) (2 ^ 1074) (units b) (2 ^ 1074) (pow_pos 1074) (pow_pos 1074) (bits-value a (omega arith)) (bits-value b l) (mul-le-mul_right (2 ^ 1074) (units_mono a b h))

le-of_bits : (x y : Float) → T (fits binary64 x) → T (fits binary64 y) → to_bits binary64 y < 2047 * 2 ^ 52 → to_bits binary64 x ≤ to_bits binary64 y → T (le x y)
le-of_bits x y h k l m =
    subst (λ (z : Float). T (le z y)) (of_bits-to_bits binary64 x h)
    (subst (λ (z : Float). T (le (of_bits binary64 (to_bits binary64 x)) z)) (of_bits-to_bits binary64 y k) (le-bits (to_bits binary64 x) (to_bits binary64 y) l m))

module _ (x w : Float) (h : T (fits binary64 x)) (k : T (fits binary64 w)) (p : T (positive x)) (q : T (positive w)) where
  pub root_under : lt x (mul binary64 w w) ≡ true → T (le (root x) w)
  root_under t =
      let a = to_bits binary64 x in
      let b = to_bits binary64 w in
      le-of_bits (root x) w (root-fits x h) k (pattern_range w k q).1
      (root-at-most x h p b (square_reaches x w (units a) (units b) (2 ^ 1074) (pow_pos 1074) p q (value x h p) (value w k q) (bits_exact a (pattern_range x h p).1) t))

  pub root_over : lt (mul binary64 w w) x ≡ true → T (le w (root x))
  root_over t =
      let a = to_bits binary64 x in
      let b = to_bits binary64 w in
      le-of_bits w (root x) k (root-fits x h) (root_range x h p)
      (root-at_least x h p b (square_reached x w (units a) (units b) (2 ^ 1074) (pow_pos 1074) p q (value x h p) (value w k q) (bits_exact a (pattern_range x h p).1) t))

-- ---- nearer than an infinite y

infinite : (y : Float) → eq y (inf false) ≡ true → y ≡ inf false
unfolding eq
infinite nan h = absurd (false≢true h)
infinite (inf true) h = absurd (false≢true h)
infinite (inf false) h = refl
infinite (fin s m e) h = absurd (false≢true h)

bits_under : (r : ℕ) → r < 2047 * 2 ^ 52 → lt (of_bits binary64 r) (inf false) ≡ true
unfolding lt
bits_under r l = go (of_bits binary64 r) (bits-value r l)
  where
    go : (x : Float) → HasValue x false (units r) (2 ^ 1074) → lt x (inf false) ≡ true
    go nan v = absurd v
    go (inf s) v = absurd v
    go (fin s m e) v = refl

pub infinity : of_bits binary64 0x7ff0_0000_0000_0000 ≡ inf false
unfolding of_bits
infinity = refl

-- what is below a positive value is below each that is not less
less : (a b c p q r : ℕ) → 0 < r → a * q < b * p → b * r ≤ c * q → a * r < c * p
less a b c p q r R h k =
    let i : a * q * r < b * p * r = mul-lt-mul_of_pos_right h R in
    let j : b * r * p ≤ c * q * p = mul-le-mul_right p k in
    let l : a * r * q < c * p * q = omega arith in
    lt_of_mul-lt-mul_right q l

lt-more : (x y z : Float) → T (positive y) → T (positive z) → T (le y z) → lt x y ≡ true → lt x z ≡ true
unfolding lt
lt-more x nan z p q h g = absurd p
lt-more x (inf s) z p q h g = absurd p
lt-more x (fin true n d) z p q h g = absurd p
lt-more x (fin false n d) nan p q h g = absurd q
lt-more x (fin false n d) (inf s) p q h g = absurd q
lt-more x (fin false n d) (fin true k f) p q h g = absurd q
lt-more nan (fin false n d) (fin false k f) p q h g = absurd (false≢true g)
lt-more (inf s) (fin false n d) (fin false k f) p q h g = g
lt-more (fin true m e) (fin false n d) (fin false k f) p q h g =
    let z = fin false k f in
    let i : 0 < num z * down e = mul-pos (value_pos z (num z) (den z) q (den_pos z) (own_value z q)) (down_pos e) in
    let l : 0 < m * up e * down f + num z * down e = omega arith in
    lt-ltb 0 _ l
lt-more (fin false m e) (fin false n d) (fin false k f) p q h g =
    lt-ltb _ _ (less (m * up e) (n * up d) (k * up f) (down e) (down d) (down f) (down_pos f) (ltb-true _ _ g) (le→cross (fin false n d) (fin false k f) p q h))

pub first_nearer : (x y v w : Float) (l k : ℕ) → T (fits binary64 x) → (lt (of_bits binary64 l) x && lt x y && eq y v && lt w (of_bits binary64 k)) ≡ true
    → low ≤ l → l < 2047 * 2 ^ 52 → v ≡ inf false → 0 < k → k ≤ floor → true ≡ (lt w (root x) && lt (root x) (root y))
first_nearer x y v w l k h t i j f p m =
    let t3 = both _ _ t in
    let t2 = both _ _ t3.0 in
    let t1 = both _ _ t2.0 in
    let r = rooted x y l h i j t1.0 t1.1 in
    let n = to_bits binary64 (root x) in
    let e : root y ≡ inf false = ap root (infinite y (subst (λ (z : Float). eq y z ≡ true) f t2.1)) ∙ root-infinity in
    let o : k ≤ n = le_trans m r.least in
    let b = of_bits binary64 n in
    let a : lt w b ≡ true = lt-more w (of_bits binary64 k) b (bits_positive k p (lt_of_le_of_lt o r.most)) (bits_positive n (lt_of_lt_of_le p o) r.most) (le-bits k n r.most o) t3.1 in
    rw (r.is, e, a, bits_under n r.most)
