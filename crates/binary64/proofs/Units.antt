-- What a pattern weighs, in units of 2^−1074: `units` rises with the pattern, over all whole numbers, so that at most one pattern has the operand between the squares of its midpoints.
-- And at an exponent k and 53 digits c it is c · 2^k, also where c has run over into the next exponent. Assumes nothing.
use Rattle.std.proofs.Common.{◌≡◌, ℕ, zero, suc, ◌+◌, ◌-◌, ◌*◌, ◌/◌, ◌%◌, ◌^◌, ◌<◌, ◌≤◌, Bool, true, false, ltb, sym, refl, ap, ◌∙◌, subst, le_trans, le_of_eq, le_refl, lt_of_lt_of_le, add-zero, le_of_lt, add_assoc, add-le-add, lt_irrefl, mul-le-mul, mul-lt-mul_of_pos_right, arith, pow_pos, ltb-false, ltb-true}
use native.Mathlib.Nat.{pow-succ'}
use Rattle.binary64.specs.Root.{weight, units, square, Between}

pub units_is : (b f t : ℕ) → b / 2 ^ 52 ≡ f → b % 2 ^ 52 ≡ t → units b ≡ weight f t
unfolding units
units_is b f t p q = ap (λ (x : ℕ). weight x (b % 2 ^ 52)) p ∙ ap (weight f) q

-- ---- rising

-- within a field, and from the last digits of a field to the next field
weight-next : (f t : ℕ) → weight f t < weight f (t + 1)
unfolding weight
weight-next zero t = omega arith
weight-next (suc f) t = mul-lt-mul_of_pos_right {m = 2 ^ 52 + t} {n = 2 ^ 52 + (t + 1)} (omega arith) (pow_pos f)

weight_carry : (f t : ℕ) → t < 2 ^ 52 → weight f t < weight (suc f) 0
unfolding weight
weight_carry zero t h = omega arith
weight_carry (suc f) t h =
    let l : (2 ^ 52 + t) * 2 ^ f < 2 ^ 53 * 2 ^ f = mul-lt-mul_of_pos_right (omega arith) (pow_pos f) in
    let e = pow-succ' 2 f in
    omega arith

pub units-next : (b : ℕ) → units b < units (b + 1)
units-next b = go (ltb (b % 2 ^ 52 + 1) (2 ^ 52)) refl
  where
    go : (t : Bool) → ltb (b % 2 ^ 52 + 1) (2 ^ 52) ≡ t → units b < units (b + 1)
    go true e =
        let l = ltb-true (b % 2 ^ 52 + 1) (2 ^ 52) e in
        rw (units_is b (b / 2 ^ 52) (b % 2 ^ 52) refl refl, units_is (b + 1) (b / 2 ^ 52) (b % 2 ^ 52 + 1) (omega arith) (omega arith)) (weight-next (b / 2 ^ 52) (b % 2 ^ 52))
    go false e =
        let l = ltb-false (b % 2 ^ 52 + 1) (2 ^ 52) e in
        rw (units_is b (b / 2 ^ 52) (b % 2 ^ 52) refl refl, units_is (b + 1) (suc (b / 2 ^ 52)) 0 (omega arith) (omega arith)) (weight_carry (b / 2 ^ 52) (b % 2 ^ 52) (omega arith))

units_rise : (a d : ℕ) → units a ≤ units (a + d)
units_rise a zero = rw add-zero (le_refl (units a))
units_rise a (suc d) =
    let e : a + suc d ≡ a + d + 1 = omega arith in
    rw e (le_trans (units_rise a d) (le_of_lt (units-next (a + d))))

pub units_mono : (a b : ℕ) → a ≤ b → units a ≤ units b
units_mono a b h = let e : b ≡ a + (b - a) = omega arith in subst (λ (x : ℕ). units a ≤ units x) (sym e) (units_rise a (b - a))

-- ---- one pattern at most

-- the upper midpoint of a pattern is at most the lower one of a later pattern
apart : (n p q : ℕ) → p < q → n < square (units p + units (p + 1)) → square (units (q - 1) + units q) < n → ⊥
apart n p q h u l =
    let s : units p + units (p + 1) ≤ units (q - 1) + units q = add-le-add (units_mono p (q - 1) (omega arith)) (units_mono (p + 1) q (omega arith)) in
    let m : square (units p + units (p + 1)) ≤ square (units (q - 1) + units q) = mul-le-mul s s in
    lt_irrefl n (lt_of_lt_of_le u (le_trans m (le_of_lt l)))

pub between_only : (b p q : ℕ) → Between b p → Between b q → p ≡ q
between_only b p q hp hq =
    equal p q (λ l. apart (4 * 2 ^ 1074 * units b) p q l hp.below hq.above) (λ l. apart (4 * 2 ^ 1074 * units b) q p l hq.below hp.above)
  where
    equal : (p q : ℕ) → (p < q → ⊥) → (q < p → ⊥) → p ≡ q
    equal p q a c = omega arith

-- ---- at an exponent and 53 digits

pub units-at : (k c : ℕ) → 2 ^ 52 ≤ c → c ≤ 2 ^ 53 → units (k * 2 ^ 52 + c) ≡ c * 2 ^ k
unfolding weight
units-at k c l h = go (ltb c (2 ^ 53)) refl
  where
    go : (t : Bool) → ltb c (2 ^ 53) ≡ t → units (k * 2 ^ 52 + c) ≡ c * 2 ^ k
    go true e =
        let m = ltb-true c (2 ^ 53) e in
        let d : 2 ^ 52 + (c - 2 ^ 52) ≡ c = omega arith in
        units_is (k * 2 ^ 52 + c) (suc k) (c - 2 ^ 52) (omega arith) (omega arith) ∙ ap (λ (x : ℕ). x * 2 ^ k) d
    go false e =
        let m = ltb-false c (2 ^ 53) e in
        let d : c ≡ 2 ^ 53 = omega arith in
        units_is (k * 2 ^ 52 + c) (suc (suc k)) 0 (omega arith) (omega arith) ∙ omega (arith, pow-succ' 2 k, ap (λ (x : ℕ). x * 2 ^ k) d)

pub units-after : (k c : ℕ) → 2 ^ 52 ≤ c → c ≤ 2 ^ 53 → (c + 1) * 2 ^ k ≤ units (k * 2 ^ 52 + c + 1)
units-after k c l h = go (ltb c (2 ^ 53)) refl
  where
    go : (t : Bool) → ltb c (2 ^ 53) ≡ t → (c + 1) * 2 ^ k ≤ units (k * 2 ^ 52 + c + 1)
    go true e =
        let m = ltb-true c (2 ^ 53) e in
        le_of_eq (sym (ap units (add_assoc (k * 2 ^ 52) c 1) ∙ units-at k (c + 1) (omega arith) (omega arith)))
    go false e =
        let m = ltb-false c (2 ^ 53) e in
        let d : c ≡ 2 ^ 53 = omega arith in
        let a : k * 2 ^ 52 + c + 1 ≡ suc k * 2 ^ 52 + (2 ^ 52 + 1) = omega arith in
        rw (a, units-at (suc k) (2 ^ 52 + 1) (omega arith) (omega arith)) (omega (arith, pow-succ' 2 k, ap (λ (x : ℕ). x * 2 ^ k) d))
