-- `root` gives the nearest double: the two statements of specs/RootTheorems.antt, `RootBetween` and `RootOnly`. Assumes nothing.
use Rattle.std.proofs.Common.{◌≡◌, ℕ, zero, suc, ◌+◌, ◌-◌, ◌*◌, ◌/◌, ◌%◌, ◌^◌, ◌<◌, ◌≤◌, true, false, T, sym, refl, ap, ◌∙◌, subst, le_trans, le_of_eq, lt_of_lt_of_le, lt_of_le_of_lt, le_of_lt, mul-le-mul_right, mul_assoc, mul_comm, mul-le-mul, mul-le-mul_left, mul-lt-mul_of_pos_right, mul-pos, arith, lt→ltb, pow_pos, pow_mono, pow-add, shl_lt}
use native.Mathlib.Nat.{mul-mul-mul_comm}
use lib.Ieee.{Float, nan, inf, fin, binary64, size, fits, of_bits, to_bits}
use lib.Ieee.Bits.{of_bits-to_bits, of_bits-fits}
use lib.Ieee.Fits.{nan-fits}
use Rattle.binary64.specs.Root.{root, root_of, root_pattern, whole_root, units, weight, square, Between}
pub use Rattle.binary64.specs.RootTheorems.{root-infinity}
use Rattle.binary64.specs.RootTheorems.{RootBetween, RootOnly}
use Rattle.binary64.proofs.WholeRoot.{root-lt, whole_root-low, whole_root_high, whole_root-lt}
use Rattle.binary64.proofs.Units.{units_is, units-next, units-at, units-after, between_only}
use Rattle.binary64.proofs.Patterns.{pattern_range}
use Rattle.binary64.proofs.RootLaws.{raised, root_of-lt, same_bits, of_some}

-- ---- the two midpoints, in whole numbers

square-lt : (a b : ℕ) → a < b → square a < square b
square-lt a b h =
    let p : a * a ≤ a * b = mul-le-mul_left a (le_of_lt h) in
    let q : a * b < b * b = mul-lt-mul_of_pos_right h (omega arith) in
    omega arith

-- an odd number's square leaves 1 when divided by 4
odd_square : (a q : ℕ) → a % 4 ≡ 0 → q % 2 ≡ 1 → square q ≤ a → square q < a
odd_square a q f o l =
    let e : q ≡ 2 * (q / 2) + 1 = omega arith in
    let s : square q ≡ 4 * (q / 2 * (q / 2) + q / 2) + 1 = ap square e ∙ omega arith in
    omega arith

-- a is the operand, made even and followed by 54 zeros; q its whole root, w the unit of q's half, and `before`, `at` and `after` what the patterns beside the root weigh
module _ (a q w n before at after : ℕ) (positive : 0 < w) (scaled : n ≡ a * (w * w)) (here : at ≡ (q + 1) / 2 * w) where
  squared : (x : ℕ) → square (x * w) ≡ square x * (w * w)
  squared x = mul-mul-mul_comm x w x w

  pub above_lower : square q ≤ a → a % 4 ≡ 0 → before < at → (q % 2 ≡ 1 → before + w ≡ at) → square (before + at) < n
  above_lower l f b o = subst (λ (x : ℕ). square (before + at) < x) (sym scaled) (go (q % 2) refl)
    where
      go : (r : ℕ) → q % 2 ≡ r → square (before + at) < a * (w * w)
      go zero e =
          let d : 2 * ((q + 1) / 2) ≡ q = omega arith in
          let m : 2 * ((q + 1) / 2) * w ≡ q * w = ap (λ (x : ℕ). x * w) d in
          let s : before + at < q * w = omega arith in
          lt_of_lt_of_le (square-lt (before + at) (q * w) s) (le_trans (le_of_eq (squared q)) (mul-le-mul_right (w * w) l))
      go (suc r) e =
          let d : 2 * ((q + 1) / 2) ≡ q + 1 = omega arith in
          let m : 2 * ((q + 1) / 2) * w ≡ (q + 1) * w = ap (λ (x : ℕ). x * w) d in
          let odd : q % 2 ≡ 1 = omega arith in
          let c = o odd in
          let s : before + at ≡ q * w = omega arith in
          lt_of_le_of_lt (le_of_eq (ap square s ∙ squared q)) (mul-lt-mul_of_pos_right (odd_square a q f odd l) (mul-pos positive positive))

  pub below_upper : a < square (q + 1) → ((q + 1) / 2 + 1) * w ≤ after → n < square (at + after)
  below_upper h f =
      let m : (q + 1) * w ≤ (2 * ((q + 1) / 2) + 1) * w = mul-le-mul_right w (omega arith) in
      let s : (q + 1) * w ≤ at + after = omega arith in
      let t : a * (w * w) < square (q + 1) * (w * w) = mul-lt-mul_of_pos_right h (mul-pos positive positive) in
      subst (λ (x : ℕ). x < square (at + after)) (sym scaled) (lt_of_lt_of_le t (le_trans (le_of_eq (sym (squared (q + 1)))) (mul-le-mul s s)))

-- ---- the root of m · 2 ^ (g − 2098)

-- In units of 2^−2148 and four times, the operand is its 54 digits, 54 zeros after them, and twice the root's exponent.
even_exponent : (g : ℕ) → 2 ≤ g → 2 ^ g ≡ 2 ^ (g % 2) * (2 ^ (g / 2 - 1) * 2 ^ (g / 2 - 1)) * 4
even_exponent g h =
    let k = g / 2 - 1 in
    let e : g ≡ g % 2 + (k + k) + 2 = omega arith in
    ap (λ (x : ℕ). 2 ^ x) e ∙ pow-add 2 (g % 2 + (k + k)) 2 ∙ ap (λ (x : ℕ). x * 2 ^ 2) (pow-add 2 (g % 2) (k + k) ∙ ap (λ (x : ℕ). 2 ^ (g % 2) * x) (pow-add 2 k k))

scaled_by : (c u m g : ℕ) → 2 ≤ g → u * 2 ^ c ≡ m * 2 ^ g → 2 ^ (c + 52) * u ≡ m * 2 ^ (g % 2) * 2 ^ 54 * (2 ^ (g / 2 - 1) * 2 ^ (g / 2 - 1))
scaled_by c u m g h e =
    let p = ap (λ (x : ℕ). x * u) (pow-add 2 c 52) in
    let q = ap (λ (x : ℕ). m * x) (even_exponent g h) in
    omega arith

record Operand (m g : ℕ) : Type 0 where
  least : 2 ^ 52 ≤ m * 2 ^ (g % 2)
  most : m * 2 ^ (g % 2) < 2 ^ 54

operand : (m g : ℕ) → 2 ^ 52 ≤ m → m < 2 ^ 53 → Operand m g
operand m g l h =
    let a : m * 2 ^ 0 ≤ m * 2 ^ (g % 2) = mul-le-mul_left m (pow_mono {i = 0} {j = g % 2} (omega arith)) in
    let b : m * 2 ^ (g % 2) ≤ m * 2 ^ 1 = mul-le-mul_left m (pow_mono {i = g % 2} {j = 1} (omega arith)) in
    omega arith

-- its whole root of 54 digits
record Whole (a q : ℕ) : Type 0 where
  least : square q ≤ a
  most : a < square (q + 1)
  four : a % 4 ≡ 0
  long : 2 ^ 53 ≤ q
  short : q < 2 ^ 54

whole : (d : ℕ) → 2 ^ 52 ≤ d → d < 2 ^ 54 → Whole (d * 2 ^ 54) (whole_root 54 (d * 2 ^ 54))
whole d l h =
    let q = whole_root 54 (d * 2 ^ 54) in
    let lo : square q ≤ d * 2 ^ 54 = whole_root-low 54 (d * 2 ^ 54) (shl_lt 54 54 h) in
    let hi : d * 2 ^ 54 < square (q + 1) = whole_root_high 54 (d * 2 ^ 54) (shl_lt 54 54 h) in
    let s : square (2 ^ 53) ≤ d * 2 ^ 54 = mul-le-mul_right (2 ^ 54) l in
    let r : 2 ^ 53 < q + 1 = root-lt (2 ^ 53) (q + 1) (lt_of_le_of_lt s hi) in
    record { least = lo; most = hi; four = omega arith; long = omega arith; short = whole_root-lt 54 (d * 2 ^ 54) }

-- the patterns beside k · 2^52 + c
units-before : (k c : ℕ) → 2 ^ 52 ≤ c → units (k * 2 ^ 52 + c - 1) < units (k * 2 ^ 52 + c)
units-before k c h = let e : k * 2 ^ 52 + c - 1 + 1 ≡ k * 2 ^ 52 + c = omega arith in rw e at (units-next (k * 2 ^ 52 + c - 1))

units-less : (k c : ℕ) → 2 ^ 52 < c → c ≤ 2 ^ 53 → units (k * 2 ^ 52 + c - 1) + 2 ^ k ≡ units (k * 2 ^ 52 + c)
units-less k c l h =
    let e : k * 2 ^ 52 + c - 1 ≡ k * 2 ^ 52 + (c - 1) = omega arith in
    let d : c ≡ c - 1 + 1 = omega arith in
    let m : c * 2 ^ k ≡ (c - 1 + 1) * 2 ^ k = ap (λ (x : ℕ). x * 2 ^ k) d in
    let p = ap units e ∙ units-at k (c - 1) (omega arith) (omega arith) in
    let q = units-at k c (omega arith) h in
    omega arith

-- c is half of q, rounded up
pattern_between : (n a q k : ℕ) → Whole a q → n ≡ a * (2 ^ k * 2 ^ k)
    → (square (units (k * 2 ^ 52 + (q + 1) / 2 - 1) + units (k * 2 ^ 52 + (q + 1) / 2)) < n) × (n < square (units (k * 2 ^ 52 + (q + 1) / 2) + units (k * 2 ^ 52 + (q + 1) / 2 + 1)))
pattern_between n a q k h e =
    let c = (q + 1) / 2 in
    let b = units (k * 2 ^ 52 + c - 1) in
    let u = units (k * 2 ^ 52 + c) in
    let f = units (k * 2 ^ 52 + c + 1) in
    let s = h.long in
    let t = h.short in
    let here : u ≡ c * 2 ^ k = units-at k c (omega arith) (omega arith) in (
      above_lower a q (2 ^ k) n b u f (pow_pos k) e here h.least h.four (units-before k c (omega arith)) (λ o. units-less k c (omega arith) (omega arith)),
      below_upper a q (2 ^ k) n b u f (pow_pos k) e here h.most (units-after k c (omega arith) (omega arith)),
    )

between : (b m g : ℕ) → 2 ≤ g → 2 ^ 52 ≤ m → m < 2 ^ 53 → units b * 2 ^ 1024 ≡ m * 2 ^ g → Between b (root_pattern g m)
unfolding root_pattern
between b m g p l h e =
    let d = m * 2 ^ (g % 2) in
    let o = operand m g l h in
    let z = pattern_between (2 ^ (1024 + 52) * units b) (d * 2 ^ 54) (whole_root 54 (d * 2 ^ 54)) (g / 2 - 1) (whole d o.least o.most) (scaled_by 1024 (units b) m g p e) in
    record { above = z.0; below = z.1 }

-- ---- the root of a positive finite value, by its pattern

-- with c for 1024, which is not to be computed with
lift_up : (c t z : ℕ) → z ≤ c → t * 2 ^ c ≡ t * 2 ^ z * 2 ^ (c - z)
lift_up c t z h =
    let e : c ≡ z + (c - z) = omega arith in
    ap (λ (x : ℕ). t * 2 ^ x) e ∙ ap (λ (x : ℕ). t * x) (pow-add 2 z (c - z)) ∙ sym (mul_assoc t (2 ^ z) (2 ^ (c - z)))

lift_on : (c m f : ℕ) → m * 2 ^ f * 2 ^ c ≡ m * 2 ^ (c + f)
lift_on c m f = mul_assoc m (2 ^ f) (2 ^ c) ∙ ap (λ (x : ℕ). m * x) (mul_comm (2 ^ f) (2 ^ c) ∙ sym (pow-add 2 c f))

-- the definition's two cases weigh what the pattern weighs
fields_between : (b f t : ℕ) → b / 2 ^ 52 ≡ f → b % 2 ^ 52 ≡ t → 0 < b → Between b (root_of f t)
unfolding root_of weight
fields_between b zero t p q h =
    let z = 53 - size t in
    let r = raised t (omega arith) (omega arith) in
    let u : units b ≡ t = units_is b 0 t p q in
    between b (t * 2 ^ z) (1024 - z) (omega arith) r.least r.long (ap (λ (x : ℕ). x * 2 ^ 1024) u ∙ lift_up 1024 t z (omega arith))
fields_between b (suc f) t p q h =
    let u : units b ≡ (2 ^ 52 + t) * 2 ^ f = units_is b (suc f) t p q in
    between b (2 ^ 52 + t) (1024 + f) (omega arith) (omega arith) (omega arith) (ap (λ (x : ℕ). x * 2 ^ 1024) u ∙ lift_on 1024 (2 ^ 52 + t) f)

-- ---- the theorems

pub root-between : RootBetween
root-between m e h =
    let x = fin false (suc m) e in
    let b = to_bits binary64 x in
    let r = pattern_range x h (lt→ltb 0 (suc m) (omega arith)) in
    let s = fields_between b (b / 2 ^ 52) (b % 2 ^ 52) refl refl r.0 in
    let t = ap (to_bits binary64) (of_some x h b refl r.0 r.1) ∙ same_bits (root_of (b / 2 ^ 52) (b % 2 ^ 52)) (root_of-lt (b / 2 ^ 52) (b % 2 ^ 52) (omega arith)) in
    subst (λ (y : ℕ). Between b y) (sym t) s

pub root-fits : (x : Float) → T (fits binary64 x) → T (fits binary64 (root x))
unfolding root
root-fits nan h = h
root-fits (inf true) h = nan-fits binary64
root-fits (inf false) h = h
root-fits (fin s zero e) h = h
root-fits (fin true (suc m) e) h = nan-fits binary64
root-fits (fin false (suc m) e) h = of_bits-fits binary64 (root_of (to_bits binary64 (fin false (suc m) e) / 2 ^ 52) (to_bits binary64 (fin false (suc m) e) % 2 ^ 52))

pub root_only : RootOnly
root_only m e h y k b =
    let x = fin false (suc m) e in
    let p : to_bits binary64 y ≡ to_bits binary64 (root x) = between_only (to_bits binary64 x) (to_bits binary64 y) (to_bits binary64 (root x)) b (root-between m e h) in
    sym (of_bits-to_bits binary64 y k) ∙ ap (of_bits binary64) p ∙ of_bits-to_bits binary64 (root x) (root-fits x h)
