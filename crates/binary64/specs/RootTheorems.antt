-- What is to be believed of the square root (document 01, Stand-ins and S7): `root` is the one of IEEE 754-2019, 5.4.1, for every double.
-- The special values and the samples are computed here. `RootBetween` and `RootOnly` are statements, proved in proofs/Nearest.antt: `root-between : RootBetween`, `root_only : RootOnly`.
-- Assumes nothing.
use Rattle.std.specs.Prelude.{◌≡◌, ℕ, zero, suc, ◌-◌, ◌*◌, ◌^◌, Bool, true, false, T, ℤ, refl, Float}
use Rattle.std.specs.Float.{nan, inf, fin, binary64}
use Rattle.std.specs.Float.Ieee.{fits, of_bits, to_bits}
use Rattle.binary64.specs.Root.{root, whole_root, Between}

-- ---- zeros and +infinity return themselves; NaN and negatives give NaN

pub root_zero : (s : Bool) (e : ℤ) → root (fin s zero e) ≡ fin s zero e
unfolding root
root_zero s e = refl

pub root-infinity : root (inf false) ≡ inf false
unfolding root
root-infinity = refl

pub root_nan : root nan ≡ nan
unfolding root
root_nan = refl

pub root_negative : (m : ℕ) (e : ℤ) → root (fin true (suc m) e) ≡ nan
unfolding root
root_negative m e = refl

pub root_negative_infinity : root (inf true) ≡ nan
unfolding root
root_negative_infinity = refl

-- ---- any other double, (m + 1) · 2^e with no sign: the nearest one

-- It lies strictly between the squares of the two midpoints beside its root. (That a value fits is that it is a double.)
abbrev pub RootBetween : Type 0
RootBetween = (m : ℕ) (e : ℤ) → T (fits binary64 (fin false (suc m) e)) → Between (to_bits binary64 (fin false (suc m) e)) (to_bits binary64 (root (fin false (suc m) e)))

-- A double y with that property is its root: no other has it.
abbrev pub RootOnly : Type 0
RootOnly =
    (m : ℕ) (e : ℤ) → T (fits binary64 (fin false (suc m) e)) → (y : Float) → T (fits binary64 y) → Between (to_bits binary64 (fin false (suc m) e)) (to_bits binary64 y) → y ≡ root (fin false (suc m) e)

-- ---- S7

-- of 2
pub sample_two : to_bits binary64 (root (of_bits binary64 0x4000_0000_0000_0000)) ≡ 0x3ff6_a09e_667f_3bcd
unfolding root whole_root of_bits to_bits
sample_two = refl

-- of 2^−1074, the smallest subnormal: 2^−537, whose field is 1023 − 537
pub sample_least : to_bits binary64 (root (of_bits binary64 0x0000_0000_0000_0001)) ≡ (1023 - 537) * 2 ^ 52
unfolding root whole_root of_bits to_bits
sample_least = refl

-- of −0: −0
pub sample_minus_zero : root (of_bits binary64 0x8000_0000_0000_0000) ≡ of_bits binary64 0x8000_0000_0000_0000
unfolding root of_bits
sample_minus_zero = refl
