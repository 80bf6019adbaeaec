-- Document 01's stand-ins for `abs`, `clamp(0, 1)`, `max(1e-24)` and `ceil() as usize`, over the values of lib.Ieee (IEEE 754-2019, 3.4). Definitions only.
-- lib.Ieee has one `nan`, so any NaN counts as any other, as document 01 has it. Assumes nothing.
use Rattle.std.specs.Prelude.{ℕ, ◌+◌, ◌-◌, ◌*◌, ◌/◌, ◌^◌, min, Bool, true, false, Float}
use Rattle.std.specs.Float.{nan, inf, fin}
use Rattle.std.specs.Float.Ieee.{up, down, lt}
use Rattle.binary64.specs.Constants.{plus_zero, one}

-- the first of two values where the test passes, else the second
abbrev pub pick {ℓ} : {A : Type ℓ} → Bool → A → A → A
pick true a b = a
pick false a b = b

-- The sign bit cleared (IEEE 754-2019, 5.5.1).
unfoldable pub abs_of : Float → Float
abs_of nan = nan
abs_of (inf s) = inf false
abs_of (fin s m e) = fin false m e

-- Below 0 gives 0, above 1 gives 1, all else, −0 and NaN too, itself.
unfoldable pub clamp_of : Float → Float
clamp_of x = pick (lt x plus_zero) plus_zero (pick (lt one x) one x)

-- The greater of x and the floor; a NaN gives the floor.
unfoldable pub at_least : Float → Float → Float
at_least floor x = pick (lt floor x) x floor

-- The quotient a / b rounded up, for b above 0.
abbrev pub quotient_up : ℕ → ℕ → ℕ
quotient_up a b = (a + (b - 1)) / b

-- The least whole number that is not below x, in 64 bits: a NaN and what is not above 0 give 0, anything above 2^64 − 1 gives 2^64 − 1.
unfoldable pub ceil_count : Float → ℕ
ceil_count nan = 0
ceil_count (inf true) = 0
ceil_count (inf false) = 2 ^ 64 - 1
ceil_count (fin true m e) = 0
ceil_count (fin false m e) = min (quotient_up (m * up e) (down e)) (2 ^ 64 - 1)
