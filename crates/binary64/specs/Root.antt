-- The square root of binary64 (IEEE 754-2019, 5.4.1): the double nearest to it, worked out from the exponent's field and the digits below it. Definitions only.
-- `root` is what the function computes. `Between` says, in whole numbers, that a pattern is the nearest one; RootTheorems.antt states that `root` gives it and that no other does.
-- Assumes nothing.
use Rattle.std.specs.Prelude.{ℕ, zero, suc, ◌+◌, ◌-◌, ◌*◌, ◌/◌, ◌%◌, ◌^◌, ◌<◌, true, false, from_bits, nat_le, to_bits, Float}
use Rattle.std.specs.Float.{nan, inf, fin, binary64}
use Rattle.std.specs.Float.Ieee.{size}
use Rattle.binary64.specs.Number.{pick}

-- ---- the nearest double, in whole numbers

-- What a pattern below 2^63 weighs, in units of 2^−1074: with a field of 0 its digits, else its digits after a leading one, doubled field − 1 times.
unfoldable pub weight : ℕ → ℕ → ℕ
weight zero digits = digits
weight (suc f) digits = (2 ^ 52 + digits) * 2 ^ f

unfoldable pub units : ℕ → ℕ
unfolding weight
units b = weight (b / 2 ^ 52) (b % 2 ^ 52)

abbrev pub square : ℕ → ℕ
square n = n * n

-- The operand b lies strictly between the squares of the two midpoints beside r: those of r with the pattern before it and with the pattern after it.
-- Twice a midpoint is the sum of two neighbours, and b is 2^1074 units of 2^−2148 for each of its own, so both sides are taken four times in units of 2^−2148.
pub record Between (b r : ℕ) : Type 0 where
  pub above : square (units (r - 1) + units r) < 4 * 2 ^ 1074 * units b
  pub below : 4 * 2 ^ 1074 * units b < square (units r + units (r + 1))

-- ---- the root

-- The whole part of the square root of an n below 4 ^ k, a binary digit for each pair of n's.
unfoldable pub whole_root : ℕ → ℕ → ℕ
whole_root zero n = 0
whole_root (suc k) n = let r = 2 * whole_root k (n / 4) in pick (nat_le (square (r + 1)) n) (r + 1) r

-- The pattern of the root of m · 2 ^ (g − 2098), for m of 53 digits. The operand's exponent is made even, and 54 digits of the root are taken: the last one rounds.
-- No tie can occur, since a root of 54 digits that ends in 1 has an odd square.
unfoldable pub root_pattern : ℕ → ℕ → ℕ
root_pattern g m = (g / 2 - 1) * 2 ^ 52 + (whole_root 54 (m * 2 ^ (g % 2) * 2 ^ 54) + 1) / 2

-- The root of the positive double that a field and digits below it stand for. A subnormal's digits are moved up to 53 first.
unfoldable pub root_of : ℕ → ℕ → ℕ
unfolding root_pattern
root_of zero digits = let z = 53 - size digits in root_pattern (1024 - z) (digits * 2 ^ z)
root_of (suc f) digits = root_pattern (1024 + f) (2 ^ 52 + digits)

abbrev pub positive_root : ℕ → Float
positive_root b = from_bits binary64 (root_of (b / 2 ^ 52) (b % 2 ^ 52))

-- Zeros and +infinity return themselves; NaN and negatives give NaN.
unfoldable pub root : Float → Float
unfolding root_of
root nan = nan
root (inf true) = nan
root (inf false) = inf false
root (fin s zero e) = fin s zero e
root (fin true (suc m) e) = nan
root (fin false (suc m) e) = positive_root (to_bits binary64 (fin false (suc m) e))
