-- Laws of the stand-ins: each gives a binary64 number where it is given such numbers, and a count fits 64 bits. And of tests: where two pass together, each passes. Assumes nothing.
use Rattle.std.specs.Prelude.{◌≡◌, zero, suc, ◌-◌, ◌^◌, ◌<◌, ◌≤◌, Bool, true, false, ◌&&◌, T, refl, Float}
use Rattle.std.proofs.Common.{arith}
use Rattle.std.proofs.lemmas.Bool.{false≢true}
use Rattle.std.specs.Float.{nan, inf, fin, Format, binary64}
use Rattle.std.specs.Float.Ieee.{fits, lt}
use Rattle.std.specs.Float.Ieee.Bits.{of_bits-fits}
use Rattle.binary64.specs.Constants.{plus_zero, one}
use Rattle.binary64.specs.Number.{pick, abs_of, clamp_of, at_least, ceil_count}

pub both : (a b : Bool) → (a && b) ≡ true → (a ≡ true) × (b ≡ true)
both true b h = (refl, h)
both false b h = absurd (false≢true h)

pub pick-fits : (f : Format) (t : Bool) (x y : Float) → T (fits f x) → T (fits f y) → T (fits f (pick t x y))
pick-fits f true x y a b = a
pick-fits f false x y a b = b

pub abs_fits : (f : Format) (x : Float) → T (fits f x) → T (fits f (abs_of x))
unfolding abs_of fits
abs_fits f nan a = a
abs_fits f (inf s) a = a
abs_fits f (fin s zero e) a = a
abs_fits f (fin s (suc m) e) a = a

pub clamp_fits : (x : Float) → T (fits binary64 x) → T (fits binary64 (clamp_of x))
unfolding clamp_of
clamp_fits x a = pick-fits binary64 (lt x plus_zero) plus_zero (pick (lt one x) one x) (of_bits-fits binary64 0) (pick-fits binary64 (lt one x) one x (of_bits-fits binary64 0x3ff0_0000_0000_0000) a)

pub at_least-fits : (f : Format) (floor x : Float) → T (fits f floor) → T (fits f x) → T (fits f (at_least floor x))
unfolding at_least
at_least-fits f floor x a b = pick-fits f (lt floor x) x floor b a

pub ceil_count-le : (x : Float) → ceil_count x ≤ 2 ^ 64 - 1
unfolding ceil_count
ceil_count-le nan = omega arith
ceil_count-le (inf true) = omega arith
ceil_count-le (inf false) = omega arith
ceil_count-le (fin true m e) = omega arith
ceil_count-le (fin false m e) = omega arith

pub ceil_count-lt : (x : Float) → ceil_count x < 2 ^ 64
ceil_count-lt x = omega (arith, ceil_count-le x)
