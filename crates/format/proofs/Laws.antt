-- What the tests on floats and on kinds tell of the definitions. Assumes nothing.
use Prim.Native.Nat.{ℕ}
use Rattle.std.specs.Prelude.{Result, Ok, Err, is_some, ◌&&◌}
use Rattle.std.specs.Bool.{beq}
use Rattle.std.specs.Float.{float_is_finite}
use mathlib.Core.Path.{◌≡◌, refl, sym, ap, ◌∙◌}
use mathlib.Core.Bool.{Bool, true, false}
use lib.Ieee.{Float, nan, inf, fin, binary64, of_bits, of_fields, nan_bits, lt, neg}
use lib.Ieee.Bits.{nan_bits_is}
use Rattle.binary64.specs.Constants.{plus_zero}
use Rattle.binary64.specs.Number.{pick}
use Rattle.refusal.specs.Refusal.{number_of}
use Rattle.refusal.specs.declared.Refusal.{Refusal}
use Rattle.format.specs.Setting.{number_read}
use Rattle.format.specs.declared.Settings.{Settings}
use Rattle.format.specs.Refusal.{finite, positive, coordinate, coordinate_fault, missing}
use Rattle.format.specs.RefusalLaws.{pick_true, and_true}

pub finite_is : (x : Float) → float_is_finite x ≡ finite x
unfolding finite float_is_finite
finite_is nan = refl
finite_is (inf s) = refl
finite_is (fin s m e) = refl

abbrev pub infinity : Float
infinity = of_bits binary64 0x7ff0_0000_0000_0000

-- a finite number is between the infinities
pub finite_between : (x : Float) → finite x ≡ (lt x infinity && lt (neg infinity) x)
unfolding finite lt neg of_bits of_fields
finite_between nan = refl
finite_between (inf true) = refl
finite_between (inf false) = refl
finite_between (fin s m e) = refl

pub positive_if : (x : Float) → finite x ≡ true → lt plus_zero x ≡ positive x
unfolding positive
positive_if x h = ap (λ (t : Bool). t && lt plus_zero x) (sym h)

pub positive_else : (x : Float) → finite x ≡ false → false ≡ positive x
unfolding positive
positive_else x h = ap (λ (t : Bool). t && lt plus_zero x) (sym h)

-- ---- a number by its pattern

pub coordinate_refused : (bits : ℕ) (e : Refusal) → ◌≡◌ {A = Result Float Refusal} (Err e) (number_read bits) → number_of e ≡ coordinate_fault (of_bits binary64 bits)
coordinate_refused bits e h = go (nan_bits binary64 bits) refl h
  where
    go : (t : Bool) → nan_bits binary64 bits ≡ t → ◌≡◌ {A = Result Float Refusal} (Err e) (pick t (Err Refusal.NotANumber) (Ok (of_bits binary64 bits))) → number_of e ≡ coordinate_fault (of_bits binary64 bits)
    go true n h =
        let k : e ≡ Refusal.NotANumber = cc in
        ap number_of k ∙ sym (pick_true 6 (pick (coordinate (of_bits binary64 bits)) 0 7) (sym (nan_bits_is binary64 bits) ∙ n))
    go false n h = cc

-- ---- settings

pub none_missing : (s : Settings) → is_some s.step ≡ true → is_some s.room ≡ true → beq (is_some s.x) (is_some s.y) ≡ true → 0 ≡ missing s
unfolding missing
none_missing s p q r = sym (pick_true 0 5 (and_true (and_true p q) r))
