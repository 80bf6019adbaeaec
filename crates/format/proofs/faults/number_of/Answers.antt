-- `format::faults::number_of` meets its contract: a pattern that is no NaN's is its number. Assumes nothing.
use mathlib.Core.Path.{◌≡◌, sym, ap, ◌∙◌}
use mathlib.Core.Bool.{true, false}
use lib.Ieee.{Float, binary64, of_bits, is_nan, nan_bits}
use lib.Ieee.Bits.{nan_bits_is}
use Rattle.std.specs.Prelude.{Ok, Err}
use Rattle.refusal.specs.declared.Refusal.{Refusal}
use Rattle.format.specs.RefusalLaws.{pick_true, pick_false}
use Rattle.format.proofs.faults.number_of.Goals as goal

pub returns-then-is_nan : goal.returns-then-is_nan
returns-then-is_nan c =
    let e : nan_bits binary64 c.args.bits ≡ true = nan_bits_is binary64 c.args.bits ∙ ap is_nan (sym c.f64_from_bits_with_nan-x.ensures) ∙ sym c.is_nan.ensures.value ∙ c.if-is_nan.true in
    sym (pick_true (Err Refusal.NotANumber) (Ok (of_bits binary64 c.args.bits)) e)

pub returns : goal.returns
returns c =
    let e : nan_bits binary64 c.args.bits ≡ false = nan_bits_is binary64 c.args.bits ∙ ap is_nan (sym c.f64_from_bits_with_nan-x.ensures) ∙ sym c.is_nan.ensures.value ∙ c.if-is_nan.false in
    ap (λ (x : Float). Ok x) c.f64_from_bits_with_nan-x.ensures ∙ sym (pick_false (Err Refusal.NotANumber) (Ok (of_bits binary64 c.args.bits)) e)
