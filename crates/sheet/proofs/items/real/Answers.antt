-- `sheet::items::real` meets its contract: the number of a pattern, and +0 for a NaN's.
-- Assumes nothing.
use mathlib.Core.Path.{◌≡◌, refl, ap, ◌∙◌}
use mathlib.Core.Bool.{Bool, true, false}
use Prim.Native.Nat.{ℕ}
use lib.Ieee.{Float, binary64, of_bits, nan_bits}
use Rattle.std.specs.Prelude.{Result, Ok, Err}
use Rattle.std.specs.Result.{result_unwrap_or}
use Rattle.binary64.specs.Constants.{plus_zero}
use Rattle.binary64.specs.Number.{pick}
use Rattle.refusal.specs.declared.Refusal.{Refusal}
use Rattle.format.specs.Setting.{number_read}
use Rattle.format.specs.LeLaws.{from_eight}
use Rattle.sheet.specs.Items.{real_in}
use Rattle.sheet.proofs.items.real.Goals as goal

real_read : (bits : ℕ) → result_unwrap_or (number_read bits) plus_zero ≡ real_in bits
real_read bits = go (nan_bits binary64 bits)
  where
    go : (t : Bool) → result_unwrap_or {T = Float} {E = Refusal} (pick t (Err Refusal.NotANumber) (Ok (of_bits binary64 bits))) plus_zero ≡ pick t plus_zero (of_bits binary64 bits)
    go true = refl
    go false = refl

pub returns : goal.returns
returns c =
    c.unwrap_or.ensures
    ∙ ap (λ (r : Result Float Refusal). result_unwrap_or r plus_zero) c.number_of.ensures
    ∙ real_read c.from_le_bytes.result
    ∙ ap real_in (c.from_le_bytes.ensures ∙ from_eight c.args.bits.now)
