use Rattle.std.proofs.Common.{arith, ap, ◌∙◌}
use Rattle.text.specs.Text.{digits}
use Rattle.text.specs.PutLaws.{adds_as}
use Rattle.text.specs.TextLaws.{length_hex, hex_is}
use Rattle.text.proofs.raw.Output.hex.Goals as goal

pub digits-requires : goal.digits-requires
digits-requires c = (omega (arith, length_hex c.args.x), omega arith, omega arith)

pub returns : goal.returns
returns c = adds_as _ c.digits.ensures (ap (digits 16 16) (omega (arith, c.f64_to_bits_with_nan-bits.ensures)) ∙ hex_is c.args.x)
