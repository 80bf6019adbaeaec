use Rattle.std.proofs.Common.{arith, ap, ◌∙◌, ℕ}
use Rattle.text.specs.Text.{digits}
use Rattle.text.specs.PutLaws.{adds_as}
use Rattle.text.specs.TextLaws.{length-decimal, decimal_is}
use Rattle.text.proofs.raw.Output.decimal.Goals as goal

pub digits-requires : goal.digits-requires
digits-requires c = (omega (arith, length-decimal c.args.n), omega arith, omega arith)

pub returns : goal.returns
returns c = adds_as _ c.digits.ensures (ap (λ (k : ℕ). digits 10 k c.args.n) c.places.ensures.0 ∙ decimal_is c.args.n)
