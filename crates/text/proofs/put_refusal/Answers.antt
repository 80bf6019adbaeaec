use Rattle.std.proofs.Common.{arith, ap}
use Rattle.text.specs.Text.{refused_text}
use Rattle.text.specs.PutLaws.{printed_as}
use Rattle.text.proofs.put_refusal.Goals as goal

pub returns : goal.returns
returns c = printed_as _ c.put_refused.ensures (ap refused_text (omega (arith, c.from.ensures, c.number.ensures)))
