-- `copy` meets its contract: what std's `copy_within` leaves is the splice. Assumes nothing.
use Rattle.std.proofs.Common.{◌+◌, ◌∙◌, refl}
use Rattle.stretch.proofs.LoopLaws.{pasted_is}
use Rattle.stretch.proofs.copy.Goals as goal

pub returns : goal.returns
returns g c = c.copy_within.ensures.after ∙ pasted_is c.args.s.now c.args.src (c.args.src + c.args.n) c.args.at c.args.n refl c.requires.0 c.requires.1
