-- `root::root_of_ordinary` meets its contract: it is the definition's second case. Assumes nothing.
use Rattle.std.proofs.Common.{◌∙◌}
use Rattle.binary64.proofs.RootLaws.{ordinary_is}
use Rattle.root.proofs.root_of_ordinary.Goals as goal

pub returns : goal.returns
returns c = c.root_pattern.ensures ∙ ordinary_is c.args.field c.args.digits c.requires.0
