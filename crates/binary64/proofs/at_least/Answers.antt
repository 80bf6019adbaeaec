-- `binary64::at_least` meets its contract: each branch is the one that `at_least` picks by the same comparison. Assumes nothing.
use Rattle.binary64.specs.Number.{at_least}
use Rattle.binary64.proofs.at_least.Goals as goal

pub returns-then-floor-x : goal.returns-then-floor-x
unfolding at_least
returns-then-floor-x c = simp c.if-floor-x.true

pub returns : goal.returns
unfolding at_least
returns c = simp c.if-floor-x.false
