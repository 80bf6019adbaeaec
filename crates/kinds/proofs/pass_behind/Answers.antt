-- `pass_behind` meets its contract: what a pass leaves of a slice of the vectors stands at the front of what is behind. Assumes nothing.
use borrow.Author.Rules.{rules}
use Rattle.kinds.proofs.LawsKinds.{passed_behind}
use Rattle.kinds.proofs.pass_behind.Goals as goal

pub returns-clause-passed : goal.returns-clause-passed
returns-clause-passed c = passed_behind _ _ _ _ _ c.matrix-a.ensures.long c.thresholds.ensures.tiny c.thresholds.ensures.tolerance c.matrix-a.ensures.is (search rules) c.pass_in_row.ensures
