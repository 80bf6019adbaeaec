-- `one_pass` meets its contract: its three loops come to the vectors of the definition, each test to the definition's test of the same number. Assumes nothing.
use Rattle.conjugate.proofs.LawsPass.{halts, settles}
use Rattle.conjugate.proofs.one_pass.Goals as goal

pub returns-then-abs-thresholds-clause-passed : goal.returns-then-abs-thresholds-clause-passed
returns-then-abs-thresholds-clause-passed c = halts _ _ _ _ _ _ _ _ c.product-pap.ensures.sum_is (rw c.abs.ensures at c.if-abs-thresholds.true)

pub returns-clause-passed : goal.returns-clause-passed
returns-clause-passed c = settles _ _ _ _ _ _ _ _ c.product-pap.ensures.sum_is _ _ _ _ c.product-pap.ensures.is c.step-next.ensures.stepped (rw c.abs.ensures at c.if-abs-thresholds.false) c.settle.ensures
