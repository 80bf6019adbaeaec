-- `pass_beside` meets its contract: its three loops come to the vectors of the definition, each test to the definition's test of the same number. Assumes nothing.
use Rattle.std.proofs.Common.{refl}
use Rattle.conjugate.proofs.LawsPass.{halts, settles}
use Rattle.conjugate.proofs.pass_beside.Goals as goal

pub returns-then-abs-thresholds : goal.returns-then-abs-thresholds
returns-then-abs-thresholds c = halts _ _ _ _ _ _ _ _ c.curvature-pap.ensures (rw c.abs.ensures at c.if-abs-thresholds.true)

pub returns : goal.returns
returns c = settles _ _ _ _ _ _ _ _ c.curvature-pap.ensures _ _ _ _ refl c.step_beside-square.ensures (rw c.abs.ensures at c.if-abs-thresholds.false) c.settle.ensures
