-- `direct` meets its contract: after i turns the first i elements are r + beta p. Assumes nothing.
use Rattle.std.proofs.Common.{arith}
use Rattle.conjugate.proofs.LawsLoops.{direct_none, direct_step, direct_done}
use Rattle.conjugate.proofs.direct.Goals as goal

pub loop-i-init : goal.loop-i-init
loop-i-init c = direct_none _ _ _

pub loop-i-preserved : goal.loop-i-preserved
loop-i-preserved c = direct_step c.requires (omega arith) c.loop-i.invariant

pub returns : goal.returns
returns c = direct_done c.loop-i.i c.requires (omega arith) c.loop-i.invariant
