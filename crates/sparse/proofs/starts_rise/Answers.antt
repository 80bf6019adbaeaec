-- `starts_rise` meets its contract: what it has found, with what is left to see from the start before on, comes to what the definition says of all. Assumes nothing.
use Rattle.std.proofs.Common.{arith}
use Rattle.sparse.proofs.LawsScan.{rises_none, rises_step, rises_done}
use Rattle.sparse.proofs.starts_rise.Goals as goal

pub loop-next-init : goal.loop-next-init
loop-next-init c = rises_none _ _

pub loop-next-preserved : goal.loop-next-preserved
loop-next-preserved c = rises_step c.args.starts.now _ c.loop-next.next-index _ _ _ (omega arith) c.loop-next.invariant

pub returns : goal.returns
returns c = rises_done c.args.starts.now _ c.loop-next.next-index _ _ _ (omega arith) c.loop-next.invariant
