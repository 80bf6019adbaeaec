-- `rest` meets its contract: what is left from the sum on comes to what the whole comes to. Assumes nothing.
use Rattle.std.proofs.Common.{arith, refl, ◌+◌}
use Rattle.sparse.proofs.LawsRow.{left_step, left_done}
use Rattle.sparse.proofs.rest.Goals as goal

pub loop-e-preserved : goal.loop-e-preserved
loop-e-preserved c = left_step (c.loop-e.e + 1) c.loop-e.invariant c.requires.2 (omega arith) (omega arith) refl c.term-sum.ensures

pub returns : goal.returns
returns c = left_done c.loop-e.invariant (omega arith)
