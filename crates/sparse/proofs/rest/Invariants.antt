-- `rest` meets its contract: what is left from the sum on comes to what the whole comes to. Assumes nothing.
use Rattle.sparse.proofs.LawsRow.{Left}
use Rattle.sparse.proofs.rest.Given as goal

abbrev pub invariant-loop-e : goal.invariant-loop-e
invariant-loop-e l = Left l.cols l.values l.x l.partial l.from l.to l.e l.sum
