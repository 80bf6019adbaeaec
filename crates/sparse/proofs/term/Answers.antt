-- `term` meets its contract: the index is the column. It stands so that a refusal names the fact. Assumes nothing.
use Rattle.std.proofs.Common.{refl}
use Rattle.sparse.proofs.term.Goals as goal

pub returns : goal.returns
returns c = refl
