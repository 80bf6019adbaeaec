-- `length` meets its contract: it is the path's length. Assumes nothing. It stands so that a refusal names the fact.
use Rattle.showing.proofs.path.length.Goals as goal

pub returns : goal.returns
returns c = c.length.ensures
