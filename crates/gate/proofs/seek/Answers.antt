-- `gate::seek` meets its contract: the way is that of the record's plan, stand and mark. Assumes nothing. It stands so that a refusal names the fact.
use Rattle.gate.proofs.seek.Goals as goal

pub returns : goal.returns
returns c = c.seek.ensures
