-- `Lists::real` meets its contract: what has no place is 0. Assumes nothing.
use Rattle.records.proofs.lists.Lists.real.Goals as goal

pub returns : goal.returns
returns c = c.get_or.ensures
