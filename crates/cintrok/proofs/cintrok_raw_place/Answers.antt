-- `cintrok_raw_place` meets its contract: the place is number 5. Assumes nothing.
use Rattle.cintrok.proofs.cintrok_raw_place.Goals as goal

pub returns : goal.returns
returns c = c.get_or.ensures
