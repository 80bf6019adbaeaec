-- `pathless` meets its contract: its walk is that of no path. Assumes nothing.
use Rattle.work.proofs.LawsPlace.{stood_nowhere}
use Rattle.work.proofs.place.pathless.Goals as goal

pub returns : goal.returns
returns c = stood_nowhere _ _ _ _ _ c.lost-walk.ensures
