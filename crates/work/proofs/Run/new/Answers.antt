-- `Run::new` meets its contract: its stand is that of place 0. Assumes nothing.
use Rattle.work.proofs.LawsPlace.{new_is}
use Rattle.work.proofs.Run.new.Goals as goal

pub returns : goal.returns
returns c = new_is _ _ _ _ c.first_end.ensures c.pathless-stand.ensures
