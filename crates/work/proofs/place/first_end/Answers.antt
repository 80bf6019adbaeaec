-- `first_end` meets its contract: a limit is used up before any pass where it is 0. Assumes nothing.
use Rattle.work.proofs.LawsPlace.{first_end_is}
use Rattle.work.proofs.place.first_end.Goals as goal

pub returns : goal.returns
returns c = first_end_is c.args.limit c.limit_end.ensures
