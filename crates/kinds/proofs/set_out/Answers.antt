-- `set_out` meets its contract: with the start that is found, or with the end where none is, its stand is the definition's. Assumes nothing.
use Rattle.kinds.proofs.LawsKinds.{start_lost, start_found}
use Rattle.kinds.proofs.set_out.Goals as goal

pub returns-in_default : goal.returns-in_default
returns-in_default c = let a = c.args in
    start_lost _ a.given _ _ _ _ c.in_default.is c.lost_end.ensures c.lost.ensures c.walked_stand.ensures

pub returns : goal.returns
returns c = start_found _ c.args.given _ _ _ c.in-Some.is c.walked_stand-2.ensures
