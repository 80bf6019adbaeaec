-- `calls::return_to_mark` meets its contract: the place sought is the mark's, and a return with no mark is refused after all else. Assumes nothing.
use Rattle.image.specs.Calls.{buffers}
use Rattle.image.proofs.ExitLaws.{admitted, refused_early, return_late, return_done}
use Rattle.calls.proofs.return_to_mark.Goals as goal

pub returns-in_err-held_fault : goal.returns-in_err-held_fault
returns-in_err-held_fault c = refused_early _ _ _ _ _ c.from_residual.ensures.1 c.in_err-held_fault.ensures

pub returns-in_default : goal.returns-in_default
returns-in_default c = return_late _ _ c.in_ok-held_fault.ensures c.in_default.is

pub seek-stand-requires : goal.seek-stand-requires
seek-stand-requires c =
    let a = c.args in
    let i = admitted a.run (buffers a.floats.now a.words.now a.path.now) c.in_ok-held_fault.ensures in
    (i, (rw c.in-Some.is at i.mark_in).0)

pub returns : goal.returns
returns c = return_done _ _ c.in_ok-held_fault.ensures _ _ _ _ c.moved-returned.ensures _ c.in-Some.is c.seek-stand.ensures
