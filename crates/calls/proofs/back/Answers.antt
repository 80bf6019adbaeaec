-- `calls::back` meets its contract: the place sought is the definition's. Assumes nothing.
use native.Mathlib.Omega.{arith}
use Rattle.image.specs.Calls.{buffers}
use Rattle.image.proofs.ExitLaws.{admitted, refused_early, back_done}
use Rattle.calls.proofs.back.Goals as goal

pub returns-in_err-held_fault : goal.returns-in_err-held_fault
returns-in_err-held_fault c = refused_early _ _ _ _ _ c.from_residual.ensures.1 c.in_err-held_fault.ensures

pub seek-stand-requires : goal.seek-stand-requires
seek-stand-requires c =
    let a = c.args in
    let i = admitted a.run (buffers a.floats.now a.words.now a.path.now) c.in_ok-held_fault.ensures in
    (i, omega (arith, i.place_in))

pub returns : goal.returns
returns c =
    let a = c.args in
    back_done a.run (buffers a.floats.now a.words.now a.path.now) c.in_ok-held_fault.ensures _ _ _ _ c.moved-earlier.ensures a.k _ c.saturating_sub-before.ensures c.seek-stand.ensures
