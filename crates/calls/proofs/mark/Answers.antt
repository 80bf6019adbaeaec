-- `calls::mark` meets its contract: the record and the floats are kept as the definition keeps them. Assumes nothing.
use native.Mathlib.Omega.{arith}
use Rattle.image.specs.Calls.{buffers}
use Rattle.image.proofs.ExitLaws.{admitted, refused_early, mark_done}
use Rattle.calls.proofs.mark.Goals as goal

pub returns-in_err-held_fault : goal.returns-in_err-held_fault
returns-in_err-held_fault c = refused_early _ _ _ _ _ c.from_residual.ensures.1 c.in_err-held_fault.ensures

pub invariant_of-keep : goal.invariant_of-keep
invariant_of-keep c =
    let a = c.args in
    let i = admitted a.run (buffers a.floats.now a.words.now a.path.now) c.in_ok-held_fault.ensures in
    record { n_most = i.ready.n_most; t_most = i.ready.t_most }

pub keep-requires : goal.keep-requires
keep-requires c =
    let a = c.args in
    let i = admitted a.run (buffers a.floats.now a.words.now a.path.now) c.in_ok-held_fault.ensures in
    (i.ready.limit-most, omega (arith, i.roomy.floats_fit))

pub returns : goal.returns
returns c =
    let a = c.args in
    rw c.from-kept.ensures (mark_done a.run (buffers a.floats.now a.words.now a.path.now) c.in_ok-held_fault.ensures _ c.keep.ensures)
