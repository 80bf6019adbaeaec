-- `step` meets its contract: after i turns the first i elements of x and r are moved, and the first i of the product cleared. Assumes nothing.
use Rattle.std.proofs.Common.{arith, refl}
use Rattle.conjugate.proofs.LawsLoops.{along_p, step_none, step_turn, step_done, cleared_none, cleared_step, cleared_ahead, cleared_done}
use Rattle.conjugate.proofs.step.Goals as goal

pub loop-i-init : goal.loop-i-init
loop-i-init c = (step_none _ _ _ _ _, cleared_none _)

pub loop-i-preserved : goal.loop-i-preserved
loop-i-preserved c =
    let d = c.loop-i.invariant in
    (step_turn _ _ (along_p c.requires) c.requires.w_long (omega arith) d.0 (cleared_ahead _ _ _ d.1) refl, cleared_step _ _ _ d.1)

pub returns : goal.returns
returns c =
    let d = c.loop-i.invariant in
    record { stepped = step_done c.loop-i.i (along_p c.requires) c.requires.w_long (omega arith) d.0; cleared = cleared_done _ _ _ c.loop-i.i c.requires.w_long (omega arith) d.1 }
