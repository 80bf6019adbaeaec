-- `step_beside` meets its contract: after i turns the first i elements of x and r are moved. Assumes nothing.
use Rattle.std.proofs.Common.{arith, refl}
use Rattle.conjugate.proofs.LawsPass.{length-product_of}
use Rattle.conjugate.proofs.LawsLoops.{step_none, step_turn, step_done}
use Rattle.conjugate.proofs.step_beside.Goals as goal

pub loop-i-init : goal.loop-i-init
loop-i-init c = step_none _ _ _ _ _

pub loop-i-preserved : goal.loop-i-preserved
loop-i-preserved c =
    let h = c.requires.w_long in
    step_turn _ _ c.requires (length-product_of c.args.a.now c.args.p.now) (omega arith) c.loop-i.invariant c.row_product-q.ensures refl

pub returns : goal.returns
returns c =
    let h = c.requires.w_long in
    step_done c.loop-i.i c.requires (length-product_of c.args.a.now c.args.p.now) (omega arith) c.loop-i.invariant
