-- `residual` meets its contract: after i turns the first i elements of r and p are b less the product, and the first i of the product cleared. Assumes nothing.
use Rattle.std.proofs.Common.{arith, refl, ap, ◌≡◌, get_or}
use Rattle.std.specs.Float.{nan, binary64}
use Rattle.std.specs.Float.Ieee.{sub}
use Rattle.conjugate.proofs.LawsLoops.{resides_none, resides_turn, resides_done, cleared_none, cleared_step, cleared_ahead, cleared_done}
use Rattle.conjugate.proofs.residual.Goals as goal

pub loop-i-init : goal.loop-i-init
loop-i-init c = (resides_none _ _ _ _, cleared_none _)

pub loop-i-preserved : goal.loop-i-preserved
loop-i-preserved c =
    let d = c.loop-i.invariant in
    let q : get_or c.loop-i.product c.loop-i.i nan ≡ get_or c.args.product.now c.loop-i.i nan = cleared_ahead _ _ _ d.1 in
    (resides_turn _ c.requires refl (omega arith) d.0 (ap (sub binary64 (get_or c.args.b.now c.loop-i.i nan)) q), cleared_step _ _ _ d.1)

pub returns : goal.returns
returns c =
    let d = c.loop-i.invariant in
    record { resides = resides_done c.loop-i.i c.requires refl (omega arith) d.0; cleared = cleared_done _ _ _ c.loop-i.i c.requires.w_long (omega arith) d.1 }
