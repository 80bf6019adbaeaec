-- The first i numbers are settled. Assumes nothing.
use Rattle.std.proofs.Common.{arith, ◌<◌, length, add-one, refl}
use Rattle.laplace.specs.Assembly.{settled}
use Rattle.laplace.proofs.LawsRight.{settle_again}
use Rattle.right.proofs.settle.Goals as goal

pub loop-i-init : goal.loop-i-init
unfolding settled
loop-i-init c = refl

pub loop-i-preserved : goal.loop-i-preserved
loop-i-preserved c =
    let i = c.loop-i.i in
    let g : i < length c.args.right.now = c.loop-i-test.true in
    let h : i < length c.args.tags.now = omega arith in
    rw (c.settled_value.ensures, c.loop-i.invariant, add-one i) (settle_again _ _ i h g)
