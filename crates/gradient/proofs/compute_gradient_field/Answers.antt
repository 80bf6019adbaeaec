-- `gradient::compute_gradient_field` meets its contract: after t turns the slice begins with the gradients on the first t triangles. Assumes nothing.
use Rattle.std.proofs.Common.{arith}
use Rattle.gradient.proofs.Laws.{up_none, up_step, up_done}
use Rattle.gradient.proofs.compute_gradient_field.Goals as goal

pub loop-t-init : goal.loop-t-init
loop-t-init c = up_none _ _ _ _ _ c.args.field.now.mesh.whole.triangles_whole _

pub loop-t-preserved : goal.loop-t-preserved
loop-t-preserved c =
    up_step _ _ _ _ _ c.args.field.now.mesh.whole.triangles_whole _ _ _ _ (omega (arith, c.loop-t-test.true, c.triangle_count-t-end.ensures)) c.loop-t.invariant c.gradient_in-g.ensures

pub returns : goal.returns
returns c =
    up_done _ _ _ _ _ c.args.field.now.mesh.whole.triangles_whole _ _ _ (omega (arith, c.loop-t-test.false, c.loop-t.auto.t-end, c.triangle_count-t-end.ensures)) c.requires c.loop-t.invariant
