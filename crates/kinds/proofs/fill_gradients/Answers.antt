-- `fill_gradients` meets its contract: the gradients lie behind the vertices and the field. Assumes nothing.
use Rattle.std.proofs.Common.{arith, ◌∙◌}
use Rattle.pde.specs.StandsLaws.{triangles_count}
use Rattle.kinds.proofs.LawsKinds.{gradients_put_lem}
use Rattle.kinds.proofs.fill_gradients.Goals as goal

pub compute_gradient_field-requires : goal.compute_gradient_field-requires
compute_gradient_field-requires c =
    let a = c.split_at_mut-before.ensures in
    let e = triangles_count c.requires.ready.linked c.field-field.ensures.mesh in
    omega (arith, e, a.back_len, c.at_gradients.ensures, c.requires.long)

pub returns : goal.returns
returns c =
    let a = c.split_at_mut-before.ensures in
    gradients_put_lem c.args.laid.now.counted.plan _ _ c.requires c.at_gradients.ensures c.at_x-u.ensures a.front c.field-field.ensures c.compute_gradient_field.ensures
    (c.compute_gradient_field.auto.out ∙ omega (arith, a.back_len, c.at_gradients.ensures, c.requires.long))
