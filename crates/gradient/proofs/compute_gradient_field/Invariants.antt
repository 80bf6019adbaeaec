-- `gradient::compute_gradient_field` meets its contract: after t turns the slice begins with the gradients on the first t triangles. Assumes nothing.
use Rattle.std.proofs.Common.{◌≡◌}
use Rattle.stretch.specs.Stretch.{splice}
use Rattle.gradient.proofs.Laws.{up_to}
use Rattle.gradient.proofs.compute_gradient_field.Given as goal

abbrev pub invariant-loop-t : goal.invariant-loop-t
invariant-loop-t l = l.out ≡ splice l.initial.out 0 (up_to l.flat l.field.mesh.vertices.now l.field.values.now l.field.mesh.triangles.now l.t)
