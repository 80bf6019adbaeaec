-- `Field::over` meets its contract: the first values are as many as the tags. Assumes nothing. It stands so that a refusal names the fact.
use Rattle.std.proofs.Common.{◌∙◌, arith}
use Rattle.stretch.specs.StretchLaws.{length_part}
use Rattle.stretch.specs.Stretch.{part}
use Rattle.mesh.proofs.field.Field.over.Goals as goal

pub invariant_of-result : goal.invariant_of-result
unfolding part
invariant_of-result c = record { one_each = length_part c.args.values.now 0 c.vertex_count-n.result (omega (arith, c.requires, c.vertex_count-n.ensures)) ∙ c.vertex_count-n.ensures }
