-- `Field::on` meets its contract: vertices and values are those of the corners' numbers, in their order. Assumes nothing. It stands so that a refusal names the fact.
use Rattle.mesh.proofs.field.Field.on.Goals as goal

pub returns-clause-corners : goal.returns-clause-corners
returns-clause-corners c = rw (c.vertex.ensures, c.vertex-2.ensures, c.vertex-3.ensures, c.triangle.ensures.is)

pub returns-clause-values : goal.returns-clause-values
returns-clause-values c = rw c.triangle.ensures.is
