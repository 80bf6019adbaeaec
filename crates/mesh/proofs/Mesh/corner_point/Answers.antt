-- `Mesh::corner_point` meets its contract: the vertex is that of the number at the corner. Assumes nothing. It stands so that a refusal names the fact.
use Rattle.mesh.proofs.Mesh.corner_point.Goals as goal

pub returns : goal.returns
returns c = rw (← c.corner-i.ensures.is) c.vertex.ensures
