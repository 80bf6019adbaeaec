-- `Mesh::corners` meets its contract: each vertex is that of its number, in their order. Assumes nothing. It stands so that a refusal names the fact.
use Rattle.mesh.proofs.Mesh.corners.Goals as goal

pub returns : goal.returns
returns c = rw (c.vertex.ensures, c.vertex-2.ensures, c.vertex-3.ensures, c.triangle.ensures.is)
