-- `Mesh::vertex` meets its contract: it is the vertex of the list. Assumes nothing. It stands so that a refusal names the fact.
use Rattle.mesh.proofs.Mesh.vertex.Goals as goal

pub returns : goal.returns
returns c = c.vertex.ensures
