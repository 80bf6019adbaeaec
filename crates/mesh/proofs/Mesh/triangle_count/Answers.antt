-- `Mesh::triangle_count` meets its contract: three words are a triangle's. Assumes nothing. It stands so that a refusal names the fact.
use Rattle.std.proofs.Common.{refl}
use Rattle.mesh.proofs.Mesh.triangle_count.Goals as goal

pub returns : goal.returns
returns c = refl
