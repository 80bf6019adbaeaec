-- `Slope::facing` meets its contract: the code has the operations of the definition, in its order. Assumes nothing. It stands so that a refusal names the fact.
use Rattle.std.proofs.Common.{refl}
use Rattle.mesh.proofs.Slope.facing.Goals as goal

pub returns : goal.returns
returns c = refl
