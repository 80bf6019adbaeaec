-- `point_in` meets its contract: both numbers are read at the indices. It stands so that a refusal names the fact. Assumes nothing.
use Rattle.std.proofs.Common.{refl}
use Rattle.mesh.proofs.point_in.Goals as goal

pub returns : goal.returns
returns c = refl
