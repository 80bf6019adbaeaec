-- `plane::sign` meets its contract: the code has the operations of the definition, in its order. Assumes nothing.
use mathlib.Core.Path.{refl}
use Rattle.plane.specs.Plane.{sign_of}
use Rattle.plane.proofs.sign.Goals as goal

pub returns : goal.returns
unfolding sign_of
returns c = refl
