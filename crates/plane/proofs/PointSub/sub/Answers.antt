-- The difference of two points meets its contract: the code has the operations of the definition, in its order. Assumes nothing.
use mathlib.Core.Path.{refl}
use Rattle.plane.specs.Plane.{minus}
use Rattle.plane.proofs.PointSub.sub.Goals as goal

pub returns : goal.returns
unfolding minus
returns c = refl
