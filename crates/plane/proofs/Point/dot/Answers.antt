-- `Point::dot` meets its contract: the code has the operations of the definition, in its order. Assumes nothing.
use mathlib.Core.Path.{refl}
use Rattle.plane.specs.Plane.{dot_of}
use Rattle.plane.proofs.Point.dot.Goals as goal

pub returns : goal.returns
unfolding dot_of
returns c = refl
