-- `Point::length_squared` meets its contract: it is the product with itself that `dot` ensures. Assumes nothing.
use Rattle.plane.specs.Plane.{length_squared}
use Rattle.plane.proofs.Point.length_squared.Goals as goal

pub returns : goal.returns
unfolding length_squared
returns c = c.dot.ensures
