-- `gradient::gradient_in` meets its contract: corners and values are what `on` ensures. Assumes nothing.
use Rattle.gradient.specs.Gradient.{gradient_on, gradient_of}
use Rattle.gradient.proofs.gradient_in.Goals as goal

pub returns : goal.returns
unfolding gradient_on gradient_of
returns c = rw (c.triangle_gradient.ensures, c.on.ensures.corners, c.on.ensures.values)
