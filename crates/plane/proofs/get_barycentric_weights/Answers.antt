-- `plane::get_barycentric_weights` meets its contract: the differences, the products and the magnitude are what the calls ensure, and `barycentric_weights` picks by the same comparison. Assumes nothing.
use Rattle.plane.specs.Plane.{barycentric_weights}
use Rattle.plane.proofs.get_barycentric_weights.Goals as goal

pub returns-then-abs : goal.returns-then-abs
unfolding barycentric_weights
returns-then-abs c =
    rw (simp (c.abs.ensures, c.length_squared-d11.ensures, c.dot-d01.ensures, c.length_squared-d00.ensures, c.sub-v1.ensures, c.sub-v0.ensures) at c.if-abs.true)

pub returns : goal.returns
unfolding barycentric_weights
returns c =
    rw (simp (c.abs.ensures, c.length_squared-d11.ensures, c.dot-d01.ensures, c.length_squared-d00.ensures, c.sub-v1.ensures, c.sub-v0.ensures) at c.if-abs.false)
    (simp (c.dot-d21.ensures, c.dot-d01.ensures, c.dot-d20.ensures, c.length_squared-d11.ensures, c.length_squared-d00.ensures, c.sub-v2.ensures, c.sub-v1.ensures, c.sub-v0.ensures))
