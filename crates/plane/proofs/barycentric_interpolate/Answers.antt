-- `plane::barycentric_interpolate` meets its contract: the weights, the clamped weights and the floored sum are what the calls ensure, and `weighted` picks by the same comparison. Assumes nothing.
use Rattle.plane.specs.Plane.{interpolated}
use Rattle.plane.proofs.barycentric_interpolate.Goals as goal

pub returns-then-abs : goal.returns-then-abs
unfolding interpolated
returns-then-abs c = rw (← c.get_barycentric_weights-w.ensures, ← c.abs.ensures, c.if-abs.true)

pub returns : goal.returns
unfolding interpolated
returns c =
    rw (← c.get_barycentric_weights-w.ensures, ← c.abs.ensures, c.if-abs.false)
    (simp (c.at_least.ensures, c.clamp-t.ensures, c.clamp-s.ensures, c.clamp-r.ensures))
