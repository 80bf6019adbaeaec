-- `plane::get_ray_line_intersection` meets its contract: the products are what the calls ensure, `ray_line_intersection` picks by the same comparisons, and `along_ray` ensures the rest of it. Assumes nothing.
use mathlib.Core.Path.{◌∙◌}
use Rattle.plane.specs.Plane.{ray_line_intersection}
use Rattle.plane.proofs.get_ray_line_intersection.Goals as goal

pub returns-then-len2 : goal.returns-then-len2
unfolding ray_line_intersection
returns-then-len2 c = rw (simp (c.length_squared-len2.ensures, c.sub-e.ensures) at c.if-len2.true)

pub returns-then-abs : goal.returns-then-abs
unfolding ray_line_intersection
returns-then-abs c =
    rw (simp (c.length_squared-len2.ensures, c.sub-e.ensures) at c.if-len2.false, simp (c.abs.ensures, c.dot-ndotd.ensures, c.sub-e.ensures) at c.if-abs.true)

pub returns : goal.returns
unfolding ray_line_intersection
returns c =
    rw (simp (c.length_squared-len2.ensures, c.sub-e.ensures) at c.if-len2.false, simp (c.abs.ensures, c.dot-ndotd.ensures, c.sub-e.ensures) at c.if-abs.false)
    (c.along_ray.ensures ∙ simp (c.dot.ensures, c.sub.ensures, c.dot-ndotd.ensures, c.length_squared-len2.ensures, c.sub-e.ensures))
