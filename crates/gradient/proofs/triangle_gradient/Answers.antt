-- `gradient::triangle_gradient` meets its contract: the magnitude of twice the area is what `abs` ensures, `triangle_gradient` picks by the same comparison, and the operations are those of the definition, in its order. Assumes nothing.
use Rattle.gradient.specs.Gradient.{triangle_gradient}
use Rattle.gradient.proofs.triangle_gradient.Goals as goal

pub returns-then-abs-flat : goal.returns-then-abs-flat
unfolding triangle_gradient
returns-then-abs-flat c =
    let h = rw (c.abs.ensures, c.area2-area2.ensures, c.facing-si.ensures, c.facing-sj.ensures) at c.if-abs-flat.true in
    rw h

pub returns : goal.returns
unfolding triangle_gradient
returns c =
    let h = rw (c.abs.ensures, c.area2-area2.ensures, c.facing-si.ensures, c.facing-sj.ensures) at c.if-abs-flat.false in
    rw (c.area2-area2.ensures, c.facing-sk.ensures, c.facing-sj.ensures, c.facing-si.ensures) (rw h)
