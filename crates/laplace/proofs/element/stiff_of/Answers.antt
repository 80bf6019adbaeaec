use Rattle.laplace.specs.Element.{stiff_of}
use Rattle.laplace.proofs.element.stiff_of.Goals as goal

pub returns-then-area-flat : goal.returns-then-area-flat
unfolding stiff_of
returns-then-area-flat c =
    let h = rw (c.abs-area.ensures, c.area2.ensures, c.facing-si.ensures, c.facing-sj.ensures) at c.if-area-flat.true in
    rw h

pub returns : goal.returns
unfolding stiff_of
returns c =
    let h = rw (c.abs-area.ensures, c.area2.ensures, c.facing-si.ensures, c.facing-sj.ensures) at c.if-area-flat.false in
    rw (c.stiffness-6.ensures, c.stiffness-5.ensures, c.stiffness-4.ensures, c.stiffness-3.ensures, c.stiffness-2.ensures, c.stiffness.ensures, c.abs-area.ensures, c.area2.ensures, c.facing-sk.ensures, c.facing-sj.ensures, c.facing-si.ensures) (rw h)
