-- What the corners ahead couple to the right side so far is what all couple to it at entry. Assumes nothing.
use Rattle.std.proofs.Common.{rules, sym, ◌∙◌, add-one}
use Rattle.laplace.proofs.LawsCorners.{below_at}
use Rattle.laplace.proofs.LawsRight.{sides_all, sides_again, sides_done}
use Rattle.right.proofs.couple_sides.Goals as goal

pub loop-corner-init : goal.loop-corner-init
loop-corner-init c = sides_all _ _ _ _ (search rules)

pub couple_side-requires : goal.couple_side-requires
couple_side-requires c = let pre = c.requires in (below_at _ _ _ pre.0 (search rules), pre.0, c.loop-corner.auto.right ∙ pre.1)

pub loop-corner-preserved : goal.loop-corner-preserved
loop-corner-preserved c = rw (c.couple_side.ensures, c.side.ensures, add-one c.loop-corner.corner) (sides_again _ _ _ _ _ (search rules) ∙ c.loop-corner.invariant)

pub returns : goal.returns
returns c = sym (sides_done _ _ _ _ _ (search rules)) ∙ c.loop-corner.invariant
