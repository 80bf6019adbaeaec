-- Nothing is coupled where the corners are free or the triangle is skipped. Assumes nothing.
use Rattle.std.proofs.Common.{sym, ◌∙◌}
use Rattle.laplace.proofs.LawsCorners.{below_half}
use Rattle.laplace.proofs.LawsRight.{free-coupled, skipped_coupled}
use Rattle.right.proofs.couple_triangle.Goals as goal

pub returns-then-is_free : goal.returns-then-is_free
returns-then-is_free c = free-coupled _ _ _ _ (sym c.is_free.ensures ∙ c.if-is_free.true)

pub stiff-requires : goal.stiff-requires
stiff-requires c = below_half _ _ _ c.requires.0.vertices c.requires.1

pub returns-in_default : goal.returns-in_default
returns-in_default c = rw (← c.stiff.ensures, c.in_default.is) (skipped_coupled _ _ _)
