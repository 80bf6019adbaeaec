-- What the vertices and values ahead couple to the right side so far is what all couple to it at entry. Assumes nothing.
use Rattle.std.proofs.Common.{sym, ◌∙◌}
use mathlib.Core.Logic.{inl, inr}
use Rattle.laplace.proofs.LawsCorners.{below_more}
use Rattle.laplace.proofs.LawsRight.{side_again, side_done}
use Rattle.right.proofs.couple_side.Goals as goal

pub couple-requires : goal.couple-requires
couple-requires c = let b = below_more _ _ _ _ c.loop-j.invariant.below c.in-Some.ensures.steps.0 in (c.requires.0, b.0, c.loop-j.auto.right ∙ c.requires.2)

pub loop-j-preserved : goal.loop-j-preserved
loop-j-preserved c =
    let s = c.in-Some.ensures.steps in
    let v = c.loop-j.invariant in
    record { below = (below_more _ _ _ _ v.below s.0).1; rest = rw c.couple.ensures (side_again _ _ _ _ _ _ _ _ _ s.0 s.1) ∙ v.rest }

pub returns : goal.returns
returns c = sym (side_done _ _ _ _ _ (elim c.in-None.ensures.steps [ inl u ↦ inl u.1.0 | inr u ↦ inr u.1.0 ])) ∙ c.loop-j.invariant.rest
