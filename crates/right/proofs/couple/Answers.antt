-- By cases on which half of the pair it is, and which of the two vertices is held. Assumes nothing.
use Rattle.std.proofs.Common.{sym, ◌∙◌}
use Rattle.laplace.proofs.LawsRight.{coupled_above, coupled-free, coupled-held, coupled-row, coupled-col}
use Rattle.right.proofs.couple.Goals as goal

pub returns-then-i-j : goal.returns-then-i-j
returns-then-i-j c = coupled_above _ _ _ _ _ c.if-i-j.true

pub returns-in-None-Some : goal.returns-in-None-Some
returns-in-None-Some c = coupled-row _ _ _ _ _ c.if-i-j.false _ (sym c.held_at.ensures ∙ c.in-None-Some.is-0) (sym c.held_at-2.ensures ∙ c.in-None-Some.is-1)

pub returns-in-Some-None : goal.returns-in-Some-None
returns-in-Some-None c = coupled-col _ _ _ _ _ c.if-i-j.false _ (sym c.held_at.ensures ∙ c.in-Some-None.is-0) (sym c.held_at-2.ensures ∙ c.in-Some-None.is-1)

pub returns-in-None-None : goal.returns-in-None-None
returns-in-None-None c = coupled-free _ _ _ _ _ c.if-i-j.false (sym c.held_at.ensures ∙ c.in-None-None.is-0) (sym c.held_at-2.ensures ∙ c.in-None-None.is-1)

pub returns-in-Some-Some : goal.returns-in-Some-Some
returns-in-Some-Some c = coupled-held _ _ _ _ _ c.if-i-j.false _ _ (sym c.held_at.ensures ∙ c.in-Some-Some.is-0) (sym c.held_at-2.ensures ∙ c.in-Some-Some.is-1)
