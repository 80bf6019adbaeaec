-- `Shown::part` meets its contract: each part where the layout has it. Assumes nothing. It stands so that a refusal names the fact.
use mathlib.Core.Path.{sym}
use Rattle.showing.specs.Shown.{part_of}
use Rattle.showing.proofs.parts.Shown.part.Goals as goal

pub returns-in_default : goal.returns-in_default
unfolding part_of
returns-in_default c = rw (sym c.in_default.ensures.counts)

pub returns-in-Field : goal.returns-in-Field
unfolding part_of
returns-in-Field c = rw (c.in-Field.is, sym c.in-Some.ensures.counts, c.at_x.ensures, c.in-Some.ensures.same)

pub returns-in-Norms : goal.returns-in-Norms
unfolding part_of
returns-in-Norms c = rw (c.in-Norms.is, sym c.in-Some.ensures.counts, c.at_norms.ensures, c.in-Some.ensures.same)

pub returns-in-Gradients : goal.returns-in-Gradients
unfolding part_of
returns-in-Gradients c = rw (c.in-Gradients.is, sym c.in-Some.ensures.counts, c.at_gradients.ensures, c.in-Some.ensures.same)
