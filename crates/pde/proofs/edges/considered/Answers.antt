-- `edges::considered` meets its contract: the corners' points and the hit are what the calls ensure, and the entry edge is skipped by the same test. Assumes nothing.
use borrow.Author.Tests.{eq-eqb, ne_eqb}
use Rattle.std.proofs.Common.{◌∙◌}
use Rattle.pde.specs.Exit.{considered}
use Rattle.pde.proofs.edges.considered.Goals as goal

pub returns-then-e-entry : goal.returns-then-e-entry
unfolding considered
returns-then-e-entry c = rw (eq-eqb _ _ c.if-e-entry.true)

pub returns : goal.returns
unfolding considered
returns c = rw (ne_eqb _ _ c.if-e-entry.false) (c.offered.ensures ∙ rw (c.get_ray_line_intersection-hit.ensures, c.corner_point-b.ensures, c.corner_point-a.ensures, c.onward.ensures))
