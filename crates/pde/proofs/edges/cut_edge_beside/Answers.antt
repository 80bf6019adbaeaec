-- `edges::cut_edge_beside` meets its contract: the triangle itself is skipped by the same test. Assumes nothing.
use borrow.Author.Tests.{eq-eqb, ne_eqb}
use Rattle.pde.specs.Exit.{cut_triangle}
use Rattle.pde.proofs.edges.cut_edge_beside.Goals as goal

pub returns-then-t-here : goal.returns-then-t-here
unfolding cut_triangle
returns-then-t-here c = rw (eq-eqb _ _ c.if-t-here.true)

pub returns : goal.returns
unfolding cut_triangle
returns c = rw (ne_eqb _ _ c.if-t-here.false) c.cut_edge_of.ensures
