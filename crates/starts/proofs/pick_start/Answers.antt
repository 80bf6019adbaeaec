-- `pick_start` meets its contract: the first inner edge, and else the first triangle that has the least vertex, are what the calls ensure. Assumes nothing.
use Rattle.pde.specs.Start.{pick_start}
use Rattle.starts.proofs.pick_start.Goals as goal

pub returns-in-Some : goal.returns-in-Some
unfolding pick_start
returns-in-Some c = rw (← c.first_inner_edge.ensures, c.in-Some.is)

pub returns : goal.returns
unfolding pick_start
returns c = rw (← c.first_inner_edge.ensures, c.in_default.is, ← c.least_vertex.ensures) c.first_with.ensures
