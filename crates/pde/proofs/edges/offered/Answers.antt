-- `edges::offered` meets its contract: where there is a hit, the definition picks by the same two comparisons of its distance, which `is_nearer` decides from the square. Assumes nothing.
use Rattle.pde.specs.Exit.{distance}
use Rattle.pde.proofs.edges.offered.Goals as goal

pub returns-in_default : goal.returns-in_default
returns-in_default c = rw c.in_default.is

pub returns-then-is_nearer : goal.returns-then-is_nearer
unfolding distance
returns-then-is_nearer c = rw (c.in-Some.is, ← c.squared-square.ensures, ← c.is_nearer.ensures, c.if-is_nearer.true)

pub returns : goal.returns
unfolding distance
returns c = rw (c.in-Some.is, ← c.squared-square.ensures, ← c.is_nearer.ensures, c.if-is_nearer.false)
