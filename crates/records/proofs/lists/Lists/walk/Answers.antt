-- `Lists::walk` meets its contract: each number from its place. Assumes nothing.
use Rattle.records.specs.Numbers.{walk_from}
use Rattle.records.proofs.lists.Lists.walk.Goals as goal

pub returns : goal.returns
unfolding walk_from
returns c = rw (c.real-x.ensures, c.real-y.ensures, c.whole.ensures, c.whole-2.ensures, c.whole-3.ensures, c.whole-4.ensures)
