-- `Lists::run` meets its contract: each part, and the passes from their place. Assumes nothing.
use Rattle.records.specs.Numbers.{run_from}
use Rattle.records.proofs.lists.Lists.run.Goals as goal

pub returns : goal.returns
unfolding run_from
returns c = rw (c.plan.ensures, c.stand.ensures, c.mark.ensures, c.whole.ensures)
