-- `Run::nothing` meets its contract: the scalars of a place with no path. Assumes nothing.
use mathlib.Core.Path.{ap}
use Rattle.work.specs.declared.Stand.{Stand}
use Rattle.work.specs.Record.{no_run}
use Rattle.work.proofs.Run.nothing.Goals as goal

pub returns : goal.returns
unfolding no_run
returns c = ap (λ (s : Stand). record { plan = no_run.plan; stand = s; mark = no_run.mark; passes = 0 }) c.pathless-stand.ensures
