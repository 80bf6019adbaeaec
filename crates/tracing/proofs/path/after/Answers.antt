-- `path::after` meets its contract: without an exit the end is the halt's. Assumes nothing.
use Rattle.pde.specs.Path.{walked}
use Rattle.tracing.proofs.path.after.Goals as goal

pub returns-in-Err : goal.returns-in-Err
unfolding walked
returns-in-Err c = rw (c.in-Err.is, c.number.ensures)
