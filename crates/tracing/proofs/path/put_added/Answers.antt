-- `path::put_added` meets its contract: without an exit nothing is put. Assumes nothing.
use Rattle.tracing.proofs.PointLaws.{put_halted}
use Rattle.tracing.proofs.path.put_added.Goals as goal

pub returns-in_default : goal.returns-in_default
returns-in_default c = let a = c.args in put_halted a.room a.w a.path.now a.c c.in_default.is
