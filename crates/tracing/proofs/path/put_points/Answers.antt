-- `path::put_points` meets its contract: after i turns the buffer is what it was, with the first i points from `at`. Assumes nothing.
use Rattle.std.proofs.Common.{refl, arith, length-set}
use Rattle.tracing.proofs.PointLaws.{along_none, along_step, along_done}
use Rattle.tracing.proofs.path.put_points.Goals as goal

pub loop-i-init : goal.loop-i-init
loop-i-init c = (omega arith, refl, along_none _ _ _ _ _ _)

pub bounds-path-l : goal.bounds-path-l
bounds-path-l c = simp length-set (omega arith)

pub loop-i-preserved : goal.loop-i-preserved
loop-i-preserved c = (omega arith, simp length-set c.loop-i.invariant.1, along_step _ _ _ _ _ _ _ _ _ _ c.nearest_usize_to_f64-parts.ensures c.nearest_usize_to_f64.ensures c.loop-i.invariant.2)

pub returns : goal.returns
returns c = along_done _ _ _ _ _ _ _ _ (omega arith) c.loop-i.invariant.2
