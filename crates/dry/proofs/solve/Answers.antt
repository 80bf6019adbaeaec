-- `solve` meets its contract: after i turns i dry passes of solving are made, and the copies are of the front that they leave. Assumes nothing.
use native.Mathlib.Omega.{arith}
use Rattle.dry.proofs.LawsSolving.{solved-more}
use Rattle.dry.proofs.solve.Goals as goal

pub loop-i-preserved : goal.loop-i-preserved
loop-i-preserved c =
    solved-more _ _ _ _ _ _ _ _ _ _ c.requires.0.ready c.matrix-a.ensures.is (omega (arith, c.requires.2)) (c.is_solved.ensures.no c.if-is_solved.false) c.loop-i.invariant c.solve_once-s.ensures
