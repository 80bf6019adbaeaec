-- `solve` meets its contract: after i turns i dry passes of solving are made, and the copies are of the front that they leave. Assumes nothing.
use Rattle.dry.specs.Solving.{Solved}
use Rattle.dry.proofs.solve.Given as goal

abbrev pub invariant-loop-i : goal.invariant-loop-i
invariant-loop-i l = Solved l.laid.counted.plan l.laid.words.now l.floats l.initial.s l._i l.s l.copies
