-- `format::faults::each` meets its contract: what is left to try is what was to try.
-- Assumes nothing.
use Rattle.std.specs.Fn.{FnReturnsAt}
use Rattle.format.specs.TriesLaws.{Left}
use Rattle.format.proofs.faults.each.Given as goal

abbrev pub invariant-loop-x : goal.invariant-loop-x
invariant-loop-x g l = Left (FnReturnsAt g.F.Fn l.test) l.xs l.x-index
