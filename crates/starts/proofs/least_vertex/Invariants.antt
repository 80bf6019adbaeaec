-- `least_vertex` meets its contract: before the number i, the least of those that are left, from the best so far, is the least of all. Assumes nothing.
use Rattle.std.proofs.Common.{◌≡◌, drop}
use Rattle.pde.specs.Start.{least_from, least_vertex}
use Rattle.starts.proofs.least_vertex.Given as goal

abbrev pub invariant-loop-i : goal.invariant-loop-i
invariant-loop-i l = least_vertex l.values ≡ least_from l.i l.best l.least (drop l.i l.values)
