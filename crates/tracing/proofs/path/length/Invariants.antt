-- `path::length` meets its contract: the distances to the points that the iterator still has, added to the sum, give the length. Assumes nothing.
use Rattle.std.proofs.Common.{◌≡◌}
use Rattle.pde.specs.Path.{length_from, length_of}
use Rattle.tracing.proofs.path.length.Given as goal

abbrev pub invariant-loop-pair : goal.invariant-loop-pair
invariant-loop-pair l = (l.pair-iterator.size ≡ 2) × (length_of l.path ≡ length_from l.sum l.p l.pair-iterator.rest.now)
