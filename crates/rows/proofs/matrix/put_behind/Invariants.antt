-- After i turns the first i elements stand at their places. Assumes nothing.
use Rattle.std.proofs.Common.{◌≡◌, ◌≤◌, length}
use Rattle.stretch.specs.Stretch.{part, splice}
use Rattle.rows.proofs.matrix.put_behind.Given as goal

abbrev pub invariant-loop-i : goal.invariant-loop-i
invariant-loop-i g l = (l.i ≤ length l.from) × (length l.to ≡ length l.initial.to) × (l.to ≡ splice l.initial.to l.at (part l.from 0 l.i))
