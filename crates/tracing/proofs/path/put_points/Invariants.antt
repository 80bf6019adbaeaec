-- `path::put_points` meets its contract: after i turns the buffer is what it was, with the first i points from `at`. Assumes nothing.
use Rattle.std.proofs.Common.{◌≡◌, ◌-◌, ◌≤◌, length}
use Rattle.pde.specs.Path.{coordinates_of, along}
use Rattle.stretch.specs.Stretch.{splice}
use Rattle.tracing.proofs.path.put_points.Given as goal

abbrev pub invariant-loop-i : goal.invariant-loop-i
invariant-loop-i l = (l.i ≤ l.k) × (length l.path ≡ length l.initial.path) × (l.path ≡ splice l.initial.path l.at (coordinates_of (along l.p l.dx l.dy l.n l.i)))

abbrev pub decreases-loop-i : goal.decreases-loop-i
decreases-loop-i l = l.k - l.i
