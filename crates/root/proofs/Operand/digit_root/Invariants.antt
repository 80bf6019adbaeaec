-- `Operand::digit_root` meets its contract. The invariant is `Partial`: the root so far is that of the digits brought down, and the remainder what its square leaves of them.
-- A turn is `partial_one` or `partial_zero`, by the test, and after 54 turns no digit is left. Assumes nothing.
use Rattle.std.proofs.Common.{◌-◌, ◌≤◌}
use Rattle.binary64.proofs.WholeRoot.{Partial}
use Rattle.root.proofs.Operand.digit_root.Given as goal

abbrev pub invariant-loop : goal.invariant-loop
invariant-loop l = (l.counter ≤ 54) × Partial l.fn.self.digits l.counter l.rest l.remainder l.root

abbrev pub decreases-loop : goal.decreases-loop
decreases-loop l = 54 - l.counter
