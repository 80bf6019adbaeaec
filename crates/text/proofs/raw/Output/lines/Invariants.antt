-- The lines of what the iterator still has are left. Assumes nothing.
use Rattle.std.proofs.Common.{◌≡◌}
use Rattle.text.specs.Put.{Left}
use Rattle.text.specs.Text.{lines}
use Rattle.text.proofs.raw.Output.lines.Given as goal

abbrev pub invariant-loop-part : goal.invariant-loop-part
invariant-loop-part l = (l.part-iterator.size ≡ l.width) × Left l.initial.self (lines l.letter l.width l.xs) l.self (lines l.letter l.width l.part-iterator.rest.now)
