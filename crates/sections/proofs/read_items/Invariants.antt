-- `sections::read_items` meets its contract: each item is read and taken apart in turn, and the laws of `Reading` say what is left.
-- Assumes nothing.
use Rattle.sections.proofs.Reading.{Reading}
use Rattle.sections.proofs.read_items.Given as goal

abbrev pub invariant-loop-item : goal.invariant-loop-item
invariant-loop-item l = Reading l.items l.last l.settings l.item-index
