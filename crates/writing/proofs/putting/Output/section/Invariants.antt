-- `writing::putting::Output::section` meets its contract: the items are put one behind the other, behind the count.
-- Assumes nothing.
use lib.ListN.{take}
use Rattle.writing.specs.Write.{laid_all, Adds}
use Rattle.writing.proofs.putting.Output.section.Given as goal

abbrev pub invariant-loop-item : goal.invariant-loop-item
invariant-loop-item g l = Adds l.initial.self l.self (laid_all g.T.Item.laid (take l.item-index l.items))
