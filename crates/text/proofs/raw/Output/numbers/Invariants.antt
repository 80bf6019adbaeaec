-- The numbers from the one at hand on are left. Assumes nothing.
use lib.ListN.{drop}
use Rattle.text.specs.Put.{Left}
use Rattle.text.specs.Text.{numbers}
use Rattle.text.proofs.raw.Output.numbers.Given as goal

abbrev pub invariant-loop-x : goal.invariant-loop-x
invariant-loop-x l = Left l.initial.self (numbers l.xs) l.self (numbers (drop l.x-index l.xs))
