-- `settle` meets its contract: x is read before anything is written over it. Assumes nothing.
use Rattle.dry.proofs.LawsPhases.{settled}
use borrow.Author.Rules.{rules}
use Rattle.stretch.specs.Stretch.{part}
use Rattle.dry.proofs.settle.Goals as goal

pub returns : goal.returns
unfolding part
returns c = settled _ _ _ _ _ (search rules) (search rules) c.copy.ensures c.copy_from_slice.ensures.after
