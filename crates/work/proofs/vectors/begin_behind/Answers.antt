-- `begin_behind` meets its contract: what is begun in a slice of the vectors stands at the front of what is behind. Assumes nothing.
use borrow.Author.Rules.{rules}
use Rattle.stretch.specs.Stretch.{part}
use Rattle.work.proofs.LawsVectors.{begun_behind}
use Rattle.work.proofs.vectors.begin_behind.Goals as goal

pub returns-clause-begun : goal.returns-clause-begun
unfolding part
returns-clause-begun c = begun_behind _ _ _ _ _ _ _ _ _ c.matrix-a.ensures.long c.matrix-a.ensures.is (search rules) (search rules) c.begin_in_row.ensures
