-- `begin` meets its contract: the vectors begun behind the matrix's values are those of the whole buffer. Assumes nothing.
use borrow.Author.Rules.{rules}
use Rattle.work.proofs.LawsVectors.{begun_whole}
use Rattle.work.proofs.vectors.begin.Goals as goal

pub returns : goal.returns
returns c = begun_whole _ _ _ _ _ _ _ c.requires.starts (search rules) (search rules) _ (search rules) c.begin_behind.ensures.begun c.begin_behind.ensures.kept
