-- `solve_once` meets its contract: the pass behind the matrix is one of the whole front. Assumes nothing.
use borrow.Author.Rules.{rules}
use Rattle.kinds.proofs.LawsKinds.{solve_passed}
use Rattle.kinds.proofs.solve_once.Goals as goal

pub returns : goal.returns
returns c = solve_passed _ _ _ _ c.requires _ _ _ c.at_x.ensures (search rules) (search rules) (search rules) c.pass_behind.ensures.passed c.pass_behind.ensures.kept
