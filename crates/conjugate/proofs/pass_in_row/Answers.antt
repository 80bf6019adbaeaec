-- `pass_in_row` meets its contract: what is split off one by one are the vectors. Assumes nothing.
use borrow.Author.Rules.{rules}
use Rattle.sparse.specs.Matrix.{matrix_of}
use Rattle.conjugate.specs.PlacedLaws.{passed_split}
use Rattle.conjugate.proofs.LawsPass.{length-matrix_of}
use Rattle.conjugate.proofs.pass_in_row.Goals as goal

pub returns : goal.returns
returns c =
    let args = c.args in
    passed_split args.vectors.now _ c.requires (matrix_of args.a.now) args.thresholds.tiny args.thresholds.tolerance args.rs (length-matrix_of args.a.now) (search rules) (search rules) (search rules) c.one_pass.ensures.passed c.one_pass.ensures.cleared
