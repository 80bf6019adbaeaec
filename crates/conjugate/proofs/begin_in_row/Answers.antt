-- `begin_in_row` meets its contract: what is split off one by one are the vectors. Assumes nothing.
use Rattle.sparse.specs.Matrix.{matrix_of, rows}
use Rattle.conjugate.specs.Solver.{begun}
use Rattle.conjugate.specs.SolverLaws.{begun_long}
use Rattle.conjugate.specs.PlacedLaws.{begun_split}
use Rattle.conjugate.proofs.LawsPass.{length-matrix_of}
use Rattle.conjugate.proofs.begin_in_row.Goals as goal

pub returns : goal.returns
returns c =
    let args = c.args in
    begun_split args.vectors.now _ c.requires.1 (begun (matrix_of args.a.now) args.b.now) (begun_long (rows args.a.now) (matrix_of args.a.now) args.b.now (length-matrix_of args.a.now) c.requires.0) c.begin.ensures.begun c.begin.ensures.cleared
