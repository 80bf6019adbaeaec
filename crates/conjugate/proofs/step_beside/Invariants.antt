-- `step_beside` meets its contract: after i turns the first i elements of x and r are moved. Assumes nothing.
use Rattle.sparse.specs.Sparse.{mat_vec}
use Rattle.sparse.specs.Matrix.{matrix_of}
use Rattle.conjugate.proofs.LawsLoops.{Stepping}
use Rattle.conjugate.proofs.step_beside.Given as goal

abbrev pub invariant-loop-i : goal.invariant-loop-i
invariant-loop-i l = Stepping l.initial.x l.initial.r l.p (mat_vec (matrix_of l.a) l.p) l.alpha l.i l.x l.r l.square
