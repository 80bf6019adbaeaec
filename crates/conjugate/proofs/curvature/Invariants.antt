-- `curvature` meets its contract: after i turns the sum is that of the first i products. Assumes nothing.
use Rattle.std.proofs.Common.{◌≡◌, take}
use Rattle.stretch.specs.Vec.{dot}
use Rattle.sparse.specs.Sparse.{mat_vec}
use Rattle.sparse.specs.Matrix.{matrix_of}
use Rattle.conjugate.proofs.curvature.Given as goal

abbrev pub invariant-loop-i : goal.invariant-loop-i
invariant-loop-i l = l.pap ≡ dot (take l.i l.p) (take l.i (mat_vec (matrix_of l.a) l.p))
