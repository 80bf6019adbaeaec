use Rattle.laplace.specs.Rows.{rows_of}
use Rattle.rows.specs.Buffers.{Restores, PutsRows}
use Rattle.rows.proofs.matrix.Builder.fill.Given as goal

abbrev pub invariant-loop-r : goal.invariant-loop-r
invariant-loop-r l = record {
  row : Restores l.fn.row l.row;
  put : PutsRows l.fn.self l.self (rows_of l.corners.mesh l.r);
}
