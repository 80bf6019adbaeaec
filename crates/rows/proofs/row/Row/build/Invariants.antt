use Rattle.std.proofs.Common.{length}
use Rattle.laplace.proofs.LawsWalk.{Walking, ahead}
use Rattle.rows.specs.Buffers.{SameRow}
use Rattle.rows.proofs.row.Row.build.Given as goal

abbrev pub invariant-loop-c : goal.invariant-loop-c
invariant-loop-c l = record {
  same : SameRow l.initial.self l.self;
  walking : Walking l.corners.mesh l.initial.self.values.now l.initial.self.cols.now l.self.values.now l.self.cols.now l.r l.self.count l.c;
}

abbrev pub decreases-loop-c : goal.decreases-loop-c
decreases-loop-c l = ahead (length l.corners.mesh.triangles.now) l.c
