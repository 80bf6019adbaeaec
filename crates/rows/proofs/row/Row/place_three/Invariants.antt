use Rattle.std.specs.Iterator.Adapters.{zip_first, zip_second}
use Rattle.std.specs.Slice.Iter.{iter_rest}
use Rattle.laplace.proofs.LawsRow.{Placing}
use Rattle.rows.specs.Buffers.{SameRow}
use Rattle.rows.proofs.row.Row.place_three.Given as goal

abbrev pub invariant-loop-j : goal.invariant-loop-j
invariant-loop-j l =
    record {
      same : SameRow l.initial.self l.self;
      placing :
          Placing l.mesh l.initial.self.values.now l.initial.self.cols.now l.initial.self.count l.self.values.now l.self.cols.now l.self.count
          l.fn.q l.fn.s (iter_rest (zip_first l.j-iterator)) (iter_rest (zip_second l.j-iterator));
    }
