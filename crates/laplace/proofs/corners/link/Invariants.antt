use Rattle.std.proofs.Common.{◌≡◌, length}
use Rattle.std.proofs.Math.ListN.{take, drop}
use Rattle.std.specs.Iterator.Adapters.{enumerate_source, enumerate_count, rev_source}
use Rattle.std.specs.Slice.Iter.{iter_rest}
use Rattle.stretch.specs.Stretch.{splice}
use Rattle.laplace.specs.Corners.{heads_from, links_from}
use Rattle.laplace.proofs.corners.link.Given as goal

-- c corners are left
abbrev pub invariant-loop-c : goal.invariant-loop-c
invariant-loop-c l =
    let rest = iter_rest (enumerate_source (rev_source l.c-iterator)) in
    let c = length rest in
    record {
      left : rest ≡ take c l.triangles;
      numbered : enumerate_count (rev_source l.c-iterator) ≡ 0;
      heads : l.heads ≡ heads_from c (drop c l.triangles) (length l.initial.heads);
      links : l.links ≡ splice l.initial.links c (links_from c (drop c l.triangles));
    }
