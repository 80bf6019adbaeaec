use Rattle.std.proofs.Common.{◌≡◌, length}
use Rattle.std.specs.Iterator.Adapters.{zip_first, zip_second}
use Rattle.std.specs.Slice.Iter.{iter_rest}
use Rattle.laplace.specs.Mesh.{held_value}
use Rattle.laplace.specs.Assembly.{all_coupled}
use Rattle.laplace.specs.Matrix.{AllBelow}
use Rattle.laplace.specs.Right.{side_pushes}
use Rattle.right.proofs.couple_side.Given as goal

abbrev pub invariant-loop-j : goal.invariant-loop-j
invariant-loop-j l =
    let q = iter_rest (zip_first l.j-iterator) in
    let s = iter_rest (zip_second l.j-iterator) in
    record {
      below : AllBelow (length l.tags) q;
      rest : all_coupled held_value l.tags (side_pushes l.v q s) l.right ≡ all_coupled held_value l.tags (side_pushes l.v l.fn.q l.fn.s) l.initial.right;
    }
