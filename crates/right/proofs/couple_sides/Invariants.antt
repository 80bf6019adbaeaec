use Rattle.std.proofs.Common.{◌≡◌}
use Rattle.std.proofs.Math.ListN.{drop}
use Rattle.std.specs.Prelude.{Some}
use Rattle.laplace.specs.Mesh.{held_value}
use Rattle.laplace.specs.Assembly.{all_coupled}
use Rattle.laplace.specs.Right.{stiff_pushes}
use Rattle.laplace.proofs.LawsRight.{sides_from}
use Rattle.right.proofs.couple_sides.Given as goal

abbrev pub invariant-loop-corner : goal.invariant-loop-corner
invariant-loop-corner l =
    all_coupled held_value l.tags (sides_from l.v-items l.s l.corner (drop l.corner l.v-items)) l.right ≡ all_coupled held_value l.tags (stiff_pushes l.v-items (Some l.s)) l.initial.right
