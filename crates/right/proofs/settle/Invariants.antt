use Rattle.std.proofs.Common.{◌≡◌}
use Rattle.std.proofs.Math.ListN.{take}
use Rattle.laplace.specs.Mesh.{held_value}
use Rattle.laplace.specs.Assembly.{settled}
use Rattle.right.proofs.settle.Given as goal

abbrev pub invariant-loop-i : goal.invariant-loop-i
invariant-loop-i l = l.right ≡ settled held_value (take l.i l.tags) l.initial.right
