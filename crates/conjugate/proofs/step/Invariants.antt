-- `step` meets its contract: after i turns the first i elements of x and r are moved, and the first i of the product cleared. Assumes nothing.
use Rattle.std.proofs.Common.{◌≡◌, replicate}
use Rattle.binary64.specs.Constants.{plus_zero}
use Rattle.stretch.specs.Stretch.{splice}
use Rattle.conjugate.proofs.LawsLoops.{Stepping}
use Rattle.conjugate.proofs.step.Given as goal

abbrev pub invariant-loop-i : goal.invariant-loop-i
invariant-loop-i l = Stepping l.initial.x l.initial.r l.p l.initial.q l.alpha l.i l.x l.r l.sum × (l.q ≡ splice l.initial.q 0 (replicate l.i plus_zero))
