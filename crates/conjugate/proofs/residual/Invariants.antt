-- `residual` meets its contract: after i turns the first i elements of r and p are b less the product, and the first i of the product cleared. Assumes nothing.
use Rattle.std.proofs.Common.{◌≡◌, replicate}
use Rattle.binary64.specs.Constants.{plus_zero}
use Rattle.stretch.specs.Stretch.{splice}
use Rattle.conjugate.proofs.LawsLoops.{Residing}
use Rattle.conjugate.proofs.residual.Given as goal

abbrev pub invariant-loop-i : goal.invariant-loop-i
invariant-loop-i l = Residing l.b l.initial.product l.initial.r l.initial.p l.i l.r l.p l.total × (l.product ≡ splice l.initial.product 0 (replicate l.i plus_zero))
