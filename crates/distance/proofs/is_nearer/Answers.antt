-- `distance::is_nearer` meets its contract: below an infinite y the root of x is finite and above a small least. Assumes nothing.
use native.Mathlib.Omega.{arith}
use Rattle.std.proofs.lemmas.Float.{T_from_true}
use Rattle.binary64.proofs.RootOrder.{first_nearer, infinity}
use Rattle.distance.proofs.is_nearer.Goals as goal

pub returns-then-x-y : goal.returns-then-x-y
returns-then-x-y c = first_nearer _ _ _ _ _ _ (T_from_true _ c.before.well_formed.0.1) c.if-x-y.true (omega arith) (omega arith) infinity (omega arith) (omega arith)
