-- `path::left_at` meets its contract: end 7 where the points would not fit the room, and else on by what lies beyond. Assumes nothing.
use Rattle.std.proofs.Common.{refl}
use Rattle.tracing.proofs.PointLaws.{left-full, left_on}
use Rattle.tracing.proofs.path.left_at.Goals as goal

pub returns-in-None : goal.returns-in-None
returns-in-None c = left-full _ _ _ _ c.held.ensures c.in-None.is refl

pub returns-in-Some : goal.returns-in-Some
returns-in-Some c = left_on _ _ _ _ _ c.held.ensures c.in-Some.is c.gone.ensures
