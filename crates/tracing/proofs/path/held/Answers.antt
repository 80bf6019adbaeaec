-- `path::held` meets its contract: the points are too many for the room, or they are told. Assumes nothing.
use Rattle.tracing.proofs.PointLaws.{held_full, held_fits}
use Rattle.tracing.proofs.path.held.Goals as goal

pub returns-then-room-w : goal.returns-then-room-w
returns-then-room-w c = let a = c.args in held_full a.room a.w a.left c.adds-k.ensures c.requires c.if-room-w.true

pub returns-else-room-w : goal.returns-else-room-w
returns-else-room-w c = let a = c.args in held_fits a.room a.w a.left c.adds-k.ensures c.requires c.if-room-w.false
