-- `path::put_leaving` meets its contract: nothing is written where the points would not fit the room, and else they and the closing point. Assumes nothing.
use Rattle.tracing.proofs.PointLaws.{put_full, put_on}
use Rattle.tracing.proofs.path.put_leaving.Goals as goal

pub returns-in_default : goal.returns-in_default
returns-in_default c = let a = c.args in put_full a.room a.w a.left _ c.held.ensures c.in_default.is

pub returns : goal.returns
returns c = let a = c.args in put_on a.room a.w a.left _ _ c.held.ensures c.in-Some.is c.saturating_sub-between.ensures c.put_points.ensures c.put_closing.ensures
