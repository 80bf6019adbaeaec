-- The filled points of a path buffer (document 01, Passes and ends): x, y of each, from the front; none where the record's count is past the buffer's end. Definitions only. Assumes nothing.
use Rattle.std.specs.Prelude.{◌*◌, List, [], leb, length, take, Float}
use Rattle.binary64.specs.Number.{pick}
use Rattle.pde.specs.Path.{point_floats}
use Rattle.work.specs.declared.Run.{Run}

unfoldable pub points_of : Run → List Float → List Float
points_of r path = pick (leb (point_floats * r.stand.walk.points) (length path)) (take (point_floats * r.stand.walk.points) path) []
