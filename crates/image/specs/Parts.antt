-- What a run shows of its field, as parts of the lent floats: none where n or T is past its most or the part past the buffer's end. Definitions only. Assumes nothing.
use Rattle.std.specs.Prelude.{ℕ, ◌+◌, ◌*◌, List, [], leb, length, Float}
use Rattle.binary64.specs.Number.{pick}
use Rattle.stretch.specs.Stretch.{part}
use Rattle.format.specs.Content.{max_vertices, max_triangles}
use Rattle.work.specs.declared.Plan.{Plan}
use Rattle.work.specs.declared.Run.{Run}
use Rattle.work.specs.Layout.{at_x, at_gradients, at_norms}

-- `count` places from `at` on
unfoldable pub within : List Float → ℕ → ℕ → List Float
within floats at count = pick (leb (at + count) (length floats)) (part floats at count) []

-- only for counts that a sheet may have
abbrev pub counted : Plan → List Float → List Float
counted plan l = pick (leb plan.n max_vertices) (pick (leb plan.t max_triangles) l []) []

unfoldable pub field_of : Run → List Float → List Float
field_of r floats = counted r.plan (within floats (at_x r.plan.n r.plan.t) r.plan.n)

unfoldable pub norms_of : Run → List Float → List Float
norms_of r floats = counted r.plan (within floats (at_norms r.plan.n r.plan.t) r.stand.norms)

unfoldable pub gradients_of : Run → List Float → List Float
gradients_of r floats = counted r.plan (within floats (at_gradients r.plan.n r.plan.t) (2 * r.plan.t))
