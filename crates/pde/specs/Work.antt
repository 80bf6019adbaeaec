-- Where the gradients stand among the floats, a crossing by a gradient of the field that stands there, and what it makes of the lent path. Definitions only. Assumes nothing.
use Rattle.std.specs.Prelude.{List, ℕ, ◌*◌, ◌≤◌, length, Float}
use Rattle.plane.specs.declared.Point.{Point}
use Rattle.stretch.specs.Stretch.{part}
use Rattle.mesh.specs.Work.{vertices_of, triangles_of, neighbours_of, field_of, MeshAt}
use Rattle.pde.specs.declared.Rule.{Rule}
use Rattle.pde.specs.declared.Walk.{Walk}
use Rattle.pde.specs.Outcome.{Crossing}
use Rattle.pde.specs.Crossing.{crossing_along}

unfoldable pub gradients_of : List Float → MeshAt → ℕ → List Float
gradients_of floats m at = part floats at (2 * m.t)

abbrev pub crossing_in : List Float → List ℕ → MeshAt → ℕ → Rule → Float → Point → Point → ℕ → ℕ → Crossing
crossing_in floats words m u rule step g pos t entry =
    crossing_along rule (vertices_of floats m) (triangles_of words m) (neighbours_of words m) m.t (field_of floats m u) g step pos t entry

-- ---- the path

-- The lent path has room for the points that it holds, and for as many as the room says.
pub record Roomy (path : List Float) (room : ℕ) (w : Walk) : Type 0 where
  pub held : w.points ≤ room
  pub fits : 2 * room ≤ length path
