-- Where the gradients stand among the floats. Definitions only. Assumes nothing.
use Rattle.std.specs.Prelude.{List, ℕ, ◌+◌, ◌*◌, ◌≤◌, length, Float}
use Rattle.plane.specs.declared.Point.{Point}
use Rattle.stretch.specs.Stretch.{part}
use Rattle.mesh.specs.Mesh.{corner}
use Rattle.mesh.specs.Work.{vertices_of, triangles_of, MeshAt, Meshed}
use Rattle.gradient.specs.Gradient.{gradient_of, gradients}

-- the field's n numbers start at u, the gradients' 2T at `at`, behind the vertices and the field
pub record Laid (floats : List Float) (words : List ℕ) (m : MeshAt) (u at : ℕ) : Type 0 where
  pub meshed : Meshed floats words m
  pub vertices_before : m.vertices + 2 * m.n ≤ at
  pub field_before : u + m.n ≤ at
  pub fits : at + 2 * m.t ≤ length floats

-- the gradient on triangle t, and those on all
unfoldable pub gradient_in : Float → List Float → List ℕ → MeshAt → ℕ → ℕ → Point
gradient_in flat floats words m u t =
    let ts = triangles_of words m in
    gradient_of flat (vertices_of floats m) (part floats u m.n) (corner ts t 0) (corner ts t 1) (corner ts t 2)

abbrev pub gradients_in : Float → List Float → List ℕ → MeshAt → ℕ → List Float
gradients_in flat floats words m u = gradients flat (vertices_of floats m) (part floats u m.n) (triangles_of words m)
