-- What is read through a field that stands in two buffers is what is read there: how many triangles it has, a crossing, and a start. Assumes nothing.
use Rattle.std.specs.Prelude.{◌≡◌, List, ℕ, Float}
use Rattle.std.proofs.Common.{◌∙◌, ap}
use Rattle.plane.specs.declared.Point.{Point}
use Rattle.mesh.specs.declared.Mesh.{Mesh}
use Rattle.mesh.specs.Mesh.{triangle_count}
use Rattle.mesh.specs.Work.{MeshAt, Linked, vertices_of, triangles_of, neighbours_of, tags_of, field_of}
use Rattle.mesh.specs.WorkLaws.{length_triangles, count_of_thirds}
use Rattle.mesh.specs.Stands.{Stands, FieldStands}
use Rattle.mesh.specs.declared.field.Field.{Field}
use Rattle.pde.specs.declared.Rule.{Rule}
use Rattle.pde.specs.Crossing.{crossing_along}
use Rattle.pde.specs.Start.{triangle_containing, pick_start}
use Rattle.pde.specs.Work.{crossing_in}

pub triangles_count : {floats : List Float} {words : List ℕ} {at : MeshAt} {m : Mesh} → Linked words at → Stands floats words at m → triangle_count m.triangles.now ≡ at.t
triangles_count {floats} {words} {at} l s = ap triangle_count s.triangles ∙ count_of_thirds (triangles_of words at) at.t (length_triangles l)

module _ {floats : List Float} {words : List ℕ} {at : MeshAt} {f : Field} (u : ℕ) (l : Linked words at) (s : FieldStands floats words at u f) where
  pub crossing_stands : (rule : Rule) (step : Float) (g pos : Point) (t entry : ℕ)
      → crossing_along rule f.mesh.vertices.now f.mesh.triangles.now f.mesh.neighbours.now (triangle_count f.mesh.triangles.now) f.values.now g step pos t entry
      ≡ crossing_in floats words at u rule step g pos t entry
  crossing_stands rule step g pos t entry = rw (triangles_count l s.mesh, s.mesh.vertices, s.mesh.triangles, s.mesh.neighbours, s.values)

  pub containing_stands : (p : Point)
      → triangle_containing f.mesh.vertices.now f.mesh.triangles.now (triangle_count f.mesh.triangles.now) p ≡ triangle_containing (vertices_of floats at) (triangles_of words at) at.t p
  containing_stands p = rw (triangles_count l s.mesh, s.mesh.vertices, s.mesh.triangles)

  pub pick_start_stands : pick_start f.mesh.vertices.now f.mesh.triangles.now f.mesh.neighbours.now f.mesh.tags.now (triangle_count f.mesh.triangles.now) f.values.now
      ≡ pick_start (vertices_of floats at) (triangles_of words at) (neighbours_of words at) (tags_of words at) at.t (field_of floats at u)
  pick_start_stands = rw (triangles_count l s.mesh, s.mesh.vertices, s.mesh.triangles, s.mesh.neighbours, s.mesh.tags, s.values)
