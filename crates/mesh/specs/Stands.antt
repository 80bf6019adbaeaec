-- A mesh, and a field, whose slices are the parts of two buffers where they stand. Definitions only. Assumes nothing.
use Rattle.std.specs.Prelude.{◌≡◌, List, ℕ, Float}
use Rattle.mesh.specs.declared.Mesh.{Mesh}
use Rattle.mesh.specs.declared.field.Field.{Field}
use Rattle.mesh.specs.Work.{MeshAt, vertices_of, triangles_of, neighbours_of, tags_of, field_of}

pub record Stands (floats : List Float) (words : List ℕ) (at : MeshAt) (m : Mesh) : Type 0 where
  pub vertices : m.vertices.now ≡ vertices_of floats at
  pub triangles : m.triangles.now ≡ triangles_of words at
  pub neighbours : m.neighbours.now ≡ neighbours_of words at
  pub tags : m.tags.now ≡ tags_of words at

pub record FieldStands (floats : List Float) (words : List ℕ) (at : MeshAt) (u : ℕ) (f : Field) : Type 0 where
  pub mesh : Stands floats words at f.mesh
  pub values : f.values.now ≡ field_of floats at u
