-- The start that is found on a field. Definitions only. Assumes nothing.
use Rattle.std.specs.Prelude.{Option, Some, None}
use Rattle.plane.specs.declared.Point.{Point}
use Rattle.mesh.specs.Mesh.{triangle_count}
use Rattle.pde.specs.declared.Entry.{Entry}
use Rattle.mesh.specs.declared.field.Field.{Field}
use Rattle.pde.specs.Start.{triangle_containing, pick_start}

abbrev pub found_on : Field → Option Point → Option Entry
found_on f (Some p) = triangle_containing f.mesh.vertices.now f.mesh.triangles.now (triangle_count f.mesh.triangles.now) p
found_on f None = pick_start f.mesh.vertices.now f.mesh.triangles.now f.mesh.neighbours.now f.mesh.tags.now (triangle_count f.mesh.triangles.now) f.values.now
