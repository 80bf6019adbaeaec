-- The mesh that is assembled, as the code holds it. Definitions only. Assumes nothing.
use Rattle.std.specs.Prelude.{◌*◌, ◌%◌, ◌≤◌, ◌≡◌, List, length}
use Rattle.laplace.specs.declared.element.Elements.{Elements}
use Rattle.laplace.specs.Assembly.{Push, pushes}
use Rattle.laplace.specs.Matrix.{AllBelow}

-- two coordinates for each tag, three corners for each triangle, and each corner is a vertex
pub record AreElements (e : Elements) : Type 0 where
  pub few_vertices : length e.tags.now ≤ 4096
  pub few_corners : length e.triangles.now ≤ 24576
  pub vertices : length e.vertices.now ≡ 2 * length e.tags.now
  pub whole : length e.triangles.now % 3 ≡ 0
  pub corners : AllBelow (length e.tags.now) e.triangles.now

-- what its triangles push
abbrev pub pushes_of : Elements → List Push
pushes_of e = pushes e.flat e.vertices.now e.triangles.now
