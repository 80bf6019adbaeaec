-- What a run is worked out from: a sheet's lists, and its settings with what an absent one means. A content is read here alone; the run, its image and their laws are stated over a task. Definitions only.
-- Assumes nothing.
use Rattle.std.specs.Prelude.{ℕ, ◌/◌, List, length, Float, Option, Some, None}
use Rattle.binary64.specs.Constants.{plus_zero}
use Rattle.plane.specs.declared.Point.{Point}
use Rattle.plane.specs.Plane.{point}
use Rattle.mesh.specs.Mesh.{held_value}
use Rattle.format.specs.Content.{Content, default_limit, default_tolerance, whole_or, real_or}

-- the lists as in a content; the value at which a vertex of a tag is held; the settings; the start, where one is given
pub record Task : Type 0 where
  pub vertices : List Float
  pub triangles : List ℕ
  pub neighbours : List ℕ
  pub tags : List ℕ
  pub held : ℕ → Float
  pub limit : ℕ
  pub tolerance : Float
  pub step : Float
  pub start : Option Point
  pub room : ℕ

-- how many vertices and triangles there are
abbrev pub vertex_count : Task → ℕ
vertex_count c = length c.vertices / 2

abbrev pub triangle_count : Task → ℕ
triangle_count c = length c.triangles / 3

-- a start that has both coordinates
abbrev pub both_given : Option Float → Option Float → Option Point
both_given (Some x) (Some y) = Some (point x y)
both_given (Some x) None = None
both_given None y = None

-- what a content asks for, where an absent limit means the default; step and room are given in every accepted sheet
unfoldable pub task_of : ℕ → Content → Task
task_of default c = record {
  vertices = c.vertices;
  triangles = c.triangles;
  neighbours = c.neighbours;
  tags = c.tags;
  held = held_value;
  limit = whole_or default c.settings.limit;
  tolerance = real_or default_tolerance c.settings.tolerance;
  step = real_or plus_zero c.settings.step;
  start = both_given c.settings.x c.settings.y;
  room = whole_or 0 c.settings.room;
}

-- what a sheet's content asks for
abbrev pub task : Content → Task
task c = task_of default_limit c
