-- What each kind of pass on a front asks and ensures. Definitions only. Assumes nothing.
use Rattle.std.specs.Prelude.{◌≡◌, List, ℕ, ◌*◌, ◌<◌, length, Float, Option, Some, None}
use Rattle.stretch.specs.Stretch.{part, splice}
use Rattle.mesh.specs.Element.{flat}
use Rattle.mesh.specs.Work.{vertices_of, triangles_of, neighbours_of, tags_of, MeshAt, Fielded, field_of}
use Rattle.gradient.specs.Gradient.{gradients}
use Rattle.pde.specs.Start.{triangle_containing, pick_start}
use Rattle.work.specs.declared.Plan.{Plan}
use Rattle.work.specs.declared.Stand.{Stand}
use Rattle.work.specs.declared.Step.{Step}
use Rattle.work.specs.Layout.{at_x, at_gradients, at_norms, at_neighbours, at_tags, mesh_at}
use Rattle.work.specs.Memory.{Stepped}
use Rattle.work.specs.Ready.{Ready, Standing}
use Rattle.plane.specs.declared.Point.{Point}
use Rattle.pde.specs.declared.Entry.{Entry}

-- a front of the plan's length
pub record Searchable (plan : Plan) (words : List ℕ) (f : List Float) : Type 0 where
  pub ready : Ready plan words
  pub long : length f ≡ at_norms plan.n plan.t

-- the vertices stand first in the floats, and the field from u on
pub record Grounded (plan : Plan) (words : List ℕ) (f : List Float) (u : ℕ) : Type 0 where
  pub ready : Ready plan words
  pub fielded : Fielded f words (mesh_at plan.n plan.t) u

-- a front, and a place that is not far
pub record Steppable (plan : Plan) (words : List ℕ) (f : List Float) (s : Stand) : Type 0 where
  pub ready : Ready plan words
  pub standing : Standing plan s
  pub near : s.place < 1000000
  pub long : length f ≡ at_norms plan.n plan.t

-- and a path that has no end
pub record Crossable (plan : Plan) (words : List ℕ) (f : List Float) (s : Stand) : Type 0 where
  pub steppable : Steppable plan words f s
  pub unended : s.walk.end ≡ 0
  pub some : 0 < s.walk.points

-- ---- the parts of the start pass

abbrev pub gradients_put : Plan → List ℕ → List Float → List Float
gradients_put plan words f =
    splice f (at_gradients plan.n plan.t) (gradients flat (part f 0 (2 * plan.n)) (part f (at_x plan.n plan.t) plan.n) (part words 0 (3 * plan.t)))

-- the start that is found in a mesh with its field from u, and in a front
abbrev pub found_in : List Float → List ℕ → MeshAt → ℕ → Option Point → Option Entry
found_in floats words m u (Some p) = triangle_containing (vertices_of floats m) (triangles_of words m) m.t p
found_in floats words m u None = pick_start (vertices_of floats m) (triangles_of words m) (neighbours_of words m) (tags_of words m) m.t (field_of floats m u)

abbrev pub found_by : Plan → List ℕ → List Float → Option Point → Option Entry
found_by plan words f (Some p) = triangle_containing (part f 0 (2 * plan.n)) (part words 0 (3 * plan.t)) plan.t p
found_by plan words f None =
    pick_start (part f 0 (2 * plan.n)) (part words 0 (3 * plan.t)) (part words (at_neighbours plan.t) (3 * plan.t)) (part words (at_tags plan.t) plan.n) plan.t
    (part f (at_x plan.n plan.t) plan.n)

-- the end where none is
abbrev pub lost_by : Option Point → ℕ
lost_by (Some p) = 8
lost_by None = 9

-- ---- what the functions ensure

-- a start pass that comes to d, but for the gradients
pub record SetsOut (d : Stepped) (r : Step) : Type 0 where
  pub stand : r.stand ≡ d.stand
  pub gives : r.gives ≡ d.gives

-- a pass that comes to d
pub record Leads (d : Stepped) (r : Step) (f' : List Float) : Type 0 where
  pub stand : r.stand ≡ d.stand
  pub gives : r.gives ≡ d.gives
  pub front : f' ≡ d.front
