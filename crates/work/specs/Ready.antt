-- What the calls establish before any pass is made, and what each pass keeps: the counts of the plan, indices in the words, and the counts of a place. Definitions only. Assumes nothing.
use Rattle.std.specs.Prelude.{ℕ, ◌+◌, ◌*◌, ◌≤◌, ◌<◌, ◌≡◌, List, eqb, length, Float, Option, Some, None}
use Rattle.binary64.specs.Number.{pick}
use Rattle.sparse.specs.Stored.{Sound}
use Rattle.mesh.specs.Work.{Linked}
use Rattle.format.specs.Content.{max_vertices, max_triangles, max_limit, max_room}
use Rattle.model.specs.Space.{factor, float_space, path_space}
use Rattle.work.specs.declared.Plan.{Plan}
use Rattle.work.specs.declared.Stand.{Stand}
use Rattle.work.specs.declared.Kept.{Kept}
use Rattle.work.specs.declared.Step.{Step}
use Rattle.work.specs.Layout.{at_norms, matrix_at, mesh_at}
use Rattle.work.specs.Memory.{step_on, Work}

-- the plan's counts, and the indices in the words
pub record Ready (plan : Plan) (words : List ℕ) : Type 0 where
  pub n_most : plan.n ≤ max_vertices
  pub t_most : plan.t ≤ max_triangles
  pub limit-most : plan.limit ≤ max_limit
  pub room_least : 1 ≤ plan.room
  pub room_most : plan.room ≤ max_room
  pub sound : Sound words (matrix_at plan.n plan.t)
  pub linked : Linked words (mesh_at plan.n plan.t)

-- the counts of a place: while solving a norm more fits; a path has a triangle, and while it has no end a crossing is left
pub record Standing (plan : Plan) (s : Stand) : Type 0 where
  pub norms_least : 1 ≤ s.norms
  pub norms_most : s.norms ≤ plan.limit + pick (eqb s.end 0) 0 1
  pub points_most : s.walk.points ≤ plan.room
  pub triangle_in : 0 < s.walk.points → s.walk.triangle < plan.t
  pub edge_in : s.walk.edge ≤ 3
  pub crossings_left : s.walk.end ≡ 0 → 0 < s.walk.points → s.crossings < factor * plan.t

-- a kept place that may be gone on from
pub record Keeping (plan : Plan) (k : Kept) : Type 0 where
  pub least : 1 ≤ k.norms

abbrev pub MarkKeeping : Plan → Option Kept → Type 0
MarkKeeping plan None = Unit
MarkKeeping plan (Some k) = Keeping plan k

-- the lent floats and path are long enough
pub record Roomy (plan : Plan) (floats path : List Float) : Type 0 where
  pub floats_fit : float_space plan.n plan.t plan.limit ≤ length floats
  pub path_fit : path_space plan.room ≤ length path

-- what a pass gives from s can be written to buffers of these lengths
pub record Writable (plan : Plan) (s : Stand) (floats path : ℕ) : Type 0 where
  pub n_most : plan.n ≤ max_vertices
  pub t_most : plan.t ≤ max_triangles
  pub norms_fit : at_norms plan.n plan.t + s.norms < floats
  pub points_most : s.walk.points ≤ plan.room
  pub room_least : 1 ≤ plan.room
  pub room_most : plan.room ≤ max_room
  pub path_fit : path_space plan.room ≤ path

-- the next pass is a crossing
pub record Crosses (s : Stand) : Type 0 where
  pub unended : s.walk.end ≡ 0
  pub solved : s.end ≡ 0 → ⊥
  pub some : s.walk.points ≡ 0 → ⊥

-- ---- what the functions ensure

-- one pass on a front
pub record Steps (plan : Plan) (words : List ℕ) (f : List Float) (s : Stand) (r : Step) (f' : List Float) : Type 0 where
  pub stand : r.stand ≡ (step_on plan words f s).stand
  pub gives : r.gives ≡ (step_on plan words f s).gives
  pub front : f' ≡ (step_on plan words f s).front

-- work on the whole buffers that comes to w
pub record Comes (w : Work) (r : Stand) (floats' path' : List Float) : Type 0 where
  pub stand : r ≡ w.stand
  pub floats : floats' ≡ w.floats
  pub path : path' ≡ w.path
