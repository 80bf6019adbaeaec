-- The start pass and crossings by a field, with the gradients as they are stored or worked out. Definitions only. Assumes nothing.
use Rattle.std.specs.Prelude.{◌≡◌, List, [], ℕ, ◌+◌, ◌*◌, ◌≤◌, ◌<◌, length, Float, Option, Some, None}
use Rattle.std.specs.Option.{ForSome}
use denote.Ref.{Bor}
use Rattle.plane.specs.declared.Point.{Point}
use Rattle.stretch.specs.Stretch.{part}
use Rattle.mesh.specs.Element.{flat}
use Rattle.mesh.specs.Mesh.{triangle_count}
use Rattle.mesh.specs.Work.{Linked}
use Rattle.gradient.specs.Gradient.{gradient_on}
use Rattle.pde.specs.Outcome.{Crossing}
use Rattle.pde.specs.declared.Entry.{Entry}
use Rattle.mesh.specs.declared.field.Field.{Field}
use Rattle.pde.specs.Crossing.{gradient_at, crossing_along}
use Rattle.mesh.specs.Stands.{FieldStands}
use Rattle.model.specs.Run.{rule}
use Rattle.work.specs.declared.Plan.{Plan}
use Rattle.work.specs.declared.Stand.{Stand}
use Rattle.work.specs.Layout.{at_x, at_gradients, at_norms, mesh_at}
use Rattle.work.specs.Memory.{set_out_step, crossed_stand, dry}
use Rattle.work.specs.Dry.{dry_of}
use Rattle.work.specs.Kinds.{lost_by}
use Rattle.work.specs.Ready.{Ready, Standing}
use Rattle.pde.specs.Standing.{entry_at}
use Rattle.kinds.specs.Found.{found_on}

-- ---- one pass, by the field d

-- the gradient on triangle k: a stored one, or worked out
abbrev pub gradient_by : Option (Bor (List Float)) → Field → ℕ → Point
gradient_by (Some gs) d k = gradient_at gs.now k
gradient_by None d k = gradient_on flat d.mesh.vertices.now d.values.now d.mesh.triangles.now k

-- what crossing a triangle from an entry comes to
abbrev pub crossing_on : Plan → Field → Point → Entry → Crossing
crossing_on plan d g at =
    crossing_along rule d.mesh.vertices.now d.mesh.triangles.now d.mesh.neighbours.now (triangle_count d.mesh.triangles.now) d.values.now g plan.step at.point at.triangle at.edge

-- the stand after a crossing
abbrev pub crossed_by : Option (Bor (List Float)) → Plan → Field → Stand → Stand
crossed_by stored plan d s = crossed_stand plan s (crossing_on plan d (gradient_by stored d s.walk.triangle) (entry_at s.walk))

-- the stand after the start pass
abbrev pub started_by : Plan → Field → Stand → Stand
started_by plan d s = (set_out_step s [] (lost_by plan.start) (found_on d plan.start)).stand

-- ---- what they ask

-- a field on the plan's triangles, and gradients on all of them, where they are stored
pub record Ground (stored : Option (Bor (List Float))) (plan : Plan) (d : Field) : Type 0 where
  pub t_most : plan.t ≤ 8192
  pub count : triangle_count d.mesh.triangles.now ≡ plan.t
  pub enough : ForSome stored (λ gs. 2 * plan.t ≤ length gs.now)

-- a place of a path that has points
pub record Going (plan : Plan) (s : Stand) : Type 0 where
  pub standing : Standing plan s
  pub solved : s.end ≡ 0 → ⊥
  pub some : 0 < s.walk.points

-- ---- what they are for a front f

-- the field of f, by its slices
pub record Shows (plan : Plan) (words : List ℕ) (d : Field) (f : List Float) : Type 0 where
  pub linked : Linked words (mesh_at plan.n plan.t)
  pub stands : FieldStands f words (mesh_at plan.n plan.t) (at_x plan.n plan.t) d

-- and the gradients of f
pub record Grades (stored : Option (Bor (List Float))) (plan : Plan) (d : Field) (f : List Float) : Type 0 where
  pub at : (k : ℕ) → k < plan.t → gradient_at (part f (at_gradients plan.n plan.t) (2 * plan.t)) k ≡ gradient_by stored d k

-- k crossings from s come to r on every front that the field and the gradients show
pub record Crossed (stored : Option (Bor (List Float))) (plan : Plan) (d : Field) (s : Stand) (k : ℕ) (r : Stand) : Type 0 where
  pub is : (words : List ℕ) (f : List Float) → Shows plan words d f → Grades stored plan d f → dry plan words k (dry_of f s) ≡ dry_of f r

-- ---- after solving

-- x is brought behind the vertices: v before, b after
pub record Settled (n : ℕ) (floats v b : List Float) : Type 0 where
  pub vertices : part b 0 (2 * n) ≡ part floats 0 (2 * n)
  pub field : part b (2 * n) n ≡ part v 0 n
  pub long : length b ≡ length v

-- the vertices of f, and behind them x, stand in b; its gradients stand in the floats
pub record Scratched (plan : Plan) (floats b f : List Float) : Type 0 where
  pub vertices : part f 0 (2 * plan.n) ≡ part b 0 (2 * plan.n)
  pub field : part f (at_x plan.n plan.t) plan.n ≡ part b (2 * plan.n) plan.n
  pub gradients : part f (at_gradients plan.n plan.t) (2 * plan.t) ≡ part floats (at_gradients plan.n plan.t) (2 * plan.t)
  pub long : length f ≡ at_norms plan.n plan.t

-- the path can be followed from s for k passes
pub record Followable (plan : Plan) (words : List ℕ) (l : ℕ) (b : List Float) (s : Stand) (k : ℕ) : Type 0 where
  pub ready : Ready plan words
  pub standing : Standing plan s
  pub unended : s.walk.end ≡ 0
  pub solved : s.end ≡ 0 → ⊥
  pub near : s.place + k < 1000000
  pub floats_fit : at_norms plan.n plan.t ≤ l
  pub scratch_fits : 3 * plan.n ≤ length b

-- k passes from s come to r on every front that the scratch and the floats show
pub record Followed (plan : Plan) (words : List ℕ) (floats b : List Float) (s : Stand) (k : ℕ) (r : Stand) : Type 0 where
  pub is : (f : List Float) → Scratched plan floats b f → r ≡ (dry plan words k (dry_of f s)).stand

-- ---- before the start pass

-- the stand with no crossing counted
abbrev pub anew : Stand → Stand
anew s = record { place = s.place; rs = s.rs; norms = s.norms; end = s.end; walk = s.walk; crossings = 0 }
