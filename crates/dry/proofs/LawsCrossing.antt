-- Dry crossings and the dry start pass on a front against those by the field that shows it. Assumes nothing.
use Rattle.std.specs.Prelude.{Option, Some, None}
use denote.Ref.{Bor}
use Prim.Native.Nat.{ℕ, ◌+◌, ◌*◌, ◌≤◌, ◌<◌}
use mathlib.Core.Path.{◌≡◌, refl, sym, ap, ap₂, ◌∙◌, subst}
use mathlib.Core.List.{List, []}
use native.Mathlib.Numerals.{add-one}
use native.Mathlib.Omega.{arith}
use borrow.Author.Tests.{eq-eqb, ne_eqb}
use lib.Dec.{eqb}
use lib.ListN.{length}
use lib.Ieee.{Float}
use Rattle.stretch.specs.Stretch.{part}
use Rattle.stretch.specs.StretchLaws.{length_part, part_splice-before, part_splice-same}
use Rattle.mesh.specs.Element.{flat}
use Rattle.mesh.specs.Mesh.{triangle_count}
use Rattle.mesh.specs.Work.{vertices_of, triangles_of, neighbours_of, tags_of, field_of}
use Rattle.mesh.specs.WorkLaws.{over_below}
use Rattle.plane.specs.declared.Point.{Point}
use Rattle.gradient.specs.Gradient.{gradient_on, gradients}
use Rattle.gradient.specs.GradientLaws.{length-gradients, gradients_at_lem}
use Rattle.pde.specs.Outcome.{Crossing}
use Rattle.pde.specs.declared.Entry.{Entry}
use Rattle.mesh.specs.declared.field.Field.{Field}
use Rattle.pde.specs.Bounds.{StartIn, CrossingIn, containing_in, pick_start_in, along_in}
use Rattle.pde.specs.Crossing.{gradient_at, crossing, crossing_along}
use Rattle.pde.specs.PathLaws.{walked_more}
use Rattle.pde.specs.StandsLaws.{crossing_stands}
use Rattle.model.specs.Space.{factor}
use Rattle.model.specs.Run.{rule}
use Rattle.work.specs.declared.Plan.{Plan}
use Rattle.work.specs.declared.Stand.{Stand}
use Rattle.work.specs.Layout.{at_x, at_gradients, at_norms}
use Rattle.work.specs.Memory.{Stepped, set_out_step, graded, start_by, begin_step, crossing_of, crossed_stand, cross_step, next_of, step_on, Dry, dry}
use Rattle.work.specs.Dry.{dry_of}
use Rattle.work.specs.DryLaws.{start-front, dry-over}
use Rattle.work.specs.Kinds.{found_by, lost_by}
use Rattle.work.specs.Ready.{Ready, Standing}
use Rattle.work.specs.StandingLaws.{set_out_standing, on_standing}
use Rattle.work.specs.StartedLaws.{set_out-same, start_is}
use Rattle.pde.specs.Standing.{entry_at}
use Rattle.kinds.specs.Found.{found_on}
use Rattle.kinds.specs.FoundLaws.{found_stands}
use Rattle.dry.specs.Crossing.{gradient_by, crossing_on, crossed_by, started_by, Ground, Going, Shows, Grades, Crossed}

-- one dry pass, from where it leads
abbrev dry_once : Plan → List ℕ → Dry → Dry
dry_once plan words d = dry_of (step_on plan words d.front d.stand).front (step_on plan words d.front d.stand).stand

module _ (stored : Option (Bor (List Float))) (plan : Plan) (d : Field) where
  -- ---- a crossing

  module _ (s : Stand) where
    -- a place of a path that has points comes to another
    going_on : Ground stored plan d → Going plan s → s.walk.end ≡ 0 → Going plan (crossed_by stored plan d s)
    going_on g h e =
        let k : ℕ = s.walk.triangle in
        let n : ℕ = triangle_count d.mesh.triangles.now in
        let x : Crossing = crossing_on plan d (gradient_by stored d k) (entry_at s.walk) in
        let below : k < n = omega (arith, h.standing.triangle_in h.some, g.count) in
        let in-mesh : CrossingIn n x =
        along_in rule d.mesh.vertices.now d.mesh.triangles.now d.mesh.neighbours.now n d.values.now (over_below d.mesh.whole) (gradient_by stored d k) plan.step s.walk.position k s.walk.edge below in
        record {
          standing = on_standing plan s x (eqb (s.crossings + 1) (factor * plan.t)) refl h.standing e (λ z. omega (arith, h.some)) (subst (λ (j : ℕ). CrossingIn j x) g.count in-mesh);
          solved = h.solved;
          some = omega (arith, h.some, walked_more plan.room (eqb (s.crossings + 1) (factor * plan.t)) s.walk x);
        }

    pub going_next : (r : Stand) → Ground stored plan d → Going plan s → s.walk.end ≡ 0 → r ≡ crossed_by stored plan d s → Going plan r × (r.place ≡ s.place + 1)
    going_next r g h e er = (subst (Going plan) (sym er) (going_on g h e), ap (λ (x : Stand). x.place) er)

    module _ (words : List ℕ) (f : List Float) (sh : Shows plan words d f) (gr : Grades stored plan d f) (h : Going plan s) (e : s.walk.end ≡ 0) where
      crossing-same : crossing_of plan words f s ≡ crossing_on plan d (gradient_by stored d s.walk.triangle) (entry_at s.walk)
      unfolding crossing vertices_of triangles_of neighbours_of field_of
      crossing-same =
          let w = s.walk in
          let along : Point → Crossing =
          λ g. crossing_along rule (part f 0 (2 * plan.n)) (part words 0 (3 * plan.t)) (part words (3 * plan.t) (3 * plan.t)) plan.t (part f (at_x plan.n plan.t) plan.n) g plan.step w.position w.triangle w.edge in
          ap along (gr.at w.triangle (h.standing.triangle_in h.some))
          ∙ sym (crossing_stands (at_x plan.n plan.t) sh.linked sh.stands rule plan.step (gradient_by stored d w.triangle) w.position w.triangle w.edge)

      step_crosses : step_on plan words f s ≡ cross_step plan words f s
      unfolding step_on next_of
      step_crosses = rw (eq-eqb s.walk.end 0 e, ne_eqb s.end 0 h.solved, ne_eqb s.walk.points 0 (λ z. omega (arith, h.some)))

      crosses_once : dry_once plan words (dry_of f s) ≡ dry_of f (crossed_by stored plan d s)
      unfolding cross_step
      crosses_once = ap (λ (x : Stepped). dry_of x.front x.stand) step_crosses ∙ ap (λ (x : Crossing). dry_of f (crossed_stand plan s x)) crossing-same

  module _ (s : Stand) where
    pub crossed_none : Crossed stored plan d s 0 s
    unfolding dry
    crossed_none = record { is = λ words f sh gr. refl }

    pub crossed-more : (i : ℕ) (r r' : Stand) → Going plan r → r.walk.end ≡ 0 → Crossed stored plan d s i r → r' ≡ crossed_by stored plan d r → Crossed stored plan d s (i + 1) r'
    unfolding dry
    crossed-more i r r' h e c er =
        rw add-one (record { is = λ words f sh gr. ap (dry_once plan words) (c.is words f sh gr) ∙ crosses_once r words f sh gr h e ∙ ap (dry_of f) (sym er) })

    pub crossed-ended : (i k : ℕ) (r : Stand) → i ≤ k → (r.walk.end ≡ 0 → ⊥) → Crossed stored plan d s i r → Crossed stored plan d s k r
    crossed-ended i k r h n c = record {
      is = λ words f sh gr. dry-over plan words (dry_of f s) i k h (λ z. n (sym (ap (λ (y : Dry). y.stand.walk.end) (c.is words f sh gr)) ∙ z)) ∙ c.is words f sh gr;
    }

-- ---- the start pass

found_in_lem : (d : Field) (g : Option Point) → StartIn (triangle_count d.mesh.triangles.now) (found_on d g)
found_in_lem d (Some p) = containing_in d.mesh.vertices.now d.mesh.triangles.now (triangle_count d.mesh.triangles.now) p
found_in_lem d None = pick_start_in d.mesh.vertices.now d.mesh.triangles.now d.mesh.neighbours.now d.mesh.tags.now (triangle_count d.mesh.triangles.now) d.values.now

lost_some : (g : Option Point) → lost_by g ≡ 0 → ⊥
lost_some (Some p) e = omega arith
lost_some None e = omega arith

set_out_some : (s : Stand) (k : ℕ) (st : Option Entry) → (k ≡ 0 → ⊥) → (set_out_step s [] k st).stand.walk.end ≡ 0 → 0 < (set_out_step s [] k st).stand.walk.points
unfolding set_out_step
set_out_some s k (Some at) n z = omega arith
set_out_some s k None n z = absurd (n z)

set_out-end : (s : Stand) (k : ℕ) (st : Option Entry) → (set_out_step s [] k st).stand.end ≡ s.end
unfolding set_out_step
set_out-end s k (Some at) = refl
set_out-end s k None = refl

set_out_place : (s : Stand) (k : ℕ) (st : Option Entry) → (set_out_step s [] k st).stand.place ≡ s.place + 1
unfolding set_out_step
set_out_place s k (Some at) = refl
set_out_place s k None = refl

module _ (plan : Plan) (d : Field) where
  pub started_place : (s : Stand) → (started_by plan d s).place ≡ s.place + 1
  started_place s = set_out_place s (lost_by plan.start) (found_on d plan.start)

  pub started_going : (words : List ℕ) (s : Stand) → Ready plan words → triangle_count d.mesh.triangles.now ≡ plan.t → Standing plan s → (s.end ≡ 0 → ⊥) → (started_by plan d s).walk.end ≡ 0
      → Going plan (started_by plan d s)
  started_going words s ready count st n z =
      let k : ℕ = lost_by plan.start in
      let found : Option Entry = found_on d plan.start in
      record {
        standing = set_out_standing plan words s [] k found ready st (subst (λ (c : ℕ). StartIn c found) count (found_in_lem d plan.start));
        solved = λ e. n (sym (set_out-end s k found) ∙ e);
        some = set_out_some s k found (lost_some plan.start) z;
      }

  module _ (words : List ℕ) (f : List Float) (s : Stand) (sh : Shows plan words d f) where
    found_same : (g : Option Point) → found_by plan words f g ≡ found_on d g
    unfolding vertices_of triangles_of neighbours_of tags_of field_of
    found_same (Some p) = sym (found_stands (at_x plan.n plan.t) sh.linked sh.stands (Some p))
    found_same None = sym (found_stands (at_x plan.n plan.t) sh.linked sh.stands None)

    starts_stand : (start_by plan words f s plan.start).stand ≡ started_by plan d s
    starts_stand =
        let k : ℕ = lost_by plan.start in
        ap (λ (x : Stepped). x.stand) (start_is plan words f s plan.start)
        ∙ ap (λ (x : Option Entry). (set_out_step s (graded plan words f s) k x).stand) (found_same plan.start)
        ∙ (set_out-same s (graded plan words f s) [] k (found_on d plan.start)).0

    step_begins : s.walk.end ≡ 0 → (s.end ≡ 0 → ⊥) → s.walk.points ≡ 0 → step_on plan words f s ≡ start_by plan words f s plan.start
    unfolding step_on next_of begin_step
    step_begins e z k = rw (eq-eqb s.walk.end 0 e, ne_eqb s.end 0 z, eq-eqb s.walk.points 0 k)

    pub starts_once : s.walk.end ≡ 0 → (s.end ≡ 0 → ⊥) → s.walk.points ≡ 0 → dry plan words 1 (dry_of f s) ≡ dry_of (graded plan words f s) (started_by plan d s)
    unfolding dry
    starts_once e z k =
        ap (λ (x : Stepped). dry_of x.front x.stand) (step_begins e z k) ∙ ap₂ dry_of (start-front plan words f s plan.start) starts_stand

    pub shows_graded : Shows plan words d (graded plan words f s)
    unfolding vertices_of field_of
    shows_graded =
        let m = sh.stands.mesh in
        record {
          linked = sh.linked;
          stands = record {
            mesh = record {
              vertices = m.vertices ∙ sym (part_splice-before f (at_gradients plan.n plan.t) _ 0 (2 * plan.n) (omega arith));
              triangles = m.triangles;
              neighbours = m.neighbours;
              tags = m.tags;
            };
            values = sh.stands.values ∙ sym (part_splice-before f (at_gradients plan.n plan.t) _ (at_x plan.n plan.t) plan.n (omega arith));
          };
        }

    -- the gradients that the pass writes are those that are worked out
    pub grades_graded : length f ≡ at_norms plan.n plan.t → Grades None plan d (graded plan words f s)
    unfolding gradient_at gradient_on vertices_of triangles_of field_of
    grades_graded long =
        let n : ℕ = plan.n in
        let t : ℕ = plan.t in
        let vs : List Float = part f 0 (2 * n) in
        let us : List Float = part f (at_x n t) n in
        let ts : List ℕ = part words 0 (3 * t) in
        let lt : length ts ≡ 3 * t = length_part words 0 (3 * t) (omega (arith, sh.linked.triangles_fit)) in
        let written : part (graded plan words f s) (at_gradients n t) (2 * t) ≡ gradients flat vs us ts =
        part_splice-same f (at_gradients n t) (gradients flat vs us ts) (2 * t) (length-gradients flat vs us t ts lt) (omega arith) in
        let e = sh.stands in
        record { at = λ k h. ap (λ (gs : List Float). gradient_at gs k) written ∙ gradients_at_lem flat vs us t ts k lt h ∙ rw (e.mesh.vertices, e.values, e.mesh.triangles) }
