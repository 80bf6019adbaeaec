-- The phases of a dry count together: solving, the start pass, crossings; and crossings alone. Assumes nothing.
use Rattle.std.specs.Prelude.{Option, Some, None}
use Rattle.std.specs.Option.{ForSome}
use denote.Ref.{Bor}
use Prim.Native.Nat.{ℕ, zero, suc, ◌+◌, ◌-◌, ◌*◌, ◌≤◌, ◌<◌}
use mathlib.Core.Path.{◌≡◌, refl, sym, ap, ◌∙◌, subst}
use mathlib.Core.List.{List, ◌++◌}
use native.Mathlib.Nat.{zero-add}
use native.Mathlib.Omega.{arith}
use borrow.Author.Tests.{eq-eqb, ne_eqb}
use lib.ListN.{length, take, drop}
use lib.Ieee.{Float}
use Rattle.stretch.specs.Stretch.{part, splice}
use Rattle.stretch.specs.StretchLaws.{length_part, length-splice, part_lent, part_of_take, splice_is, part_splice-after, part_splice-same}
use Rattle.mesh.specs.Work.{vertices_of, triangles_of, neighbours_of, tags_of, first_at, field_of}
use Rattle.plane.specs.declared.Point.{Point}
use Rattle.pde.specs.declared.Entry.{Entry}
use Rattle.mesh.specs.declared.field.Field.{Field}
use Rattle.pde.specs.Crossing.{gradient_at}
use Rattle.mesh.specs.Stands.{FieldStands}
use Rattle.pde.specs.StandsLaws.{triangles_count}
use Rattle.work.specs.declared.Plan.{Plan}
use Rattle.work.specs.declared.Stand.{Stand}
use Rattle.work.specs.Layout.{at_x, at_gradients, at_norms}
use Rattle.work.specs.Memory.{Stepped, set_out_step, graded, start_by, begin_step, next_of, step_on, front_of, Dry, dry}
use Rattle.work.specs.Dry.{dry_of, dry_at, gain, Counts}
use Rattle.work.specs.DryLaws.{dry_add, dry-over, dry_forth}
use Rattle.work.specs.Ready.{Ready}
use Rattle.dry.specs.Solving.{Solved}
use Rattle.dry.specs.Crossing.{started_by, Ground, Going, Shows, Grades, Crossed, Settled, Scratched, Followable, Followed, anew}
use Rattle.dry.proofs.LawsCrossing.{started_place, started_going, starts_once, shows_graded, grades_graded}

-- ---- what is lent of the floats

pub lent_at : (l : List Float) (x at n : ℕ) → x ≡ at → take (x + n - x) (drop x l) ≡ part l at n
lent_at l x at n e = part_lent l x (x + n) n refl ∙ ap (λ (i : ℕ). part l i n) e

module _ (plan : Plan) (floats : List Float) (gs : Bor (List Float)) (are : gs.now ≡ part floats (at_gradients plan.n plan.t) (2 * plan.t)) where
  pub stored_enough : at_norms plan.n plan.t ≤ length floats → ForSome (Some gs) (λ x. 2 * plan.t ≤ length x.now)
  stored_enough fits x e =
      let same : gs ≡ x = cc in
      omega (arith, ap (λ (y : Bor (List Float)). length y.now) same, ap length are, length_part floats (at_gradients plan.n plan.t) (2 * plan.t) (omega arith))

  stored_grades : (d : Field) (f : List Float) → part f (at_gradients plan.n plan.t) (2 * plan.t) ≡ part floats (at_gradients plan.n plan.t) (2 * plan.t) → Grades (Some gs) plan d f
  stored_grades d f e = record { at = λ k h. ap (λ (l : List Float). gradient_at l k) (e ∙ sym are) }

pub none_stored : (t : ℕ) → ForSome {T = Bor (List Float)} None (λ gs. 2 * t ≤ length gs.now)
none_stored t x e = cc

pub ground_by : (stored : Option (Bor (List Float))) (plan : Plan) {words : List ℕ} {b : List Float} {d : Field} (u : ℕ) → Ready plan words → FieldStands b words (first_at plan.n plan.t) u d
    → ForSome stored (λ gs. 2 * plan.t ≤ length gs.now) → Ground stored plan d
ground_by stored plan u r st enough = record { t_most = r.t_most; count = triangles_count r.linked st.mesh; enough = enough }

-- ---- the path, by x and the vertices in the scratch

module _ (plan : Plan) (words : List ℕ) (floats b : List Float) (s : Stand) (k : ℕ) where
  module _ (l : ℕ) (h : Followable plan words l b s k) (d : Field) (st : FieldStands b words (first_at plan.n plan.t) (2 * plan.n) d) where
    shows_on : (f : List Float) → Scratched plan floats b f → Shows plan words d f
    unfolding vertices_of triangles_of neighbours_of tags_of field_of
    shows_on f sc = record {
      linked = h.ready.linked;
      stands = record {
        mesh = record { vertices = st.mesh.vertices ∙ sym sc.vertices; triangles = st.mesh.triangles; neighbours = st.mesh.neighbours; tags = st.mesh.tags };
        values = st.values ∙ sym sc.field;
      };
    }

    pub follows_crossing : (gs : Bor (List Float)) → gs.now ≡ part floats (at_gradients plan.n plan.t) (2 * plan.t) → (r : Stand) → Crossed (Some gs) plan d s k r → Followed plan words floats b s k r
    follows_crossing gs are r c = record { is = λ f sc. sym (ap (λ (y : Dry). y.stand) (c.is words f (shows_on f sc) (stored_grades plan floats gs are d f sc.gradients))) }

    module _ (none : s.walk.points ≡ 0) (more : k ≡ 0 → ⊥) (s' : Stand) (is-started : s' ≡ started_by plan d s) where
      -- the start pass
      once : (f : List Float) (sc : Scratched plan floats b f) → dry plan words 1 (dry_of f s) ≡ dry_of (graded plan words f s) s'
      once f sc = starts_once plan d words f s (shows_on f sc) h.unended h.solved none ∙ ap (dry_of (graded plan words f s)) (sym is-started)

      pub follows_lost : (s'.walk.end ≡ 0 → ⊥) → Followed plan words floats b s k s'
      follows_lost n = record {
        is = λ f sc. sym (ap (λ (y : Dry). y.stand) (dry-over plan words (dry_of f s) 1 k (omega arith) (λ z. n (sym (ap (λ (y : Dry). y.stand.walk.end) (once f sc)) ∙ z)) ∙ once f sc));
      }

      pub going_started : s'.walk.end ≡ 0 → Going plan s'
      going_started z = subst (Going plan) (sym is-started) (started_going plan d words s h.ready (triangles_count h.ready.linked st.mesh) h.standing h.solved (rw is-started at z))

      pub place_started : s'.place + (k - 1) < 1000000
      place_started = omega (arith, h.near, ap (λ (x : Stand). x.place) is-started, started_place plan d s)

      pub follows_started : (r : Stand) → Crossed None plan d s' (k - 1) r → Followed plan words floats b s k r
      follows_started r c = record { is = λ f sc. sym (ap (λ (y : Dry). y.stand) (all f sc)) }
        where
          all : (f : List Float) (sc : Scratched plan floats b f) → dry plan words k (dry_of f s) ≡ dry_of (graded plan words f s) r
          all f sc =
              let e : k ≡ 1 + (k - 1) = omega (arith, more) in
              ap (λ (j : ℕ). dry plan words j (dry_of f s)) e
              ∙ dry_add plan words (dry_of f s) 1 (k - 1)
              ∙ ap (dry plan words (k - 1)) (once f sc)
              ∙ c.is words (graded plan words f s) (shows_graded plan d words f s (shows_on f sc)) (grades_graded plan d words f s (shows_on f sc) sc.long)

  pub follows_none : k ≡ 0 → Followed plan words floats b s k s
  unfolding dry
  follows_none e = rw e (record { is = λ f sc. refl })

-- ---- solving, and then the path

pub settled : (n : ℕ) (floats v v' front : List Float) → 3 * n ≤ length v → 2 * n ≤ length floats → v' ≡ splice v (2 * n) (part v 0 n) → front ≡ part floats 0 (2 * n)
    → Settled n floats v (front ++ drop (2 * n) v')
settled n floats v v' front h k e ef =
    let x : length (part v 0 n) ≡ n = length_part v 0 n (omega arith) in
    let y : length (part floats 0 (2 * n)) ≡ 2 * n = length_part floats 0 (2 * n) (omega arith) in
    let l : length v' ≡ length v = ap length e ∙ length-splice v (2 * n) (part v 0 n) in
    let put : splice v' 0 (part floats 0 (2 * n)) ≡ part floats 0 (2 * n) ++ drop (0 + 2 * n) v' = splice_is v' (part floats 0 (2 * n)) 0 (2 * n) y (omega arith) in
    let e' : front ++ drop (2 * n) v' ≡ splice v' 0 (part floats 0 (2 * n)) = ap (λ (w : List Float). w ++ drop (2 * n) v') ef ∙ ap (λ (i : ℕ). part floats 0 (2 * n) ++ drop i v') (sym (zero-add (2 * n))) ∙ sym put in
    record {
      vertices = ap (λ (w : List Float). part w 0 (2 * n)) e' ∙ part_splice-same v' 0 (part floats 0 (2 * n)) (2 * n) y (omega arith);
      field =
          ap (λ (w : List Float). part w (2 * n) n) e' ∙ part_splice-after v' 0 (part floats 0 (2 * n)) (2 * n) n (omega arith) ∙ ap (λ (w : List Float). part w (2 * n) n) e
          ∙ part_splice-same v (2 * n) (part v 0 n) n x (omega arith);
      long = ap length e' ∙ length-splice v' 0 (part floats 0 (2 * n)) ∙ l;
    }

module _ (plan : Plan) (words : List ℕ) (floats : List Float) (s : Stand) (k : ℕ) (r : Stand) (v : List Float) (counts : Counts plan words s k floats)
    (d : Solved plan words floats s (r.place - s.place) r v) (within : r.place ≤ s.place + k) where
  module _ (b : List Float) (fits : 3 * plan.n ≤ length b) (is : Settled plan.n floats v b) where
    scratched : Scratched plan floats b (dry plan words (r.place - s.place) (dry_at plan floats s)).front
    scratched = record {
      vertices = d.copied.vertices_same ∙ sym is.vertices;
      field = d.copied.x_same ∙ sym is.field;
      gradients = d.copied.gradients-same;
      long = d.copied.long;
    }

    pub followed_all : (r' : Stand) → Followed plan words floats b r (k - (r.place - s.place)) r' → r' ≡ (dry plan words k (dry_at plan floats s)).stand
    followed_all r' w =
        let i : ℕ = r.place - s.place in
        let e : i + (k - i) ≡ k = omega (arith, d.place) in
        let f : List Float = (dry plan words i (dry_at plan floats s)).front in
        w.is f scratched
        ∙ ap (λ (x : Stand). (dry plan words (k - i) (dry_of f x)).stand) d.stand
        ∙ sym (ap (λ (x : Dry). x.stand) (dry_add plan words (dry_at plan floats s) i (k - i)))
        ∙ ap (λ (j : ℕ). (dry plan words j (dry_at plan floats s)).stand) e

-- ---- the count

module _ (plan : Plan) (words : List ℕ) (floats : List Float) (s : Stand) (k : ℕ) where
  pub gained_none : (s.walk.end ≡ 0 → ⊥) → 0 ≡ gain plan words k floats s
  unfolding dry
  gained_none n =
      let e : (dry plan words k (dry_at plan floats s)).stand.place ≡ s.place = ap (λ (d : Dry). d.stand.place) (dry-over plan words (dry_at plan floats s) 0 k (omega arith) n) in
      omega arith

  -- the start pass counts crossings from 0, whatever the count was
  module _ (unended : s.walk.end ≡ 0) (over : s.end ≡ 0 → ⊥) (none : s.walk.points ≡ 0) where
    set-anew : (f : List Float) (e : ℕ) (st : Option Entry) → set_out_step (anew s) f e st ≡ set_out_step s f e st
    unfolding set_out_step
    set-anew f e (Some at) = refl
    set-anew f e None = refl

    start-anew : (f : List Float) (g : Option Point) → start_by plan words f (anew s) g ≡ start_by plan words f s g
    start-anew f (Some p) = set-anew (graded plan words f s) 8 _
    start-anew f None = set-anew (graded plan words f s) 9 _

    step_anew : (f : List Float) → step_on plan words f (anew s) ≡ step_on plan words f s
    unfolding step_on next_of begin_step
    step_anew f = rw (eq-eqb s.walk.end 0 unended, ne_eqb s.end 0 over, eq-eqb s.walk.points 0 none) (start-anew f plan.start)

    dry-anew : (f : List Float) (j : ℕ) → dry plan words (suc j) (dry_of f (anew s)) ≡ dry plan words (suc j) (dry_of f s)
    unfolding dry
    dry-anew f zero = ap (λ (x : Stepped). dry_of x.front x.stand) (step_anew f)
    dry-anew f (suc j) = ap (λ (d : Dry). dry_of (step_on plan words d.front d.stand).front (step_on plan words d.front d.stand).stand) (dry-anew f j)

    place_anew : (f : List Float) (j : ℕ) → (dry plan words j (dry_of f (anew s))).stand.place ≡ (dry plan words j (dry_of f s)).stand.place
    unfolding dry
    place_anew f zero = refl
    place_anew f (suc j) = ap (λ (d : Dry). d.stand.place) (dry-anew f j)

    anew_place : (r a : Stand) → a ≡ anew s → r ≡ (dry plan words k (dry_at plan floats a)).stand → r.place ≡ (dry plan words k (dry_at plan floats s)).stand.place
    anew_place r a ea e = ap (λ (x : Stand). x.place) (e ∙ ap (λ (x : Stand). (dry plan words k (dry_at plan floats x)).stand) ea) ∙ place_anew (front_of plan floats) k

    pub gained_anew : (r a : Stand) → a ≡ anew s → r ≡ (dry plan words k (dry_at plan floats a)).stand → r.place - s.place ≡ gain plan words k floats s
    gained_anew r a ea e = ap (λ (p : ℕ). p - s.place) (anew_place r a ea e)

    pub gained_anew_forth : (r a : Stand) → a ≡ anew s → r ≡ (dry plan words k (dry_at plan floats a)).stand → s.place ≤ r.place
    gained_anew_forth r a ea e = omega (arith, anew_place r a ea e, dry_forth plan words (dry_at plan floats s) k)

  pub gained : (r : Stand) → r ≡ (dry plan words k (dry_at plan floats s)).stand → r.place - s.place ≡ gain plan words k floats s
  gained r e = ap (λ (x : Stand). x.place - s.place) e

  pub gained_forth : (r : Stand) → r ≡ (dry plan words k (dry_at plan floats s)).stand → s.place ≤ r.place
  gained_forth r e = omega (arith, ap (λ (x : Stand). x.place) e, dry_forth plan words (dry_at plan floats s) k)

  module _ (counts : Counts plan words s k floats) where
    front : (at n : ℕ) → at + n ≤ at_norms plan.n plan.t → part (front_of plan floats) at n ≡ part floats at n
    front at n h = part_of_take floats (at_norms plan.n plan.t) at n h

    shows_lent : (u : ℕ) (d : Field) → u ≡ at_x plan.n plan.t → FieldStands floats words (first_at plan.n plan.t) u d → Shows plan words d (front_of plan floats)
    unfolding vertices_of triangles_of neighbours_of tags_of field_of
    shows_lent u d eu st = record {
      linked = counts.ready.linked;
      stands = record {
        mesh = record { vertices = st.mesh.vertices ∙ sym (front 0 (2 * plan.n) (omega arith)); triangles = st.mesh.triangles; neighbours = st.mesh.neighbours; tags = st.mesh.tags };
        values = st.values ∙ ap (λ (i : ℕ). part floats i plan.n) eu ∙ sym (front (at_x plan.n plan.t) plan.n (omega arith));
      };
    }

    pub crossed-all : (u : ℕ) (d : Field) (gs : Bor (List Float)) (r : Stand) → u ≡ at_x plan.n plan.t → FieldStands floats words (first_at plan.n plan.t) u d
        → gs.now ≡ part floats (at_gradients plan.n plan.t) (2 * plan.t) → Crossed (Some gs) plan d s k r → r ≡ (dry plan words k (dry_at plan floats s)).stand
    crossed-all u d gs r eu st are c =
        sym (ap (λ (y : Dry). y.stand) (c.is words (front_of plan floats) (shows_lent u d eu st) (stored_grades plan floats gs are d (front_of plan floats) (front (at_gradients plan.n plan.t) (2 * plan.t) (omega arith)))))
