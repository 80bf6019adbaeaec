-- A pass keeps the counts of a place in their ranges, and raises its number by one at most, whatever the buffers hold. Assumes nothing.
use Rattle.std.specs.Prelude.{ℕ, zero, suc, ◌+◌, ◌-◌, ◌*◌, ◌≤◌, ◌<◌, ◌≡◌, refl, Bool, true, false, eqb, leb, Float, Option, Some, None}
use Rattle.std.proofs.Common.{sym, ap, ◌∙◌, arith, add-zero, add-suc, take-append-drop, eqb-true, leb-false}
use mathlib.Core.List.{List}
use Rattle.std.proofs.lemmas.Bool.{eqb-false}
use Rattle.binary64.specs.Number.{pick}
use Rattle.stretch.specs.Stretch.{part}
use Rattle.sparse.specs.Stored.{matrix}
use Rattle.mesh.specs.Element.{flat}
use Rattle.mesh.specs.Work.{triangles_of, neighbours_of}
use Rattle.conjugate.specs.Solver as Solver
use Rattle.conjugate.specs.Solver.{Turn, halted, reached, moved}
use Rattle.pde.specs.Outcome.{Crossing}
use Rattle.pde.specs.Path.{walked}
use Rattle.pde.specs.PathLaws.{walked-most, walked_stands}
use Rattle.pde.specs.Bounds.{StartIn, CrossingIn, containing_in, pick_start_in, crossing_in_lem}
use Rattle.model.specs.Space.{factor}
use Rattle.model.specs.Run.{rule, next_by}
use Rattle.model.proofs.PassLaws.{walked_last}
use Rattle.work.specs.declared.Gives.{Gives}
use Rattle.work.specs.declared.Plan.{Plan}
use Rattle.work.specs.declared.Stand.{Stand}
use Rattle.work.specs.Layout.{at_x, at_gradients, at_norms, at_neighbours, matrix_at}
use Rattle.mesh.specs.WorkLaws.{neighbour_below}
use Rattle.work.specs.Memory.{Stepped, stepped, vectors_in, solved_step, set_out_step, solve_step, graded, start_by, begin_step, crossing_of, walked_stand, cross_step, next_of, step_by, step_on, Work, work, front_of, once, goes}
use Rattle.work.specs.Ready.{Ready, Standing}
use Rattle.plane.specs.declared.Point.{Point}
use Rattle.pde.specs.declared.Entry.{Entry}

-- ---- which pass is next

-- what holds after a pass, by the four kinds
pub step_elim : (P : Stepped → Type 0) (plan : Plan) (words : List ℕ) (f : List Float) (s : Stand)
    → ((s.walk.end ≡ 0 → ⊥) → P (stepped f s Gives.Nothing))
    → (s.walk.end ≡ 0 → s.end ≡ 0 → P (solve_step plan words f s))
    → (s.walk.end ≡ 0 → (s.end ≡ 0 → ⊥) → s.walk.points ≡ 0 → P (begin_step plan words f s))
    → (s.walk.end ≡ 0 → (s.end ≡ 0 → ⊥) → (s.walk.points ≡ 0 → ⊥) → P (cross_step plan words f s))
    → P (step_on plan words f s)
unfolding step_on next_of
step_elim P plan words f s over solve begin cross = go (eqb s.walk.end 0) (eqb s.end 0) (eqb s.walk.points 0) refl refl refl
  where
    go : (e g z : Bool) → eqb s.walk.end 0 ≡ e → eqb s.end 0 ≡ g → eqb s.walk.points 0 ≡ z → P (step_by plan words f s (next_by e g z))
    go false g z p q r = over (eqb-false _ _ p)
    go true true z p q r = solve (eqb-true _ _ p) (eqb-true _ _ q)
    go true false true p q r = begin (eqb-true _ _ p) (eqb-false _ _ q) (eqb-true _ _ r)
    go true false false p q r = cross (eqb-true _ _ p) (eqb-false _ _ q) (eqb-false _ _ r)

-- one at a finished path changes nothing
pub step_over : (plan : Plan) (words : List ℕ) (f : List Float) (s : Stand) → (s.walk.end ≡ 0 → ⊥) → step_on plan words f s ≡ stepped f s Gives.Nothing
step_over plan words f s n =
    step_elim (λ (d : Stepped). d ≡ stepped f s Gives.Nothing) plan words f s
    (λ _. refl)
    (λ e _. absurd (n e))
    (λ e _ _. absurd (n e))
    (λ e _ _. absurd (n e))

-- ---- a pass of solving

-- what it comes to
abbrev pub turn_of : Plan → List ℕ → List Float → Stand → Turn
turn_of plan words f s = Solver.pass flat (matrix words f (matrix_at plan.n plan.t)) plan.tolerance (vectors_in plan.n plan.t f s.rs)

pub unsolved_norms : (plan : Plan) (s : Stand) → Standing plan s → s.end ≡ 0 → s.norms ≤ plan.limit
unsolved_norms plan s st e = let h : s.norms ≤ plan.limit + pick (eqb 0 0) 0 1 = rw e at st.norms_most in omega arith

solved_standing : (plan : Plan) (s : Stand) (f : List Float) (turn : Turn) → Standing plan s → s.end ≡ 0 → Standing plan (solved_step plan s f turn).stand
unfolding solved_step
solved_standing plan s f halted st e =
    let h : s.norms ≤ plan.limit = unsolved_norms plan s st e in
    record { norms_least = st.norms_least; norms_most = omega arith; points_most = st.points_most; triangle_in = st.triangle_in; edge_in = st.edge_in; crossings_left = st.crossings_left }
solved_standing plan s f (reached x r norm) st e =
    let h : s.norms ≤ plan.limit = unsolved_norms plan s st e in
    record { norms_least = omega arith; norms_most = omega arith; points_most = st.points_most; triangle_in = st.triangle_in; edge_in = st.edge_in; crossings_left = st.crossings_left }
solved_standing plan s f (moved next norm) st e =
    record { norms_least = omega arith; norms_most = most (leb plan.limit s.norms) refl; points_most = st.points_most; triangle_in = st.triangle_in; edge_in = st.edge_in; crossings_left = st.crossings_left }
  where
    h : s.norms ≤ plan.limit
    h = unsolved_norms plan s st e

    most : (b : Bool) → leb plan.limit s.norms ≡ b → s.norms + 1 ≤ plan.limit + pick (eqb (pick {A = ℕ} b 3 0) 0) 0 1
    most true q = omega (arith, h)
    most false q = omega (arith, leb-false plan.limit s.norms q)

solve_standing : (plan : Plan) (words : List ℕ) (f : List Float) (s : Stand) → Standing plan s → s.end ≡ 0 → Standing plan (solve_step plan words f s).stand
unfolding solve_step
solve_standing plan words f s st e = solved_standing plan s f (turn_of plan words f s) st e

-- ---- the start pass

pub set_out_standing : (plan : Plan) (words : List ℕ) (s : Stand) (f : List Float) (k : ℕ) (st : Option Entry) → Ready plan words → Standing plan s → StartIn plan.t st → Standing plan (set_out_step s f k st).stand
unfolding set_out_step
set_out_standing plan words s f k (Some at) r h b = record {
  norms_least = h.norms_least;
  norms_most = h.norms_most;
  points_most = r.room_least;
  triangle_in = λ _. b.0;
  edge_in = b.1;
  crossings_left = λ _ _. omega (arith, b.0);
}
set_out_standing plan words s f k None r h b = record {
  norms_least = h.norms_least;
  norms_most = h.norms_most;
  points_most = omega arith;
  triangle_in = λ z. absurd (omega arith);
  edge_in = omega arith;
  crossings_left = λ _ z. absurd (omega arith);
}

start_standing : (plan : Plan) (words : List ℕ) (f : List Float) (s : Stand) (g : Option Point) → Ready plan words → Standing plan s → Standing plan (start_by plan words f s g).stand
start_standing plan words f s (Some p) r st = set_out_standing plan words s (graded plan words f s) 8 _ r st (containing_in _ _ plan.t p)
start_standing plan words f s None r st = set_out_standing plan words s (graded plan words f s) 9 _ r st (pick_start_in _ _ _ _ plan.t _)

begin_standing : (plan : Plan) (words : List ℕ) (f : List Float) (s : Stand) → Ready plan words → Standing plan s → Standing plan (begin_step plan words f s).stand
unfolding begin_step
begin_standing plan words f s r st = start_standing plan words f s plan.start r st

-- ---- a crossing

module _ (plan : Plan) (s : Stand) (x : Crossing) where
  -- a crossing that has no end is not the last
  on_left : (b : Bool) → eqb (s.crossings + 1) (factor * plan.t) ≡ b → s.crossings < factor * plan.t → (walked plan.room b s.walk x).end ≡ 0 → s.crossings + 1 < factor * plan.t
  on_left true e h k = absurd (walked_last plan.room s.walk x k)
  on_left false e h k = let n : s.crossings + 1 ≡ factor * plan.t → ⊥ = eqb-false _ _ e in omega arith

  pub on_standing : (b : Bool) → eqb (s.crossings + 1) (factor * plan.t) ≡ b → Standing plan s → s.walk.end ≡ 0 → (s.walk.points ≡ 0 → ⊥) → CrossingIn plan.t x
      → Standing plan (walked_stand s (walked plan.room b s.walk x) (s.crossings + 1))
  on_standing b eb st e n c =
      let z : 0 < s.walk.points = omega arith in
      let w = walked_stands plan.room b plan.t s.walk x c (record { triangle_below = st.triangle_in z; edge_most = st.edge_in }) in
      record {
        norms_least = st.norms_least;
        norms_most = st.norms_most;
        points_most = walked-most plan.room b s.walk x st.points_most;
        triangle_in = λ _. w.triangle_below;
        edge_in = w.edge_most;
        crossings_left = λ h _. on_left b eb (st.crossings_left e z) h;
      }

cross_standing : (plan : Plan) (words : List ℕ) (f : List Float) (s : Stand) → Ready plan words → Standing plan s → s.walk.end ≡ 0 → (s.walk.points ≡ 0 → ⊥) → Standing plan (cross_step plan words f s).stand
unfolding cross_step triangles_of neighbours_of
cross_standing plan words f s r st e n =
    on_standing plan s (crossing_of plan words f s) (eqb (s.crossings + 1) (factor * plan.t)) refl st e n
    (crossing_in_lem rule (part f 0 (2 * plan.n)) (part words 0 (3 * plan.t)) (part words (at_neighbours plan.t) (3 * plan.t)) plan.t (part f (at_x plan.n plan.t) plan.n) (neighbour_below r.linked) (part f (at_gradients plan.n plan.t) (2 * plan.t)) plan.step s.walk.position s.walk.triangle s.walk.edge
    (st.triangle_in (omega arith)))

-- ---- any pass

pub step_standing : (plan : Plan) (words : List ℕ) (f : List Float) (s : Stand) → Ready plan words → Standing plan s → Standing plan (step_on plan words f s).stand
step_standing plan words f s r st =
    step_elim (λ (d : Stepped). Standing plan d.stand) plan words f s
    (λ _. st)
    (λ _ e. solve_standing plan words f s st e)
    (λ _ _ _. begin_standing plan words f s r st)
    (λ e _ n. cross_standing plan words f s r st e n)

-- the place's number stays or rises by one
abbrev Follows : Stand → Stand → Type 0
Follows s s' = (s.place ≤ s'.place) × (s'.place ≤ s.place + 1)

solved_place_lem : (plan : Plan) (s : Stand) (f : List Float) (turn : Turn) → Follows s (solved_step plan s f turn).stand
unfolding solved_step
solved_place_lem plan s f halted = omega arith
solved_place_lem plan s f (reached x r norm) = omega arith
solved_place_lem plan s f (moved next norm) = omega arith

set_out_place : (s : Stand) (f : List Float) (k : ℕ) (st : Option Entry) → Follows s (set_out_step s f k st).stand
unfolding set_out_step
set_out_place s f k (Some at) = omega arith
set_out_place s f k None = omega arith

start_place : (plan : Plan) (words : List ℕ) (f : List Float) (s : Stand) (g : Option Point) → Follows s (start_by plan words f s g).stand
start_place plan words f s (Some p) = set_out_place s _ 8 _
start_place plan words f s None = set_out_place s _ 9 _

step_follows : (plan : Plan) (words : List ℕ) (f : List Float) (s : Stand) → Follows s (step_on plan words f s).stand
unfolding solve_step begin_step cross_step
step_follows plan words f s =
    step_elim (λ (d : Stepped). Follows s d.stand) plan words f s
    (λ _. omega arith)
    (λ _ _. solved_place_lem plan s f (turn_of plan words f s))
    (λ _ _ _. start_place plan words f s plan.start)
    (λ _ _ _. omega arith)

pub step_place : (plan : Plan) (words : List ℕ) (f : List Float) (s : Stand) → (step_on plan words f s).stand.place ≤ s.place + 1
step_place plan words f s = (step_follows plan words f s).1

pub step_forth : (plan : Plan) (words : List ℕ) (f : List Float) (s : Stand) → s.place ≤ (step_on plan words f s).stand.place
step_forth plan words f s = (step_follows plan words f s).0

-- ---- passes in a row

module _ (plan : Plan) (words : List ℕ) (w : Work) where
  pub once_standing : Ready plan words → Standing plan w.stand → Standing plan (once plan words w).stand
  unfolding once
  once_standing r st = step_standing plan words (front_of plan w.floats) w.stand r st

  pub once_place : (once plan words w).stand.place ≤ w.stand.place + 1
  unfolding once
  once_place = step_place plan words (front_of plan w.floats) w.stand

  -- one at a finished path changes nothing
  pub once-over : (w.stand.walk.end ≡ 0 → ⊥) → once plan words w ≡ w
  unfolding once
  once-over n = rw (step_over plan words (front_of plan w.floats) w.stand n) (ap (λ (m : List Float). work m w.path w.stand) (take-append-drop (at_norms plan.n plan.t) w.floats))

pub goes_standing : (plan : Plan) (words : List ℕ) (w : Work) → Ready plan words → Standing plan w.stand → (k : ℕ) → Standing plan (goes plan words k w).stand
unfolding goes
goes_standing plan words w r st zero = st
goes_standing plan words w r st (suc k) = once_standing plan words (goes plan words k w) r (goes_standing plan words w r st k)

pub goes_place : (plan : Plan) (words : List ℕ) (w : Work) (k : ℕ) → (goes plan words k w).stand.place ≤ w.stand.place + k
unfolding goes
goes_place plan words w zero = omega arith
goes_place plan words w (suc k) = omega (arith, goes_place plan words w k, once_place plan words (goes plan words k w))

goes_further : (plan : Plan) (words : List ℕ) (w : Work) (i j : ℕ) → ((goes plan words i w).stand.walk.end ≡ 0 → ⊥) → goes plan words (i + j) w ≡ goes plan words i w
unfolding goes
goes_further plan words w i zero n = rw add-zero
goes_further plan words w i (suc j) n = rw add-suc (ap (once plan words) (goes_further plan words w i j n) ∙ once-over plan words (goes plan words i w) n)

pub goes_add : (plan : Plan) (words : List ℕ) (w : Work) (i j : ℕ) → goes plan words (i + j) w ≡ goes plan words j (goes plan words i w)
unfolding goes
goes_add plan words w i zero = rw add-zero
goes_add plan words w i (suc j) = rw add-suc (ap (once plan words) (goes_add plan words w i j))

pub goes_over : (plan : Plan) (words : List ℕ) (w : Work) (i k : ℕ) → i ≤ k → ((goes plan words i w).stand.walk.end ≡ 0 → ⊥) → goes plan words k w ≡ goes plan words i w
goes_over plan words w i k h n =
    let e : i + (k - i) ≡ k = omega arith in
    ap (λ (j : ℕ). goes plan words j w) (sym e) ∙ goes_further plan words w i (k - i) n
