-- Back to where the path started: path and stand are those of the start pass from the field's end, whose gradients do not bear on the start. Assumes nothing.
use Rattle.std.specs.Prelude.{ℕ, ◌+◌, ◌*◌, ◌≤◌, ◌≡◌, refl, List, replicate, Float, Option, Some, None}
use Rattle.std.proofs.Math.Path.{sym}
use Rattle.std.proofs.Common.{ap, ◌∙◌, arith, ne_eqb}
use Rattle.binary64.specs.Constants.{plus_zero}
use Rattle.stretch.specs.Stretch.{part}
use Rattle.stretch.specs.StretchLaws.{part_of_take, part_splice-before}
use Rattle.model.specs.SolvedPlace.{solved_at}
use Rattle.work.specs.declared.Gives.{Gives}
use Rattle.work.specs.declared.Plan.{Plan}
use Rattle.work.specs.declared.Stand.{Stand}
use Rattle.work.specs.Layout.{at_x, at_gradients, at_norms}
use Rattle.work.specs.Memory.{Stepped, set_out_step, graded, start_by, begin_step, next_of, step_on, Work, front_of, floats_given, path_given, once, pathless, path_erased, gradients_erased, to_solved, to_started}
use Rattle.work.specs.Kinds.{found_by, lost_by}
use Rattle.plane.specs.declared.Point.{Point}
use Rattle.pde.specs.declared.Entry.{Entry}

-- a start pass gives no norm
set_out_floats : (plan : Plan) (s s' : Stand) (f : List Float) (k : ℕ) (st : Option Entry) (m : List Float) → floats_given plan s' (set_out_step s f k st).gives m ≡ m
unfolding set_out_step
set_out_floats plan s s' f k (Some at) m = refl
set_out_floats plan s s' f k None m = refl

-- the front that a start pass leaves does not bear on its stand or on what it gives
pub set_out-same : (s : Stand) (f f' : List Float) (k : ℕ) (st : Option Entry) → ((set_out_step s f k st).stand ≡ (set_out_step s f' k st).stand) × ((set_out_step s f k st).gives ≡ (set_out_step s f' k st).gives)
unfolding set_out_step
set_out-same s f f' k (Some at) = (refl, refl)
set_out-same s f f' k None = (refl, refl)

pub start_is : (plan : Plan) (words : List ℕ) (f : List Float) (s : Stand) (g : Option Point) → start_by plan words f s g ≡ set_out_step s (graded plan words f s) (lost_by g) (found_by plan words f g)
start_is plan words f s (Some p) = refl
start_is plan words f s None = refl

pub start_floats : (plan : Plan) (words : List ℕ) (f : List Float) (s : Stand) (g : Option Point) (m : List Float) → floats_given plan s (start_by plan words f s g).gives m ≡ m
start_floats plan words f s g m =
    ap (λ (d : Stepped). floats_given plan s d.gives m) (start_is plan words f s g)
    ∙ set_out_floats plan s s (graded plan words f s) (lost_by g) (found_by plan words f g) m

module _ (plan : Plan) (words : List ℕ) (m : List Float) where
  abbrev n : ℕ
  n = plan.n

  abbrev t : ℕ
  t = plan.t

  -- what lies before the gradients
  same_part : (at k : ℕ) → at + k ≤ at_gradients n t → part (front_of plan (gradients_erased plan m)) at k ≡ part (front_of plan m) at k
  same_part at k h =
      part_of_take (gradients_erased plan m) (at_norms n t) at k (omega arith)
      ∙ part_splice-before m (at_gradients n t) (replicate (2 * t) plus_zero) at k h
      ∙ sym (part_of_take m (at_norms n t) at k (omega arith))

  same_found : (g : Option Point) → found_by plan words (front_of plan (gradients_erased plan m)) g ≡ found_by plan words (front_of plan m) g
  same_found (Some p) = rw (same_part 0 (2 * n) (omega arith))
  same_found None = rw (same_part 0 (2 * n) (omega arith), same_part (at_x n t) n (omega arith))

  same_start : (s : Stand) (g : Option Point)
      → ((start_by plan words (front_of plan (gradients_erased plan m)) s g).stand ≡ (start_by plan words (front_of plan m) s g).stand) × ((start_by plan words (front_of plan (gradients_erased plan m)) s g).gives ≡ (start_by plan words (front_of plan m) s g).gives)
  same_start s g =
      let a = start_is plan words (front_of plan (gradients_erased plan m)) s g in
      let b = start_is plan words (front_of plan m) s g in
      let found = same_found g in
      let f = graded plan words (front_of plan (gradients_erased plan m)) s in
      let same = set_out-same s f (graded plan words (front_of plan m) s) (lost_by g) (found_by plan words (front_of plan m) g) in (
        ap (λ (d : Stepped). d.stand) a ∙ ap (λ (x : Option Entry). (set_out_step s f (lost_by g) x).stand) found ∙ same.0 ∙ sym (ap (λ (d : Stepped). d.stand) b),
        ap (λ (d : Stepped). d.gives) a ∙ ap (λ (x : Option Entry). (set_out_step s f (lost_by g) x).gives) found ∙ same.1 ∙ sym (ap (λ (d : Stepped). d.gives) b),
      )

module _ (plan : Plan) (words : List ℕ) (w : Work) (solved : w.stand.end ≡ 0 → ⊥) where
  abbrev from : Stand
  from = pathless (solved_at w.stand.norms w.stand.end) w.stand.rs w.stand.norms w.stand.end

  next_step : step_on plan words (front_of plan (gradients_erased plan w.floats)) from ≡ start_by plan words (front_of plan (gradients_erased plan w.floats)) from plan.start
  unfolding step_on next_of begin_step
  next_step = rw (ne_eqb w.stand.end 0 solved)

  pub started_stand : (to_started plan words w).stand ≡ (once plan words (to_solved plan w)).stand
  unfolding to_started to_solved once
  started_stand = sym (ap (λ (d : Stepped). d.stand) next_step ∙ (same_start plan words w.floats from plan.start).0)

  pub started_path : (to_started plan words w).path ≡ (once plan words (to_solved plan w)).path
  unfolding to_started to_solved once
  started_path = sym (ap (λ (g : Gives). path_given plan from g (path_erased w.stand w.path)) (ap (λ (d : Stepped). d.gives) next_step ∙ (same_start plan words w.floats from plan.start).1))
