-- Passes on a front alone lead where passes on the whole buffers lead, whatever the buffers hold: a pass keeps the front's length, and what it gives is written behind the front.
-- Assumes nothing.
use Rattle.std.specs.Prelude.{ℕ, zero, suc, ◌+◌, ◌-◌, ◌≤◌, ◌≡◌, refl, List, [], ◌∷◌, ◌++◌, length, take, drop, Float, Option, Some, None}
use Rattle.std.proofs.Common.{sym, ap, ◌∙◌, arith, add-zero, add-suc}
use Rattle.stretch.specs.StretchLaws.{length-splice, take-splice-before}
use Rattle.conjugate.specs.Solver.{Turn, halted, reached, moved}
use Rattle.work.specs.declared.Gives.{Gives}
use Rattle.work.specs.declared.Plan.{Plan}
use Rattle.work.specs.declared.Stand.{Stand}
use Rattle.work.specs.Layout.{at_norms}
use Rattle.work.specs.Memory.{Stepped, solved_step, set_out_step, solve_step, graded, start_by, begin_step, cross_step, step_on, Work, floats_given, front_of, beyond_front, once, goes, Dry, dry}
use Rattle.work.specs.Dry.{dry_of, dry_at, gain}
use Rattle.work.specs.StandingLaws.{step_elim, step_over, step_forth, turn_of}
use Rattle.plane.specs.declared.Point.{Point}
use Rattle.pde.specs.declared.Entry.{Entry}

-- ---- a pass keeps the front's length

solved-length : (plan : Plan) (s : Stand) (f : List Float) (turn : Turn) → length (solved_step plan s f turn).front ≡ length f
unfolding solved_step
solved-length plan s f halted = simp length-splice
solved-length plan s f (reached x r norm) = simp length-splice
solved-length plan s f (moved next norm) = simp length-splice

set_out-front : (s : Stand) (f : List Float) (k : ℕ) (st : Option Entry) → (set_out_step s f k st).front ≡ f
unfolding set_out_step
set_out-front s f k (Some at) = refl
set_out-front s f k None = refl

pub start-front : (plan : Plan) (words : List ℕ) (f : List Float) (s : Stand) (g : Option Point) → (start_by plan words f s g).front ≡ graded plan words f s
start-front plan words f s (Some p) = set_out-front s (graded plan words f s) 8 _
start-front plan words f s None = set_out-front s (graded plan words f s) 9 _

pub step_length : (plan : Plan) (words : List ℕ) (f : List Float) (s : Stand) → length (step_on plan words f s).front ≡ length f
unfolding solve_step begin_step cross_step
step_length plan words f s =
    step_elim (λ (d : Stepped). length d.front ≡ length f) plan words f s
    (λ _. refl)
    (λ _ _. solved-length plan s f (turn_of plan words f s))
    (λ _ _ _. ap length (start-front plan words f s plan.start) ∙ length-splice f _ _)
    (λ _ _ _. refl)

-- ---- a pass on the whole floats leaves the same front

-- a front as long as the one taken is what is taken again
front_again : {A : Type 0} (k : ℕ) (f m : List A) → length f ≡ length (take k m) → take k (f ++ drop k m) ≡ f
front_again zero [] m e = refl
front_again zero (x ∷ f) m e = absurd (omega arith)
front_again (suc k) [] [] e = refl
front_again (suc k) (x ∷ f) [] e = absurd (omega arith)
front_again (suc k) [] (y ∷ m) e = absurd (omega arith)
front_again (suc k) (x ∷ f) (y ∷ m) e = ap (λ r. x ∷ r) (front_again k f m (omega arith))

given_front : (plan : Plan) (s : Stand) (g : Gives) (m : List Float) → front_of plan (floats_given plan s g m) ≡ front_of plan m
given_front plan s Gives.Nothing m = refl
given_front plan s (Gives.Norm v) m = take-splice-before m (at_norms plan.n plan.t + s.norms) (v ∷ []) (at_norms plan.n plan.t) (omega arith)
given_front plan s (Gives.First p) m = refl
given_front plan s (Gives.Crossed x) m = refl

once-front : (plan : Plan) (words : List ℕ) (w : Work) → front_of plan (once plan words w).floats ≡ (step_on plan words (front_of plan w.floats) w.stand).front
unfolding once
once-front plan words w =
    let d = step_on plan words (front_of plan w.floats) w.stand in
    given_front plan w.stand d.gives (d.front ++ beyond_front plan w.floats)
    ∙ front_again (at_norms plan.n plan.t) d.front w.floats (step_length plan words (front_of plan w.floats) w.stand)

-- ---- dry passes

-- one pass on a front
abbrev dry_once : Plan → List ℕ → Dry → Dry
dry_once plan words d = dry_of (step_on plan words d.front d.stand).front (step_on plan words d.front d.stand).stand

once-dry : (plan : Plan) (words : List ℕ) (w : Work) → dry_once plan words (dry_at plan w.floats w.stand) ≡ dry_at plan (once plan words w).floats (once plan words w).stand
unfolding once
once-dry plan words w = ap (λ (f : List Float). dry_of f (once plan words w).stand) (sym (once-front plan words w))

-- the dry passes lead where the passes do
pub dry-goes : (plan : Plan) (words : List ℕ) (k : ℕ) (w : Work)
    → dry plan words k (dry_at plan w.floats w.stand) ≡ dry_at plan (goes plan words k w).floats (goes plan words k w).stand
unfolding dry goes
dry-goes plan words zero w = refl
dry-goes plan words (suc k) w = ap (dry_once plan words) (dry-goes plan words k w) ∙ once-dry plan words (goes plan words k w)

pub dry_stand : (plan : Plan) (words : List ℕ) (k : ℕ) (w : Work) → (dry plan words k (dry_at plan w.floats w.stand)).stand ≡ (goes plan words k w).stand
dry_stand plan words k w = ap (λ (d : Dry). d.stand) (dry-goes plan words k w)

-- an advance's gain is what a dry count tells
pub gain-goes : (plan : Plan) (words : List ℕ) (k : ℕ) (w : Work) → gain plan words k w.floats w.stand ≡ (goes plan words k w).stand.place - w.stand.place
gain-goes plan words k w = ap (λ (s : Stand). s.place - w.stand.place) (dry_stand plan words k w)

pub dry_forth : (plan : Plan) (words : List ℕ) (d : Dry) (k : ℕ) → d.stand.place ≤ (dry plan words k d).stand.place
unfolding dry
dry_forth plan words d zero = omega arith
dry_forth plan words d (suc k) = omega (arith, dry_forth plan words d k, step_forth plan words (dry plan words k d).front (dry plan words k d).stand)

-- passes after passes
pub dry_add : (plan : Plan) (words : List ℕ) (d : Dry) (i j : ℕ) → dry plan words (i + j) d ≡ dry plan words j (dry plan words i d)
unfolding dry
dry_add plan words d i zero = rw add-zero
dry_add plan words d i (suc j) = rw add-suc (ap (dry_once plan words) (dry_add plan words d i j))

-- a pass at a finished path changes nothing
dry_once-over : (plan : Plan) (words : List ℕ) (d : Dry) → (d.stand.walk.end ≡ 0 → ⊥) → dry_once plan words d ≡ d
dry_once-over plan words d n = ap (λ (e : Stepped). dry_of e.front e.stand) (step_over plan words d.front d.stand n)

dry_further : (plan : Plan) (words : List ℕ) (d : Dry) (i j : ℕ) → ((dry plan words i d).stand.walk.end ≡ 0 → ⊥) → dry plan words (i + j) d ≡ dry plan words i d
unfolding dry
dry_further plan words d i zero n = rw add-zero
dry_further plan words d i (suc j) n = rw add-suc (ap (dry_once plan words) (dry_further plan words d i j n) ∙ dry_once-over plan words (dry plan words i d) n)

pub dry-over : (plan : Plan) (words : List ℕ) (d : Dry) (i k : ℕ) → i ≤ k → ((dry plan words i d).stand.walk.end ≡ 0 → ⊥) → dry plan words k d ≡ dry plan words i d
dry-over plan words d i k h n =
    let e : i + (k - i) ≡ k = omega arith in
    ap (λ (j : ℕ). dry plan words j d) (sym e) ∙ dry_further plan words d i (k - i) n
