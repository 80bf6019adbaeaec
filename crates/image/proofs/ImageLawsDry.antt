-- Passes counted on the front alone, whatever it holds: no pass changes the front's length, and none depends on the norms or the path, so the stands are those of passes on the whole buffers.
-- Assumes nothing.
use Prim.Native.Nat.{ℕ, zero, suc, ◌+◌, ◌≤◌}
use Rattle.std.specs.Prelude.{◌≡◌, List, [], ◌∷◌, ◌++◌, length, Float, Option, Some, None}
use Rattle.std.proofs.Math.Path.{refl}
use Rattle.std.proofs.Common.{sym, ap, ◌∙◌, arith, length-append, length-drop, length-take-le}
use Rattle.std.proofs.Math.Seq.{take_at}
use Rattle.stretch.specs.StretchLaws.{length-splice, take-splice-before}
use Rattle.sparse.specs.Stored.{matrix}
use Rattle.mesh.specs.Element.{flat}
use Rattle.conjugate.specs.Solver as Solver
use Rattle.conjugate.specs.Solver.{Turn, halted, reached, moved}
use Rattle.model.specs.Run.{Next, over, solve, begin, cross}
use Rattle.work.specs.declared.Plan.{Plan}
use Rattle.work.specs.declared.Stand.{Stand}
use Rattle.work.specs.declared.Gives.{Gives}
use Rattle.work.specs.Layout.{at_norms, matrix_at}
use Rattle.work.specs.Memory.{Stepped, vectors_in, solved_step, set_out_step, solve_step, start_by, begin_step, cross_step, step_by, next_of, step_on, Work, work, floats_given, front_of, beyond_front, once, goes, Dry, dry}
use Rattle.plane.specs.declared.Point.{Point}
use Rattle.pde.specs.declared.Entry.{Entry}

module _ (plan : Plan) (words : List ℕ) where
  -- ---- the front's length

  solved_long : (s : Stand) (f : List Float) (u : Turn) → length (solved_step plan s f u).front ≡ length f
  unfolding solved_step
  solved_long s f halted = simp length-splice
  solved_long s f (reached x r norm) = simp length-splice
  solved_long s f (moved next norm) = simp length-splice

  set_long : (s : Stand) (f : List Float) (k : ℕ) (st : Option Entry) → length (set_out_step s f k st).front ≡ length f
  unfolding set_out_step
  set_long s f k (Some at) = refl
  set_long s f k None = refl

  start_long : (f : List Float) (s : Stand) (g : Option Point) → length (start_by plan words f s g).front ≡ length f
  start_long f s (Some p) = set_long s _ _ _ ∙ length-splice f _ _
  start_long f s None = set_long s _ _ _ ∙ length-splice f _ _

  by_long : (f : List Float) (s : Stand) (x : Next) → length (step_by plan words f s x).front ≡ length f
  unfolding solve_step begin_step cross_step
  by_long f s over = refl
  by_long f s solve = solved_long s f (Solver.pass flat (matrix words f (matrix_at plan.n plan.t)) plan.tolerance (vectors_in plan.n plan.t f s.rs))
  by_long f s begin = start_long f s plan.start
  by_long f s cross = refl

  pub step_long : (f : List Float) (s : Stand) → length (step_on plan words f s).front ≡ length f
  unfolding step_on
  step_long f s = by_long f s (next_of s)

  -- ---- a pass on the whole buffers

  given_long : (s : Stand) (g : Gives) (m : List Float) → length (floats_given plan s g m) ≡ length m
  given_long s Gives.Nothing m = refl
  given_long s (Gives.Norm v) m = length-splice m _ _
  given_long s (Gives.First p) m = refl
  given_long s (Gives.Crossed x) m = refl

  given_front : (s : Stand) (g : Gives) (m : List Float) → front_of plan (floats_given plan s g m) ≡ front_of plan m
  given_front s Gives.Nothing m = refl
  given_front s (Gives.Norm v) m = take-splice-before m (at_norms plan.n plan.t + s.norms) (v ∷ []) (at_norms plan.n plan.t) (omega arith)
  given_front s (Gives.First p) m = refl
  given_front s (Gives.Crossed x) m = refl

  module _ (w : Work) (fits : at_norms plan.n plan.t ≤ length w.floats) where
    abbrev d : Stepped
    d = step_on plan words (front_of plan w.floats) w.stand

    pub front_long : length d.front ≡ at_norms plan.n plan.t
    front_long = step_long (front_of plan w.floats) w.stand ∙ length-take-le (at_norms plan.n plan.t) w.floats fits

    pub joined_long : length (d.front ++ beyond_front plan w.floats) ≡ length w.floats
    joined_long = length-append d.front (beyond_front plan w.floats) ∙ omega (arith, front_long, length-drop (at_norms plan.n plan.t) w.floats)

    pub once_long : length (once plan words w).floats ≡ length w.floats
    unfolding once
    once_long = given_long w.stand d.gives (d.front ++ beyond_front plan w.floats) ∙ joined_long

    once-front : front_of plan (once plan words w).floats ≡ d.front
    unfolding once
    once-front =
        given_front w.stand d.gives (d.front ++ beyond_front plan w.floats) ∙ take_at d.front (beyond_front plan w.floats) (at_norms plan.n plan.t) front_long

    once_stand : (once plan words w).stand ≡ d.stand
    unfolding once
    once_stand = refl

  -- ---- passes in a row

  pub record DryAs (e : Dry) (w : Work) (long : ℕ) : Type 0 where
    pub front : e.front ≡ front_of plan w.floats
    pub stand : e.stand ≡ w.stand
    pub as_long : length w.floats ≡ long

  stepped_as : (e : Dry) (w : Work) (long : ℕ) → at_norms plan.n plan.t ≤ long → DryAs e w long
      → DryAs (record { front = (step_on plan words e.front e.stand).front; stand = (step_on plan words e.front e.stand).stand }) (once plan words w) long
  stepped_as e w long h a =
      let fits : at_norms plan.n plan.t ≤ length w.floats = omega (arith, a.as_long) in
      let same : step_on plan words e.front e.stand ≡ step_on plan words (front_of plan w.floats) w.stand =
      ap (λ (f : List Float). step_on plan words f e.stand) a.front ∙ ap (λ (s : Stand). step_on plan words (front_of plan w.floats) s) a.stand in
      record {
        front = ap (λ (d : Stepped). d.front) same ∙ sym (once-front w fits);
        stand = ap (λ (d : Stepped). d.stand) same ∙ sym (once_stand w fits);
        as_long = once_long w fits ∙ a.as_long;
      }

  dry_as : (w : Work) → at_norms plan.n plan.t ≤ length w.floats → (k : ℕ)
      → DryAs (dry plan words k (record { front = front_of plan w.floats; stand = w.stand })) (goes plan words k w) (length w.floats)
  unfolding dry goes
  dry_as w h zero = record { front = refl; stand = refl; as_long = refl }
  dry_as w h (suc k) = stepped_as (dry plan words k (record { front = front_of plan w.floats; stand = w.stand })) (goes plan words k w) (length w.floats) h (dry_as w h k)

  pub goes_long : (w : Work) → at_norms plan.n plan.t ≤ length w.floats → (k : ℕ) → length (goes plan words k w).floats ≡ length w.floats
  goes_long w h k = (dry_as w h k).as_long

  pub dry-goes : (floats path : List Float) (s : Stand) → at_norms plan.n plan.t ≤ length floats → (k : ℕ)
      → (dry plan words k (record { front = front_of plan floats; stand = s })).stand ≡ (goes plan words k (work floats path s)).stand
  dry-goes floats path s h k = (dry_as (work floats path s) h k).stand
