-- Dry passes of solving against the passes on the copies: what a pass reads is the same in both, and so is what it leads to. Assumes nothing.
use Prim.Native.Nat.{ℕ, ◌+◌, ◌*◌, ◌≤◌}
use mathlib.Core.Path.{◌≡◌, refl, sym, ap, ap₂, ◌∙◌, subst}
use mathlib.Core.List.{List}
use native.Mathlib.Numerals.{add-one}
use native.Mathlib.Omega.{arith}
use borrow.Author.Tests.{eq-eqb}
use lib.ListN.{length, replicate}
use lib.Seq.{length-take-le}
use lib.Ieee.{Float}
use Rattle.binary64.specs.Constants.{plus_zero}
use Rattle.stretch.specs.Stretch.{part}
use Rattle.stretch.specs.StretchLaws.{length_part, part_part, part_of_take, splice_comm}
use Rattle.sparse.specs.Sparse.{Entry}
use Rattle.sparse.specs.Stored.{matrix, CsrAt}
use Rattle.sparse.specs.ProductLaws.{length-rows_of, matrix_kept}
use Rattle.mesh.specs.Element.{flat}
use Rattle.conjugate.specs.declared.Pass.{Pass}
use Rattle.conjugate.specs.Solver.{Solve, Turn, halted, reached, moved}
use Rattle.conjugate.specs.SolverLaws.{Long, after, after_long}
use Rattle.conjugate.specs.Placed.{InRow, placed, stored_after, answer_of}
use Rattle.conjugate.specs.PlacedLaws.{Holds, holds_placed, stored_placed}
use Rattle.conjugate.specs.Beside.{vectors_of, left_by}
use Rattle.conjugate.specs.BesideLaws.{Vectored, passed_vectored}
use Rattle.pde.specs.declared.Walk.{Walk}
use Rattle.work.specs.declared.Plan.{Plan}
use Rattle.work.specs.declared.Stand.{Stand}
use Rattle.work.specs.Layout.{at_x, at_r, at_p, at_product, at_gradients, at_norms, matrix_at, vectors_at}
use Rattle.work.specs.Memory.{Stepped, vectors_in, solved_step, solve_step, next_of, step_on, front_of, dry}
use Rattle.work.specs.Dry.{dry_at}
use Rattle.work.specs.Ready.{Ready, Standing}
use Rattle.work.specs.StandingLaws.{turn_of, step_standing}
use Rattle.kinds.specs.Solving.{turned_stand}
use Rattle.kinds.specs.SolvingLaws.{solved_turned}
use Rattle.dry.specs.Solving.{turn_on, Turns, Copied, Solved}

-- ---- one pass

turned_place : (plan : Plan) (s : Stand) (a : Pass) → (turned_stand plan s a).place ≡ s.place + 1
turned_place plan s Pass.Halted = refl
turned_place plan s (Pass.Reached norm) = refl
turned_place plan s (Pass.Moved rs norm) = refl

turned_walk : (plan : Plan) (s : Stand) (a : Pass) → (turned_stand plan s a).walk ≡ s.walk
turned_walk plan s Pass.Halted = refl
turned_walk plan s (Pass.Reached norm) = refl
turned_walk plan s (Pass.Moved rs norm) = refl

-- ---- what a pass leaves of a front

module _ (plan : Plan) (f : List Float) (s : Stand) (long : length f ≡ at_norms plan.n plan.t) where
  row : InRow (length f) (vectors_at plan.n plan.t) plan.n
  row = record { r_after = omega arith; p_after = omega arith; product_after = omega arith; ends = omega arith }

  front-placed : (t : Turn) → Long plan.n (after (vectors_in plan.n plan.t f s.rs) t)
      → (solved_step plan s f t).front ≡ placed plan.n f (vectors_at plan.n plan.t) (after (vectors_in plan.n plan.t f s.rs) t)
  unfolding solved_step stored_after placed
  front-placed halted l = stored_placed f plan.n (vectors_at plan.n plan.t) s.rs halted row l
  front-placed (reached x r norm) l = stored_placed f plan.n (vectors_at plan.n plan.t) s.rs (reached x r norm) row l
  front-placed (moved u norm) l =
      sym (splice_comm _ (at_p plan.n plan.t) (at_product plan.n plan.t) u.p (replicate plan.n plus_zero) (omega (arith, l.p_long)))

-- ---- a pass on the front and on the copies

module _ (plan : Plan) (words : List ℕ) (f floats v : List Float) (s : Stand) (c : Copied plan words f floats v) where
  abbrev M : CsrAt
  M = matrix_at plan.n plan.t

  vectors_same : vectors_in plan.n plan.t f s.rs ≡ vectors_of v plan.n s.rs
  vectors_same = rw (c.x_same, c.r_same, c.p_same)

  turn_same : turn_of plan words f s ≡ turn_on plan (matrix words floats (matrix_at plan.n plan.t)) v s
  turn_same = rw (c.matrix-same, vectors_same)

  holds : Holds f (solved_step plan s f (turn_of plan words f s)).front plan.n (vectors_at plan.n plan.t) (after (vectors_in plan.n plan.t f s.rs) (turn_of plan words f s))
  holds =
      let n : ℕ = plan.n in
      let t : ℕ = plan.t in
      let e = c.long in
      let long : Long n (after (vectors_in n t f s.rs) (turn_of plan words f s)) =
      after_long n flat (matrix words f M) plan.tolerance (vectors_in n t f s.rs) (length-rows_of words f M n)
      (record { x_long = length_part f (at_x n t) n (omega arith); r_long = length_part f (at_r n t) n (omega arith); p_long = length_part f (at_p n t) n (omega arith) }) in
      rw (front-placed plan f s e (turn_of plan words f s) long) (holds_placed f n (vectors_at n t) _ (row plan f s e) long)

  copied_again : Ready plan words → 3 * plan.n ≤ length v → Copied plan words (solved_step plan s f (turn_of plan words f s)).front floats (left_by plan.n v (turn_on plan (matrix words floats (matrix_at plan.n plan.t)) v s))
  copied_again r fits =
      let n : ℕ = plan.n in
      let t : ℕ = plan.t in
      let f' : List Float = (solved_step plan s f (turn_of plan words f s)).front in
      let h = holds in
      let w : Vectored (left_by n v (turn_on plan (matrix words floats (matrix_at plan.n plan.t)) v s)) n (after (vectors_of v n s.rs) (turn_on plan (matrix words floats (matrix_at plan.n plan.t)) v s)) =
      passed_vectored words floats M v flat plan.tolerance s.rs fits in
      let same : after (vectors_in n t f s.rs) (turn_of plan words f s) ≡ after (vectors_of v n s.rs) (turn_on plan (matrix words floats (matrix_at plan.n plan.t)) v s) = ap₂ after vectors_same turn_same in
      let x : part f' (at_x n t) n ≡ (after (vectors_of v n s.rs) (turn_on plan (matrix words floats (matrix_at plan.n plan.t)) v s)).x = ap (λ (u : Solve). u.x) (h.vectors ∙ same) in
      let q : part f' (at_r n t) n ≡ (after (vectors_of v n s.rs) (turn_on plan (matrix words floats (matrix_at plan.n plan.t)) v s)).r = ap (λ (u : Solve). u.r) (h.vectors ∙ same) in
      let p : part f' (at_p n t) n ≡ (after (vectors_of v n s.rs) (turn_on plan (matrix words floats (matrix_at plan.n plan.t)) v s)).p = ap (λ (u : Solve). u.p) (h.vectors ∙ same) in
      record {
        matrix-same = matrix_kept words f f' M r.sound (h.before (4 * n) (9 * t + n) (omega arith)) ∙ c.matrix-same;
        vertices_same = h.before 0 (2 * n) (omega arith) ∙ c.vertices_same;
        x_same = x ∙ sym w.x_is;
        r_same = q ∙ sym w.r_is;
        p_same = p ∙ sym w.p_is;
        gradients-same = h.behind (at_gradients n t) (2 * t) (omega arith) ∙ c.gradients-same;
        long = h.as_long ∙ c.long;
      }

  step_solves : s.walk.end ≡ 0 → s.end ≡ 0 → step_on plan words f s ≡ solved_step plan s f (turn_of plan words f s)
  unfolding step_on next_of solve_step
  step_solves e z = rw (eq-eqb s.walk.end 0 e, eq-eqb s.end 0 z)

-- ---- passes in a row

module _ (plan : Plan) (words : List ℕ) (floats : List Float) (s : Stand) where
  pub solved_none : Ready plan words → Standing plan s → s.walk.end ≡ 0 → at_norms plan.n plan.t ≤ length floats → (v : List Float) → v ≡ part floats (at_x plan.n plan.t) (3 * plan.n)
      → Solved plan words floats s 0 s v
  unfolding dry
  solved_none r st e h v is =
      let n : ℕ = plan.n in
      let t : ℕ = plan.t in
      let sub : (at c : ℕ) → c ≡ at_x n t + at → at + n ≤ 3 * n → part floats c n ≡ part v at n =
      λ at c ec k. ap (λ (o : ℕ). part floats o n) ec ∙ sym (part_part floats (at_x n t) (3 * n) at n k) ∙ ap (λ (w : List Float). part w at n) (sym is) in
      let front : (at k : ℕ) → at + k ≤ at_norms n t → part (front_of plan floats) at k ≡ part floats at k = λ at k q. part_of_take floats (at_norms n t) at k q in
      record {
        place = omega arith;
        stand = refl;
        copied = record {
          matrix-same = matrix_kept words floats (front_of plan floats) (matrix_at n t) r.sound (front (4 * n) (9 * t + n) (omega arith));
          vertices_same = front 0 (2 * n) (omega arith);
          x_same = front (at_x n t) n (omega arith) ∙ sub 0 (at_x n t) (omega arith) (omega arith);
          r_same = front (at_r n t) n (omega arith) ∙ sub n (at_r n t) (omega arith) (omega arith);
          p_same = front (at_p n t) n (omega arith) ∙ sub (2 * n) (at_p n t) (omega arith) (omega arith);
          gradients-same = front (at_gradients n t) (2 * t) (omega arith);
          long = length-take-le _ _ h;
        };
        standing = st;
        unended = e;
      }

  pub solved-more : (i : ℕ) (r r' : Stand) (v v' : List Float) (mat : List (List Entry)) → Ready plan words → mat ≡ matrix words floats (matrix_at plan.n plan.t) → 3 * plan.n ≤ length v → r.end ≡ 0
      → Solved plan words floats s i r v → Turns plan mat v r r' v' → Solved plan words floats s (i + 1) r' v'
  unfolding dry
  solved-more i r r' v v' mat rd em fits z d turn =
      let tu : Turns plan (matrix words floats (matrix_at plan.n plan.t)) v r r' v' = rw em at turn in
      let f : List Float = (dry plan words i (dry_at plan floats s)).front in
      let c : Copied plan words f floats v = d.copied in
      let step : step_on plan words f (dry plan words i (dry_at plan floats s)).stand ≡ solved_step plan r f (turn_of plan words f r) =
      ap (step_on plan words f) (sym d.stand) ∙ step_solves plan words f floats v r c d.unended z in
      let stand : (step_on plan words f (dry plan words i (dry_at plan floats s)).stand).stand ≡ r' =
      ap (λ (x : Stepped). x.stand) step
      ∙ solved_turned plan r f (turn_of plan words f r)
      ∙ ap (λ (t : Turn). turned_stand plan r (answer_of t)) (turn_same plan words f floats v r c)
      ∙ sym tu.stand in
      let place : r'.place ≡ r.place + 1 = ap (λ (x : Stand). x.place) tu.stand ∙ turned_place plan r (answer_of (turn_on plan (matrix words floats (matrix_at plan.n plan.t)) v r)) in
      let h = d.place in
      rw add-one (record {
        place = omega arith;
        stand = sym stand;
        copied = rw (ap (λ (x : Stepped). x.front) step, tu.vectors) (copied_again plan words f floats v r c rd fits);
        standing = subst (Standing plan) stand (step_standing plan words f (dry plan words i (dry_at plan floats s)).stand rd (subst (Standing plan) d.stand d.standing));
        unended = ap (λ (x : Stand). x.walk.end) tu.stand ∙ ap (λ (w : Walk). w.end) (turned_walk plan r (answer_of (turn_on plan (matrix words floats (matrix_at plan.n plan.t)) v r))) ∙ d.unended;
      })
