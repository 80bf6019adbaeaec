-- The place sought, on an image: whatever the origin, the image at that place, or at the last place where it lies beyond.
-- Assumes nothing.
use Prim.Native.Nat.{ℕ, suc, ◌+◌, ◌-◌, ◌≤◌, ◌<◌, min}
use Rattle.std.specs.Prelude.{◌≡◌, ◌≢◌, Bool, true, false, not, ◌&&◌, List, eqb, leb, ltb, length, Float, Option, Some, None}
use Rattle.std.proofs.Math.Path.{refl, ap}
use Rattle.std.proofs.Common.{sym, ◌∙◌, leb-true, ltb-true, leb-false, le-leb, eqb-true, ne_eqb}
use Rattle.std.proofs.lemmas.Bool.{false≢true, eqb-false, not-true}
use native.Mathlib.Omega.{arith}
use Rattle.binary64.specs.Number.{pick}
use Rattle.model.specs.Task.{Task, triangle_count}
use Rattle.model.specs.Run.{State, Field, Trail, state, no_trail, at, last_place}
use Rattle.model.specs.Sized.{Sized}
use Rattle.model.specs.SolvedPlace.{solved_place}
use Rattle.model.proofs.RunLaws.{unsolved_trail, solved_at_lem, gradients_stay, solved-le, solved_field, solved_trail, norms_grow}
use Rattle.work.specs.declared.Origin.{Origin}
use Rattle.work.specs.Memory.{Work, once, goes, from_mark, origin_of, to_started, to_solved, to_kept, to_zero, from_origin, seek}
use Rattle.work.specs.StartedLaws.{started_stand, started_path}
use Rattle.image.specs.CallLaws.{and_true}
use Rattle.image.specs.Image.{plan_of, kept_at, mark_of, floats_of, words_of}
use Rattle.image.proofs.ImageLawsLengths.{shaped_at}
use Rattle.image.proofs.ImageLawsPass.{image_of, image_work, work_is}
use Rattle.image.proofs.ImageLawsGoes.{goes-image}
use Rattle.image.proofs.ImageLawsOrigin.{to_solved_lem, to_zero_lem, to_kept_lem}

-- a state by its field and its trail
state_is : (s : State) (f : Field) (t : Trail) → s.field ≡ f → s.trail ≡ t → state f t ≡ s
state_is s f t a b = ap (λ (x : Field). state x t) (sym a) ∙ ap (λ (x : Trail). state s.field x) (sym b)

-- floats have the field and the gradients of a state, and nothing else of it
same_floats : (c : Task) (m : Option ℕ) (floats : List Float) (s s' : State) → s.field ≡ s'.field → s.trail.gradients ≡ s'.trail.gradients → floats_of c s m floats ≡ floats_of c s' m floats
unfolding floats_of
same_floats c m floats s s' e g = rw (e, g)

-- ---- where the field had no end

-- whether the field at p has its end, and had it at a place not past the target
abbrev solved_test : Task → ℕ → ℕ → Bool
solved_test c p target = not (eqb (at c p).field.end 0) && leb (solved_place (at c p).field) target

solved_test_lem : (c : Task) (p target : ℕ) → (at c p).field.end ≢ 0 → solved_place (at c p).field ≤ target → solved_test c p target ≡ true
solved_test_lem c p target n h = rw (ne_eqb (at c p).field.end 0 n, le-leb (solved_place (at c p).field) target h)

-- a place not past the target, where the test fails at a later place
unsolved_kept : (c : Task) (p q target : ℕ) → q ≤ p → q ≤ target → solved_test c p target ≡ false → (at c q).field.end ≡ 0
unsolved_kept c p q target h k e = go (eqb (at c q).field.end 0) refl
  where
    go : (b : Bool) → eqb (at c q).field.end 0 ≡ b → (at c q).field.end ≡ 0
    go true y = eqb-true (at c q).field.end 0 y
    go false y =
        let n : (at c q).field.end ≢ 0 = eqb-false (at c q).field.end 0 y in
        let low : solved_place (at c q).field ≤ q = solved-le c q n in
        let f : (at c p).field ≡ (at c q).field = solved_field c q n p (omega arith) in
        let n' : (at c p).field.end ≢ 0 = λ (x : (at c p).field.end ≡ 0). n (sym (ap (λ (g : Field). g.end) f) ∙ x) in
        let s : solved_place (at c p).field ≡ solved_place (at c q).field = ap solved_place f in
        absurd (false≢true (sym e ∙ solved_test_lem c p target n' (omega arith)))

module _ (c : Task) (z : Sized c) (floats : List Float) (words : List ℕ) (path : List Float) (p target : ℕ) (within : p ≤ last_place c) where
  abbrev E : ℕ
  E = last_place c

  abbrev there : Option ℕ → ℕ → Work
  there m q = image_work c q m floats path

  -- from what an origin leaves
  abbrev onward : Work → Work
  onward w = goes (plan_of c) (words_of c words) (target - w.stand.place) w

  arrived : (m : Option ℕ) (w : Work) (q : ℕ) → w ≡ there m q → q ≤ E → q ≤ target → onward w ≡ there m (min target E)
  arrived m w q e h k =
      let f : min (q + (target - q)) E ≡ min target E = omega arith in
      ap onward e ∙ goes-image c z m floats words path (target - q) q h ∙ ap (there m) f

  -- ---- the origins

  -- the field's end, for a place past it
  back_solved : (m : Option ℕ) → (at c p).field.end ≢ 0 → to_solved (plan_of c) (there m p) ≡ there m (solved_place (at c p).field)
  back_solved m n =
      let q = solved_place (at c p).field in
      let s : state (at c p).field (no_trail (triangle_count c)) ≡ at c q =
      state_is (at c q) (at c p).field (no_trail (triangle_count c)) (solved_field c p n q (omega arith)) (solved_trail c p n) in
      to_solved_lem c z (at c p) (shaped_at c z p) p m floats words path ∙ ap (λ (x : State). image_of c x q m floats path) s

  -- what the start pass from there leaves, but for the gradients, which have not changed
  back_started : (m : Option ℕ) → (at c p).field.end ≢ 0 → solved_place (at c p).field < p → to_started (plan_of c) (words_of c words) (there m p) ≡ there m (suc (solved_place (at c p).field))
  unfolding to_started goes
  back_started m n h =
      let q = solved_place (at c p).field in
      let w = there m p in
      let e : min (q + 1) E ≡ suc q = omega arith in
      let o : once (plan_of c) (words_of c words) (to_solved (plan_of c) w) ≡ there m (suc q) =
      ap (once (plan_of c) (words_of c words)) (back_solved m n) ∙ goes-image c z m floats words path 1 q (omega arith) ∙ ap (there m) e in
      work_is
      (same_floats c m floats (at c p) (at c (suc q)) (sym (solved_field c p n (suc q) (omega arith))) (gradients_stay c q (at c p).field (solved_at_lem c p n).1 p (omega arith)))
      (started_path (plan_of c) (words_of c words) w n ∙ ap (λ (x : Work). x.path) o)
      (started_stand (plan_of c) (words_of c words) w n ∙ ap (λ (x : Work). x.stand) o)

  from-ended : (m : Option ℕ) (b : Bool) → ltb (solved_place (at c p).field) target ≡ b → target < p → solved_test c p target ≡ true
      → onward (from_origin (plan_of c) (words_of c words) (pick b Origin.Started Origin.Solved) (there m p)) ≡ there m (min target E)
  from-ended m b y h e = go b y
    where
      q : ℕ
      q = solved_place (at c p).field

      tests : (not (eqb (at c p).field.end 0) ≡ true) × (leb q target ≡ true)
      tests = and_true (not (eqb (at c p).field.end 0)) (leb q target) e

      n : (at c p).field.end ≢ 0
      n = eqb-false (at c p).field.end 0 (not-true (eqb (at c p).field.end 0) tests.0)

      go : (a : Bool) → ltb q target ≡ a → onward (from_origin (plan_of c) (words_of c words) (pick a Origin.Started Origin.Solved) (there m p)) ≡ there m (min target E)
      go true x =
          let k : q < target = ltb-true q target x in
          arrived m (to_started (plan_of c) (words_of c words) (there m p)) (suc q) (back_started m n (omega arith)) (omega arith) (omega arith)
      go false x =
          let low : q ≤ p = solved-le c p n in
          arrived m (to_solved (plan_of c) (there m p)) q (back_solved m n) (omega arith) (leb-true q target tests.1)

  from_zero : (m : Option ℕ) → onward (to_zero (plan_of c) (words_of c words) (there m p)) ≡ there m (min target E)
  unfolding at
  from_zero m = arrived m (to_zero (plan_of c) (words_of c words) (there m p)) 0 (to_zero_lem c z (at c p) (shaped_at c z p) p m floats words path) (omega arith) (omega arith)

  from_kept : (q : ℕ) → target < p → q ≤ target → solved_test c p target ≡ false → onward (to_kept (plan_of c) (kept_at c q) (there (Some q) p)) ≡ there (Some q) (min target E)
  from_kept q h k e =
      let u : (at c q).field.end ≡ 0 = unsolved_kept c p q target (omega arith) k e in
      let s : state (at c q).field (no_trail (triangle_count c)) ≡ at c q =
      state_is (at c q) (at c q).field (no_trail (triangle_count c)) refl (unsolved_trail c q u) in
      arrived (Some q) (to_kept (plan_of c) (kept_at c q) (there (Some q) p)) q
      (to_kept_lem c z (at c p) (shaped_at c z p) p q floats path (norms_grow c q p (omega arith)) u ∙ ap (λ (x : State). image_of c x q (Some q) floats path) s) (omega arith) k

  -- ---- whichever it is

  abbrev by : Option ℕ → Origin → Work
  by m o = onward (from_origin (plan_of c) (words_of c words) o (there m p))

  by_kept : (q : ℕ) (b : Bool) → target < p → solved_test c p target ≡ false → (leb q target && leb (length (at c q).field.norms) c.limit) ≡ b
      → by (Some q) (pick b (Origin.Kept (kept_at c q)) Origin.Zero) ≡ there (Some q) (min target E)
  by_kept q true h e y = from_kept q h (leb-true q target (and_true (leb q target) (leb (length (at c q).field.norms) c.limit) y).0) e
  by_kept q false h e y = from_zero (Some q)

  by_mark : (m : Option ℕ) → target < p → solved_test c p target ≡ false → by m (from_mark c.limit (mark_of c m) target) ≡ there m (min target E)
  by_mark None h e = from_zero None
  by_mark (Some q) h e = by_kept q (leb q target && leb (length (at c q).field.norms) c.limit) h e refl

  by_any : (m : Option ℕ) (a b : Bool) → leb p target ≡ a → solved_test c p target ≡ b
      → by m (pick a Origin.Here (pick b (pick (ltb (solved_place (at c p).field) target) Origin.Started Origin.Solved) (from_mark c.limit (mark_of c m) target))) ≡ there m (min target E)
  by_any m true b x y = arrived m (there m p) p refl within (leb-true p target x)
  by_any m false true x y = from-ended m (ltb (solved_place (at c p).field) target) refl (leb-false p target x) y
  by_any m false false x y = by_mark m (leb-false p target x) y

  pub seek-image : (m : Option ℕ) → seek (plan_of c) (words_of c words) (mark_of c m) target (there m p) ≡ there m (min target E)
  unfolding seek origin_of
  seek-image m = by_any m (leb p target) (solved_test c p target) refl refl
