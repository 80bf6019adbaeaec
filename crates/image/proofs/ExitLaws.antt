-- The ways in which a call ends, for any record and buffers: refused for what they hold, refused for the call, or done; and what an advance gains, counted before it is made. Assumes nothing.
use Rattle.std.specs.Prelude.{ℕ, ◌+◌, ◌-◌, ◌≤◌, ◌<◌, min, ◌≡◌, Bool, true, false, List, [], ltb, Float, Result, IsErrAnd, Some, None}
use Rattle.std.proofs.Math.Path.{refl, sym, ap}
use Rattle.std.proofs.Common.{◌∙◌, arith}
use Rattle.std.proofs.lemmas.Result.{err_from_is_err_and}
use borrow.Author.Tests.{le-leb, le-ltb, lt-ltb, ltb-true, ltb-false, ne_eqb}
use Rattle.binary64.specs.Number.{pick}
use Rattle.format.specs.Content.{max_triangles, max_limit}
use Rattle.model.specs.Space.{farthest}
use Rattle.model.specs.Machine.{Call, advance, back, mark, return, most}
use Rattle.work.specs.declared.Plan.{Plan}
use Rattle.work.specs.declared.Stand.{Stand}
use Rattle.work.specs.declared.Kept.{Kept}
use Rattle.work.specs.declared.Run.{Run}
use Rattle.work.specs.Memory.{work, origin_of, goes, seek, kept_floats, kept_of}
use Rattle.work.specs.Dry.{dry_at, gain, Counts}
use Rattle.work.specs.DryLaws.{dry_stand, dry_forth, gain-goes}
use Rattle.work.specs.Ready.{Comes}
use Rattle.work.specs.Seek.{Seeks}
use Rattle.work.specs.StandingLaws.{goes_place}
use Rattle.refusal.specs.declared.Refusal.{Refusal}
use Rattle.refusal.specs.Refusal.{number_of}
use Rattle.image.specs.Answer.{Answer}
use Rattle.image.specs.Accepted.{Accepted}
use Rattle.image.specs.Exits.{moved_run, over_fault}
use Rattle.image.proofs.AcceptedLaws.{accepted, then_first, then_second}
use Rattle.image.proofs.RefusalLaws.{refuses_some}
use Rattle.image.specs.Calls.{Buffers, buffers, answered, answer_of, held_fault, work_of, sought_at, mark_place, gone, late_fault, fault, next_run, run_after, buffers_after, Does}

-- ---- the exits of a call

module _ (c : Call) (r : Run) (b : Buffers) where
  unchanged : (e : ℕ) (a : Answer) → a ≡ answered e r → fault c r b ≡ e → (e ≡ 0 → ⊥) → Does c r b a b
  unfolding run_after buffers_after
  unchanged e a q f n = rw q (record { said = sym f; left = rw (f, ne_eqb e 0 n); held = rw (f, ne_eqb e 0 n) })

  -- refused for what the record and the buffers hold
  pub does_early : (e : ℕ) (a : Answer) → a ≡ answered e r → e ≡ held_fault r b → (e ≡ 0 → ⊥) → Does c r b a b
  unfolding fault
  does_early e a q h n = unchanged e a q (then_first (held_fault r b) (late_fault c r b) (λ (z : held_fault r b ≡ 0). n (h ∙ z)) ∙ sym h) n

  -- refused for the call
  pub does_late : (e : ℕ) (a : Answer) → a ≡ answered e r → held_fault r b ≡ 0 → e ≡ late_fault c r b → (e ≡ 0 → ⊥) → Does c r b a b
  unfolding fault
  does_late e a q h l n = unchanged e a q (then_second (held_fault r b) (late_fault c r b) h ∙ sym l) n

  -- an outcome that hands on a refusal
  pub refused_early : (e : Refusal) (left : Result Run Refusal) → IsErrAnd left (λ y. y ≡ e) → number_of e ≡ held_fault r b → Does c r b (answer_of r left) b
  refused_early e left w h =
      let p = err_from_is_err_and left w in
      rw (p.1, p.2) (does_early (number_of e) (answered (number_of e) r) refl h (refuses_some e))

  -- done
  pub does_next : (r' : Run) (floats path : List Float) → held_fault r b ≡ 0 → late_fault c r b ≡ 0 → r' ≡ next_run c r b
      → floats ≡ (gone c r b).floats → path ≡ (gone c r b).path → Does c r b (answered 0 r') (buffers floats b.words path)
  unfolding fault run_after buffers_after
  does_next r' floats path h l e f p =
      let z : fault c r b ≡ 0 = then_second (held_fault r b) (late_fault c r b) h ∙ l in
      record { said = sym z; left = rw (h, l) e; held = rw (h, l, f, p) }

-- ---- what an advance gains

-- the test of a sum that would not fit, by a difference that does
pub over_test : (passes more : ℕ) → more ≤ most → ltb (most - more) passes ≡ ltb most (passes + more)
over_test passes more h = go (ltb (most - more) passes) refl
  where
    go : (t : Bool) → ltb (most - more) passes ≡ t → t ≡ ltb most (passes + more)
    go true e = let k : most - more < passes = ltb-true (most - more) passes e in sym (lt-ltb most (passes + more) (omega arith))
    go false e = let k : passes ≤ most - more = ltb-false (most - more) passes e in sym (le-ltb most (passes + more) (omega arith))

-- what a test of a gain answers
pub over_says : (passes more count : ℕ) (test told : Bool) → more ≡ count → test ≡ ltb most (passes + more) → test ≡ told → pick told 10 0 ≡ over_fault passes count
over_says passes more count test told e f t = rw (← e, ← f, t)

-- a gain that is not too much fits
pub not_over : (passes more : ℕ) → over_fault passes more ≡ 0 → passes + more ≤ most
not_over passes more e = go (ltb most (passes + more)) refl e
  where
    go : (t : Bool) → ltb most (passes + more) ≡ t → pick {A = ℕ} t 10 0 ≡ 0 → passes + more ≤ most
    go true t z = absurd (omega arith)
    go false t z = ltb-false most (passes + more) t

-- a count of k passes gains at most k
gain-most : (plan : Plan) (words : List ℕ) (k : ℕ) (m : List Float) (s : Stand) → gain plan words k m s ≤ k
gain-most plan words k m s = rw (gain-goes plan words k (work m [] s)) (omega (arith, goes_place plan words (work m [] s) k))

-- where k more would not be too much, no count of k passes is
pub gain-fits : (plan : Plan) (words : List ℕ) (k : ℕ) (m : List Float) (s : Stand) (passes : ℕ) → ltb most (passes + k) ≡ false → 0 ≡ over_fault passes (gain plan words k m s)
gain-fits plan words k m s passes e =
    let h : passes + k ≤ most = ltb-false most (passes + k) e in
    let g : gain plan words k m s ≤ k = gain-most plan words k m s in
    rw (le-ltb most (passes + gain plan words k m s) (omega arith))

module _ (r : Run) (b : Buffers) (target : ℕ) (h : r.stand.place ≤ target) where
  on_from_here : sought_at r b target ≡ goes r.plan b.words (target - r.stand.place) (work_of r b)
  unfolding seek origin_of
  on_from_here = rw (le-leb r.stand.place target h)

  pub sought_least : r.stand.place ≤ (sought_at r b target).stand.place
  sought_least =
      rw (on_from_here, ← dry_stand r.plan b.words (target - r.stand.place) (work_of r b))
      (dry_forth r.plan b.words (dry_at r.plan b.floats r.stand) (target - r.stand.place))

  -- the dry count is the gain
  pub gain_sought : gain r.plan b.words (target - r.stand.place) b.floats r.stand ≡ (sought_at r b target).stand.place - r.stand.place
  gain_sought = rw on_from_here (gain-goes r.plan b.words (target - r.stand.place) (work_of r b))

-- ---- each call's exits

-- what a record and buffers that refuse nothing have
pub admitted : (r : Run) (b : Buffers) → 0 ≡ held_fault r b → Accepted r b
admitted r b h = accepted r b (sym h)

module _ (r : Run) (b : Buffers) (cleared : 0 ≡ held_fault r b) where
  z : held_fault r b ≡ 0
  z = sym cleared

  -- where an advance seeks
  abbrev pub ahead_of : ℕ → ℕ
  ahead_of k = min (r.stand.place + k) (farthest r.plan.t r.plan.limit)

  module _ (k target : ℕ) (e : target ≡ ahead_of k) where
    -- what refuses what is gained until there
    abbrev pub gained_fault : ℕ
    gained_fault = over_fault r.passes (gain r.plan b.words (target - r.stand.place) b.floats r.stand)

    ahead : r.stand.place ≤ target
    ahead = let i : Accepted r b = accepted r b z in omega (arith, i.place_in)

    late_is : gained_fault ≡ late_fault (advance k) r b
    unfolding gone
    late_is = ap (over_fault r.passes) (gain_sought r b target ahead) ∙ ap (λ (j : ℕ). over_fault r.passes ((sought_at r b j).stand.place - r.stand.place)) e

    pub advance_late : (late : ℕ) → late ≡ gained_fault → (a : Answer) → a ≡ answered late r → (late ≡ 0 → ⊥) → Does (advance k) r b a b
    advance_late late l a q n = does_late (advance k) r b late a q z (l ∙ late_is) n

    pub advance_refused : (x : Refusal) (left : Result Run Refusal) → IsErrAnd left (λ y. y ≡ x) → number_of x ≡ gained_fault → Does (advance k) r b (answer_of r left) b
    advance_refused x left w h =
        let p = err_from_is_err_and left w in
        rw (p.1, p.2) (advance_late (number_of x) h (answered (number_of x) r) refl (refuses_some x))

    module _ (s : Stand) (floats path : List Float) (w : Comes (sought_at r b target) s floats path) where
      -- the place rises, and the count fits
      pub advance_rises : r.stand.place ≤ s.place
      advance_rises = rw w.stand (sought_least r b target ahead)

      pub advance_fits : 0 ≡ gained_fault → r.passes + (s.place - r.stand.place) ≤ most
      advance_fits y = rw (w.stand, ← gain_sought r b target ahead) (not_over r.passes _ (sym y))

      pub advance_done : (r' : Run) → r' ≡ moved_run r s (r.passes + (s.place - r.stand.place)) → 0 ≡ gained_fault
          → Does (advance k) r b (answered 0 r') (buffers floats b.words path)
      unfolding next_run gone
      advance_done r' m y =
          does_next (advance k) r b r' floats path z (sym (y ∙ late_is)) (m ∙ rw (w.stand, e)) (w.floats ∙ ap (λ (j : ℕ). (sought_at r b j).floats) e)
          (w.path ∙ ap (λ (j : ℕ). (sought_at r b j).path) e)

  module _ (s : Stand) (floats path : List Float) (r' : Run) (m : r' ≡ moved_run r s r.passes) where
    pub back_done : (k target : ℕ) → target ≡ r.stand.place - k → Comes (sought_at r b target) s floats path → Does (back k) r b (answered 0 r') (buffers floats b.words path)
    unfolding next_run gone
    back_done k target e w =
        does_next (back k) r b r' floats path z refl (m ∙ rw (w.stand, e)) (w.floats ∙ ap (λ (j : ℕ). (sought_at r b j).floats) e)
        (w.path ∙ ap (λ (j : ℕ). (sought_at r b j).path) e)

    pub return_done : (k : Kept) → r.mark ≡ Some k → Comes (sought_at r b k.place) s floats path → Does return r b (answered 0 r') (buffers floats b.words path)
    unfolding next_run gone
    return_done k e w =
        let t : k.place ≡ mark_place r.mark r.stand.place = rw e in
        does_next return r b r' floats path z (rw e) (m ∙ rw (w.stand, t)) (w.floats ∙ ap (λ (j : ℕ). (sought_at r b j).floats) t)
        (w.path ∙ ap (λ (j : ℕ). (sought_at r b j).path) t)

  pub return_late : r.mark ≡ None → Does return r b (answered 9 r) b
  return_late e = does_late return r b 9 (answered 9 r) refl z (rw e) (λ y. omega (arith, y))

  pub mark_done : (floats : List Float) → floats ≡ kept_floats r.plan b.floats
      → Does mark r b (answered 0 (record { plan = r.plan; stand = r.stand; mark = Some (kept_of r.stand); passes = r.passes })) (buffers floats b.words b.path)
  unfolding next_run gone
  mark_done floats f = does_next mark r b _ floats b.path z refl refl f refl

-- ---- what the way to a place, and its dry count, ask

module _ (r : Run) (b : Buffers) (i : Accepted r b) (target : ℕ) (h : target ≤ farthest r.plan.t r.plan.limit) where
  pub seeks_of : Seeks r.plan b.words r.stand r.mark target b.floats b.path
  seeks_of = record { ready = i.ready; standing = i.standing; roomy = i.roomy; keeping = i.keeping; near = h }

  pub counts_of : r.stand.place ≤ target → Counts r.plan b.words r.stand (target - r.stand.place) b.floats
  counts_of k =
      let x : r.plan.t ≤ max_triangles = i.ready.t_most in
      let y : r.plan.limit ≤ max_limit = i.ready.limit-most in
      record { ready = i.ready; standing = i.standing; near = omega arith; floats_fit = i.roomy.floats_fit }
