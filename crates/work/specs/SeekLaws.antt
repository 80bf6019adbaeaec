-- The way to a place starts at or before it, with the counts of a place in their ranges; so it comes to the place or to the path's end before it. Assumes nothing.
use Rattle.std.specs.Prelude.{ℕ, zero, suc, ◌+◌, ◌-◌, ◌≤◌, ◌<◌, ◌≡◌, refl, Bool, true, false, ◌&&◌, not, List, eqb, leb, ltb, Float, Option, Some, None}
use Rattle.std.proofs.Common.{sym, arith, leb-true, ltb-true, le-leb}
use Rattle.std.proofs.Math.Path.{ap, subst}
use Rattle.std.proofs.lemmas.Bool.{eqb-false, not-true}
use Rattle.binary64.specs.Number.{pick}
use Rattle.model.specs.SolvedPlace.{solved_at}
use Rattle.work.specs.declared.Plan.{Plan}
use Rattle.work.specs.declared.Stand.{Stand}
use Rattle.work.specs.declared.Kept.{Kept}
use Rattle.work.specs.declared.Origin.{Origin}
use Rattle.work.specs.Memory.{Work, pathless, from_mark, origin_of, to_started, to_solved, to_kept, to_zero, from_origin, once, goes, seek}
use Rattle.work.specs.Ready.{Ready, Standing, Keeping, MarkKeeping}
use Rattle.work.specs.StandingLaws.{once_standing, once_place, goes_standing, goes_place}
use Rattle.work.specs.StartedLaws.{started_stand}

-- ---- from where a place is sought

pick_both : {A : Type 0} (P : A → Type 0) (a b : Bool) (x y : A) → (a ≡ true → b ≡ true → P x) → P y → P (pick (a && b) x y)
pick_both P true true x y p q = p refl refl
pick_both P true false x y p q = q
pick_both P false b x y p q = q

from_mark_elim : (P : Origin → Type 0) (limit : ℕ) (mark : Option Kept) (target : ℕ)
    → ((k : Kept) → mark ≡ Some k → k.place ≤ target → k.norms ≤ limit → P (Origin.Kept k)) → P Origin.Zero → P (from_mark limit mark target)
from_mark_elim P limit None target kept none = none
from_mark_elim P limit (Some k) target kept none =
    pick_both P (leb k.place target) (leb k.norms limit) (Origin.Kept k) Origin.Zero (λ a b. kept k refl (leb-true _ _ a) (leb-true _ _ b)) none

pub origin_elim : (P : Origin → Type 0) (limit : ℕ) (s : Stand) (mark : Option Kept) (target : ℕ)
    → (s.place ≤ target → P Origin.Here)
    → ((s.end ≡ 0 → ⊥) → solved_at s.norms s.end < target → P Origin.Started)
    → ((s.end ≡ 0 → ⊥) → solved_at s.norms s.end ≤ target → P Origin.Solved)
    → ((k : Kept) → mark ≡ Some k → k.place ≤ target → k.norms ≤ limit → P (Origin.Kept k))
    → P Origin.Zero
    → P (origin_of limit s mark target)
unfolding origin_of
origin_elim P limit s mark target here started solved kept none = go (leb s.place target) refl
  where
    ended : (s.end ≡ 0 → ⊥) → solved_at s.norms s.end ≤ target → (b : Bool) → ltb (solved_at s.norms s.end) target ≡ b → P (pick b Origin.Started Origin.Solved)
    ended n h true e = started n (ltb-true _ _ e)
    ended n h false e = solved n h

    later : P (pick (not (eqb s.end 0) && leb (solved_at s.norms s.end) target) (pick (ltb (solved_at s.norms s.end) target) Origin.Started Origin.Solved) (from_mark limit mark target))
    later =
        pick_both P (not (eqb s.end 0)) (leb (solved_at s.norms s.end) target) (pick (ltb (solved_at s.norms s.end) target) Origin.Started Origin.Solved) (from_mark limit mark target)
        (λ a b. ended (eqb-false _ _ (not-true _ a)) (leb-true _ _ b) (ltb (solved_at s.norms s.end) target) refl) (from_mark_elim P limit mark target kept none)

    go : (b : Bool) → leb s.place target ≡ b
        → P (pick b Origin.Here (pick (not (eqb s.end 0) && leb (solved_at s.norms s.end) target) (pick (ltb (solved_at s.norms s.end) target) Origin.Started Origin.Solved) (from_mark limit mark target)))
    go true e = here (leb-true _ _ e)
    go false e = later

-- ---- what stands there

pathless_standing : (plan : Plan) (place : ℕ) (rs : Float) (norms e : ℕ) → 1 ≤ norms → norms ≤ plan.limit + pick (eqb e 0) 0 1 → Standing plan (pathless place rs norms e)
pathless_standing plan place rs norms e h k = record {
  norms_least = h;
  norms_most = k;
  points_most = omega arith;
  triangle_in = λ z. absurd (omega arith);
  edge_in = omega arith;
  crossings_left = λ _ z. absurd (omega arith);
}

first_norm : (limit : ℕ) → 1 ≤ limit + pick (eqb (pick {A = ℕ} (eqb limit 0) 3 0) 0) 0 1
first_norm zero = omega arith
first_norm (suc limit) = omega arith

module _ (plan : Plan) (words : List ℕ) (mark : Option Kept) (target : ℕ) (w : Work) where
  pub from_place : (from_origin plan words (origin_of plan.limit w.stand mark target) w).stand.place ≤ target
  unfolding to_solved to_kept to_zero
  from_place =
      origin_elim (λ (o : Origin). (from_origin plan words o w).stand.place ≤ target) plan.limit w.stand mark target
      (λ h. h)
      (λ n h. let e : (to_started plan words w).stand.place ≡ (once plan words (to_solved plan w)).stand.place = ap (λ (s : Stand). s.place) (started_stand plan words w n) in
      let l : (once plan words (to_solved plan w)).stand.place ≤ solved_at w.stand.norms w.stand.end + 1 = once_place plan words (to_solved plan w) in
      omega arith)
      (λ _ h. h) (λ k _ h _. h) (omega arith)

  pub from_standing : Ready plan words → Standing plan w.stand → MarkKeeping plan mark → Standing plan (from_origin plan words (origin_of plan.limit w.stand mark target) w).stand
  unfolding to_solved to_kept to_zero
  from_standing r st m =
      origin_elim (λ (o : Origin). Standing plan (from_origin plan words o w).stand) plan.limit w.stand mark target
      (λ _. st)
      (λ n _. subst (Standing plan) (sym (started_stand plan words w n)) (once_standing plan words (to_solved plan w) r (pathless_standing plan _ _ w.stand.norms w.stand.end st.norms_least st.norms_most)))
      (λ _ _. pathless_standing plan _ _ w.stand.norms w.stand.end st.norms_least st.norms_most)
      (λ k e _ h. let g : Keeping plan k = rw e at m in pathless_standing plan _ _ k.norms 0 g.least (omega arith))
      (pathless_standing plan _ _ 1 _ (omega arith) (first_norm plan.limit))

  pub seek_standing : Ready plan words → Standing plan w.stand → MarkKeeping plan mark → Standing plan (seek plan words mark target w).stand
  unfolding seek
  seek_standing r st m =
      let o = from_origin plan words (origin_of plan.limit w.stand mark target) w in
      goes_standing plan words o r (from_standing r st m) (target - o.stand.place)

  pub seek_place : (seek plan words mark target w).stand.place ≤ target
  unfolding seek
  seek_place =
      let o = from_origin plan words (origin_of plan.limit w.stand mark target) w in
      let h : o.stand.place ≤ target = from_place in
      omega (arith, goes_place plan words o (target - o.stand.place))

  -- a place not before the present one is reached by passes from here
  pub seek_on : w.stand.place ≤ target → seek plan words mark target w ≡ goes plan words (target - w.stand.place) w
  unfolding seek origin_of
  seek_on h = rw (le-leb w.stand.place target h)
