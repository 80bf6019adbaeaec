-- Laws of the way to another place that the proofs share. Assumes nothing.
use Rattle.std.specs.Prelude.{Option}
use mathlib.Core.Path.{◌≡◌, sym, ap, ◌∙◌, subst}
use mathlib.Core.List.{List, [], ◌∷◌}
use Prim.Native.Nat.{ℕ, suc, ◌-◌, ◌*◌, ◌≤◌, ◌<◌}
use native.Mathlib.Omega.{arith}
use borrow.Author.Tests.{ne_eqb}
use Rattle.std.proofs.Common.{le-leb}
use Rattle.std.proofs.lemmas.Bool.{lt-leb}
use lib.ListN.{set, take}
use lib.Ieee.{Float}
use Rattle.binary64.specs.Root.{root}
use Rattle.stretch.specs.Stretch.{part, splice}
use Rattle.stretch.specs.StretchLaws.{splice_nil, splice-one}
use Rattle.conjugate.specs.Placed.{Begun, placed}
use Rattle.model.specs.SolvedPlace.{solved_at}
use Rattle.work.specs.declared.Plan.{Plan}
use Rattle.work.specs.declared.Stand.{Stand}
use Rattle.work.specs.declared.Kept.{Kept}
use Rattle.work.specs.declared.Origin.{Origin}
use Rattle.work.specs.declared.Gives.{Gives}
use Rattle.work.specs.declared.Step.{Step}
use Rattle.work.specs.Layout.{at_kept, at_x, at_norms, vectors_at}
use Rattle.work.specs.Memory.{start_by, Work, work, floats_given, path_given, goes, pathless, origin_of, gradients_erased, norms_erased, path_erased, to_started, to_kept, begun_again, to_zero, from_origin, seek}
use Rattle.work.specs.Ready.{Ready, Standing, MarkKeeping, Comes}
use Rattle.work.specs.Seek.{Rewinds}
use Rattle.work.specs.Kinds.{SetsOut}
use Rattle.work.specs.StartedLaws.{start_floats}
use Rattle.work.specs.SeekLaws.{from_place, from_standing}
use Rattle.work.proofs.Laws.{Delivered, came, comes_to}

-- ---- what is erased

pub no_norms_erased : (plan : Plan) (s : Stand) (k : ℕ) (m : List Float) → s.norms ≤ k → m ≡ norms_erased plan s k m
no_norms_erased plan s k m h = let z : s.norms - k ≡ 0 = omega arith in rw z (sym (splice_nil m _))

-- ---- where the way starts

module _ (plan : Plan) (s : Stand) (m p : List Float) where
  pub started_comes : (words : List ℕ) (k : ℕ) (r : Stand) (d : Step) (p₁ m' p' : List Float) → k ≡ at_norms plan.n plan.t
      → r ≡ pathless (solved_at s.norms s.end) s.rs s.norms s.end → p₁ ≡ path_erased s p → SetsOut (start_by plan words (take k m) r plan.start) d → Delivered plan r d.gives m p₁ m' p'
      → Comes (to_started plan words (work m p s)) d.stand m' p'
  unfolding to_started
  started_comes words k r d p₁ m' p' ek from ep o dl =
      let f = take (at_norms plan.n plan.t) m in
      let b = pathless (solved_at s.norms s.end) s.rs s.norms s.end in
      let o' : SetsOut (start_by plan words f b plan.start) d = rw (ek, from) at o in
      let dl' : Delivered plan b d.gives m p₁ m' p' = rw from at dl in
      record {
        stand = o'.stand;
        floats = dl'.0 ∙ ap (λ (g : Gives). floats_given plan b g m) o'.gives ∙ start_floats plan words f b plan.start m;
        path = dl'.1 ∙ ap (path_given plan b d.gives) ep ∙ ap (λ (g : Gives). path_given plan b g (path_erased s p)) o'.gives;
      }

-- the tests by which a place after the start pass is sought from there
pub started_origin : (limit : ℕ) (s : Stand) (mark : Option Kept) (target : ℕ) {at : ℕ} → target < s.place → (s.end ≡ 0 → ⊥) → at ≡ solved_at s.norms s.end → at < target
    → Origin.Started ≡ origin_of limit s mark target
unfolding origin_of
started_origin limit s mark target {at} behind ended e before =
    rw (lt-leb s.place target behind, ne_eqb s.end 0 ended, ← e, le-leb at target (omega (arith, before)), le-leb (suc at) target (omega (arith, before)))

pub kept_comes : (plan : Plan) (s : Stand) (k : Kept) (m p : List Float) {m₁ m₂ m₃ p' : List Float} {r : Stand} {src dst : ℕ} → src ≡ at_kept plan.n plan.t plan.limit → dst ≡ at_x plan.n plan.t
    → m₁ ≡ splice m dst (part m src (3 * plan.n)) → m₂ ≡ gradients_erased plan m₁ → m₃ ≡ norms_erased plan s k.norms m₂ → p' ≡ path_erased s p → r ≡ pathless k.place k.rs k.norms 0
    → Comes (to_kept plan k (work m p s)) r m₃ p'
unfolding to_kept
kept_comes plan s k m p es ed e₁ e₂ e₃ ep er = record {
  stand = er;
  floats = e₃ ∙ ap (norms_erased plan s k.norms) (e₂ ∙ ap (gradients_erased plan) (e₁ ∙ rw (es, ed)));
  path = ep;
}

-- ---- place 0

module _ (plan : Plan) (words : List ℕ) (s : Stand) (m : List Float) where
  pub rewinds : (r : Float) (m₁ m₂ m₃ : List Float) (k : ℕ) (q : Float) → Begun m m₁ plan.n (vectors_at plan.n plan.t) (begun_again plan words m) r → m₂ ≡ gradients_erased plan m₁ → m₃ ≡ norms_erased plan s 0 m₂ → k ≡ at_norms plan.n plan.t
      → q ≡ root r → Rewinds plan words s m r (set m₃ k q)
  unfolding to_zero placed
  rewinds r m₁ m₂ m₃ k q a e₂ e₃ ek eq = record {
    sum = a.said;
    floats =
        rw (ek, eq, a.said) (sym (splice-one m₃ (at_norms plan.n plan.t) (root (begun_again plan words m).rs))
        ∙ ap (λ (l : List Float). splice l (at_norms plan.n plan.t) (root (begun_again plan words m).rs ∷ [])) (e₃ ∙ ap (norms_erased plan s 0) (e₂ ∙ ap (gradients_erased plan) a.left)));
  }

-- ---- the ways, and the passes after them

module _ (plan : Plan) (words : List ℕ) (mark : Option Kept) (target : ℕ) (w : Work) (o : Origin) (s : Stand) (m p : List Float) where
  origin_comes : o ≡ origin_of plan.limit w.stand mark target → Comes (from_origin plan words o w) s m p
      → Comes (from_origin plan words (origin_of plan.limit w.stand mark target) w) s m p
  origin_comes e c = comes_to (ap (λ (x : Origin). from_origin plan words x w) e) c

  pub sought_place : o ≡ origin_of plan.limit w.stand mark target → Comes (from_origin plan words o w) s m p → s.place ≤ target
  sought_place e c = omega (arith, ap (λ (v : Stand). v.place) (origin_comes e c).stand, from_place plan words mark target w)

  pub sought_standing : o ≡ origin_of plan.limit w.stand mark target → Comes (from_origin plan words o w) s m p → Ready plan words → Standing plan w.stand → MarkKeeping plan mark → Standing plan s
  sought_standing e c r st k = subst (Standing plan) (sym (origin_comes e c).stand) (from_standing plan words mark target w r st k)

  pub seek_comes : (r : Stand) (m' p' : List Float) → o ≡ origin_of plan.limit w.stand mark target → Comes (from_origin plan words o w) s m p
      → Comes (goes plan words (target - s.place) (work m p s)) r m' p' → Comes (seek plan words mark target w) r m' p'
  unfolding seek
  seek_comes r m' p' e c d = comes_to (ap (λ (v : Work). goes plan words (target - v.stand.place) v) (came (origin_comes e c))) d
