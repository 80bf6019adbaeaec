-- Laws that the proofs of this crate share. Assumes nothing.
use mathlib.Core.Path.{◌≡◌, refl, sym, ap, ap₂, ◌∙◌, subst}
use mathlib.Core.List.{List, [], ◌∷◌, ◌++◌}
use Prim.Native.Nat.{ℕ, ◌+◌, ◌*◌, ◌≤◌}
use native.Mathlib.Omega.{arith}
use native.Mathlib.Numerals.{add-one}
use mathlib.Core.Bool.{Bool, true, false}
use lib.Dec.{eqb}
use Rattle.binary64.specs.Number.{pick}
use lib.ListN.{length, set, take, drop}
use lib.Seq.{length_front}
use lib.Ieee.{Float}
use Rattle.plane.specs.declared.Point.{Point}
use Rattle.pde.specs.Outcome.{Crossing}
use Rattle.pde.specs.Path.{point_floats, coordinates_of, added}
use Rattle.stretch.specs.Stretch.{splice}
use Rattle.stretch.specs.StretchLaws.{splice-one, splice_snoc}
use Rattle.work.specs.declared.Gives.{Gives}
use Rattle.work.specs.declared.Plan.{Plan}
use Rattle.work.specs.declared.Stand.{Stand}
use Rattle.work.specs.declared.Step.{Step}
use Rattle.work.specs.Layout.{at_norms}
use Rattle.work.specs.Memory.{floats_given, path_given, once, goes, Work, work, front_of, beyond_front}
use Rattle.work.specs.DryLaws.{step_length}
use Rattle.work.specs.StandingLaws.{once_standing, once_place, goes_add, goes_over}
use Rattle.work.specs.Ready.{Ready, Standing, Roomy, Writable, Steps, Comes}

-- two stores in a row
pub put_two : {A : Type 0} (l : List A) (x y : A) → set (set l 0 x) 1 y ≡ splice l 0 (x ∷ y ∷ [])
put_two l x y = sym (splice_snoc l 0 (x ∷ []) y ∙ ap (λ m. set m 1 y) (splice-one l 0 x))

-- ---- what a pass gives, once it is written

abbrev pub Delivered : Plan → Stand → Gives → List Float → List Float → List Float → List Float → Type 0
Delivered plan s g m p m' p' = (m' ≡ floats_given plan s g m) × (p' ≡ path_given plan s g p)

pub gave_nothing : (plan : Plan) (s : Stand) (g : Gives) (m p : List Float) → g ≡ Gives.Nothing → Delivered plan s g m p m p
gave_nothing plan s g m p e = rw e (refl, refl)

pub gave_norm : (plan : Plan) (s : Stand) (g : Gives) (m p : List Float) (v : Float) (k : ℕ) → g ≡ Gives.Norm v → k ≡ at_norms plan.n plan.t
    → Delivered plan s g m p (set m (k + s.norms) v) p
gave_norm plan s g m p v k e h = rw (e, h) (sym (splice-one m (at_norms plan.n plan.t + s.norms) v), refl)

pub gave_first : (plan : Plan) (s : Stand) (g : Gives) (m p p' : List Float) (q : Point) → g ≡ Gives.First q → p' ≡ splice p 0 (q.x ∷ q.y ∷ []) → Delivered plan s g m p m p'
unfolding coordinates_of
gave_first plan s g m p p' q e h = rw e (refl, h)

pub gave_crossed : (plan : Plan) (s : Stand) (g : Gives) (m p p' : List Float) (x : Crossing) → g ≡ Gives.Crossed x
    → p' ≡ splice p (point_floats * s.walk.points) (coordinates_of (added plan.room s.walk x)) → Delivered plan s g m p m p'
gave_crossed plan s g m p p' x e h = rw e (refl, h)

-- ---- a pass on the whole buffers

pub pick_small : (b : Bool) → pick {A = ℕ} b 0 1 ≤ 1
pick_small true = omega arith
pick_small false = omega arith

pub writable : (plan : Plan) (words : List ℕ) (s : Stand) (m p : List Float) (l k : ℕ) → Ready plan words → Standing plan s → Roomy plan m p → l ≡ length m → k ≡ length p → Writable plan s l k
writable plan words s m p l k r st ro e h = record {
  n_most = r.n_most;
  t_most = r.t_most;
  norms_fit = omega (arith, st.norms_most, pick_small (eqb s.end 0), ro.floats_fit);
  points_most = st.points_most;
  room_least = r.room_least;
  room_most = r.room_most;
  path_fit = omega (arith, ro.path_fit);
}

-- a step keeps the front's length, and so that of the floats
pub stepped-length : (plan : Plan) (words : List ℕ) (s : Stand) (m f : List Float) (d : Step) (k : ℕ) → Steps plan words (take k m) s d f → length (f ++ drop k m) ≡ length m
stepped-length plan words s m f d k st = length_front m f k (ap length st.front ∙ step_length plan words (take k m) s)

-- a step on the front, and what it gives written, is `once`
pub once_comes : (plan : Plan) (words : List ℕ) (s : Stand) (m p f m' p' : List Float) (d : Step) (k : ℕ) → k ≡ at_norms plan.n plan.t
    → Steps plan words (take k m) s d f → Delivered plan s d.gives (f ++ drop k m) p m' p' → Comes (once plan words (work m p s)) d.stand m' p'
unfolding once
once_comes plan words s m p f m' p' d k e st dl =
    let st' : Steps plan words (front_of plan m) s d f = rw e at st in
    let dl' : Delivered plan s d.gives (f ++ beyond_front plan m) p m' p' = rw e at dl in
    record {
      stand = st'.stand;
      floats = dl'.0 ∙ ap₂ (λ g x. floats_given plan s g (x ++ beyond_front plan m)) st'.gives st'.front;
      path = dl'.1 ∙ ap (λ g. path_given plan s g p) st'.gives;
    }

-- ---- passes in a row

-- what has come to w is w
pub came : {w : Work} {s : Stand} {m p : List Float} → Comes w s m p → work m p s ≡ w
came c = λ i. work (c.floats i) (c.path i) (c.stand i)

pub comes_to : {w w' : Work} {s : Stand} {m p : List Float} → w ≡ w' → Comes w s m p → Comes w' s m p
comes_to {s = s} {m = m} {p = p} e c = subst (λ (v : Work). Comes v s m p) e c

pub goes_none : (plan : Plan) (words : List ℕ) (s : Stand) (m p : List Float) → Comes (goes plan words 0 (work m p s)) s m p
unfolding goes
goes_none plan words s m p = record { stand = refl; floats = refl; path = refl }

module _ (plan : Plan) (words : List ℕ) where
  pub goes-more : (w : Work) (i : ℕ) (s s' : Stand) (m p m' p' : List Float) → Comes (goes plan words i w) s m p → Comes (once plan words (work m p s)) s' m' p'
      → Comes (goes plan words (i + 1) w) s' m' p'
  unfolding goes
  goes-more w i s s' m p m' p' c d = rw add-one (comes_to (ap (once plan words) (came c)) d)

  pub goes-ended : (w : Work) (i k : ℕ) (s : Stand) (m p : List Float) → Comes (goes plan words i w) s m p → i ≤ k → (s.walk.end ≡ 0 → ⊥) → Comes (goes plan words k w) s m p
  goes-ended w i k s m p c h n = comes_to (sym (goes_over plan words w i k h (λ e. n (ap (λ (v : Stand). v.walk.end) c.stand ∙ e)))) c

  pub goes_done : (w : Work) (i k : ℕ) (s : Stand) (m p : List Float) → Comes (goes plan words i w) s m p → i ≡ k → Comes (goes plan words k w) s m p
  goes_done w i k s m p c e = comes_to (ap (λ (j : ℕ). goes plan words j w) e) c

  -- passes in a row, and more of them
  pub goes_on : (w : Work) (i j k : ℕ) (s s' : Stand) (m p m' p' : List Float) → Comes (goes plan words i w) s m p → Comes (goes plan words j (work m p s)) s' m' p' → i + j ≡ k
      → Comes (goes plan words k w) s' m' p'
  goes_on w i j k s s' m p m' p' c d e = comes_to (ap (goes plan words j) (came c) ∙ sym (goes_add plan words w i j) ∙ ap (λ (n : ℕ). goes plan words n w) e) d

  -- the counts after a pass
  pub came_standing : (s s' : Stand) (m p m' p' : List Float) → Comes (once plan words (work m p s)) s' m' p' → Ready plan words → Standing plan s → Standing plan s'
  came_standing s s' m p m' p' c r st = subst (Standing plan) (sym c.stand) (once_standing plan words (work m p s) r st)

  pub came_place : (s s' : Stand) (m p m' p' : List Float) → Comes (once plan words (work m p s)) s' m' p' → s'.place ≤ s.place + 1
  came_place s s' m p m' p' c = omega (arith, ap (λ (v : Stand). v.place) c.stand, once_place plan words (work m p s))
