-- Laws of dot products and of pairwise operations on stretches: a product or an element more, and the loops that compute them.
-- Assumes nothing.
use Rattle.std.specs.Prelude.{◌≡◌, length, get_or, set, Float}
use Rattle.std.proofs.Math.Path.{refl, sym, ap}
use Rattle.std.proofs.Common.{◌∙◌, add-one, arith}
use mathlib.Core.List.{List, [], ◌∷◌, ◌++◌, zip_with}
use Prim.Native.Nat.{ℕ, suc, ◌+◌, ◌≤◌, ◌<◌}
use Rattle.std.specs.List.{fold, zip}
use Rattle.std.specs.Float.{nan}
use Rattle.binary64.specs.Arith.{◌⊕◌, ◌⊗◌}
use Rattle.binary64.specs.Constants.{plus_zero}
use Rattle.stretch.specs.Stretch.{part, splice, Wrote}
use Rattle.stretch.specs.StretchLaws.{length_part, part_suc, splice_nil, get_or-splice-ahead}
use Rattle.stretch.proofs.LoopLaws.{write_step}
use Rattle.stretch.specs.Vec.{dot_from, dot, Zips}

-- ---- dot products

pub dot_from_snoc : (z : Float) (us vs : List Float) (u v : Float) → length us ≡ length vs → dot_from z (us ++ (u ∷ [])) (vs ++ (v ∷ [])) ≡ dot_from z us vs ⊕ u ⊗ v
unfolding dot_from
dot_from_snoc z [] [] u v e = refl
dot_from_snoc z [] (y ∷ vs) u v e = absurd (omega arith)
dot_from_snoc z (x ∷ us) [] u v e = absurd (omega arith)
dot_from_snoc z (x ∷ us) (y ∷ vs) u v e = dot_from_snoc (z ⊕ x ⊗ y) us vs u v (omega arith)

pub dot_snoc : (us vs : List Float) (u v : Float) → length us ≡ length vs → dot (us ++ (u ∷ [])) (vs ++ (v ∷ [])) ≡ dot us vs ⊕ u ⊗ v
unfolding dot
dot_snoc us vs u v e = dot_from_snoc plus_zero us vs u v e

-- a fold over the pairs of two lists
fold_from : (z : Float) (us vs : List Float) → fold (λ (s : Float) (p : Float × Float). s ⊕ p.0 ⊗ p.1) z (zip us vs) ≡ dot_from z us vs
unfolding dot_from
fold_from z [] vs = refl
fold_from z (u ∷ us) [] = refl
fold_from z (u ∷ us) (v ∷ vs) = fold_from (z ⊕ u ⊗ v) us vs

pub fold-zip : (us vs : List Float) → fold (λ (s : Float) (p : Float × Float). s ⊕ p.0 ⊗ p.1) plus_zero (zip us vs) ≡ dot us vs
unfolding dot
fold-zip us vs = fold_from plus_zero us vs

-- a loop that sums the products of the stretch of s from a and that of t from b
pub dot_none : (s t : List Float) (a b : ℕ) → plus_zero ≡ dot (part s a 0) (part t b 0)
unfolding dot dot_from part
dot_none s t a b = refl

pub dot_step : (s t : List Float) (a b i : ℕ) (sum : Float) → a + i < length s → b + i < length t → sum ≡ dot (part s a i) (part t b i)
    → sum ⊕ get_or s (a + i) nan ⊗ get_or t (b + i) nan ≡ dot (part s a (i + 1)) (part t b (i + 1))
dot_step s t a b i sum ha hb e =
    let k : length (part s a i) ≡ length (part t b i) = length_part s a i (omega arith) ∙ sym (length_part t b i (omega arith)) in
    rw (e, add-one, part_suc s a i nan ha, part_suc t b i nan hb) (sym (dot_snoc (part s a i) (part t b i) (get_or s (a + i) nan) (get_or t (b + i) nan) k))

-- ---- f of the elements of two lists, pair by pair

module _ {ℓ κ μ} {A : Type ℓ} {B : Type κ} {C : Type μ} (f : A → B → C) where
  pub length_zip : (us : List A) (vs : List B) → length us ≡ length vs → length (zip_with f us vs) ≡ length us
  unfolding zip_with
  length_zip [] vs e = refl
  length_zip (u ∷ us) [] e = absurd (omega arith)
  length_zip (u ∷ us) (v ∷ vs) e = ap suc (length_zip us vs (omega arith))

  pub zip_snoc : (us : List A) (vs : List B) (u : A) (v : B) → length us ≡ length vs → zip_with f (us ++ (u ∷ [])) (vs ++ (v ∷ [])) ≡ zip_with f us vs ++ (f u v ∷ [])
  unfolding zip_with
  zip_snoc [] [] u v e = refl
  zip_snoc [] (y ∷ vs) u v e = absurd (omega arith)
  zip_snoc (x ∷ us) [] u v e = absurd (omega arith)
  zip_snoc (x ∷ us) (y ∷ vs) u v e = ap (λ (r : List C). f x y ∷ r) (zip_snoc us vs u v (omega arith))

  -- of a stretch of s and one of t
  pub length_zip_part : (s : List A) (t : List B) (u v n : ℕ) → u + n ≤ length s → v + n ≤ length t → length (zip_with f (part s u n) (part t v n)) ≡ n
  length_zip_part s t u v n hu hv =
      let eu : length (part s u n) ≡ n = length_part s u n hu in
      let ev : length (part t v n) ≡ n = length_part t v n hv in
      length_zip (part s u n) (part t v n) (omega arith) ∙ eu

  pub zip_part_suc : (s : List A) (t : List B) (u v i : ℕ) (d : A) (e : B) → u + i < length s → v + i < length t
      → zip_with f (part s u (suc i)) (part t v (suc i)) ≡ zip_with f (part s u i) (part t v i) ++ (f (get_or s (u + i) d) (get_or t (v + i) e) ∷ [])
  zip_part_suc s t u v i d e hu hv =
      let k : length (part s u i) ≡ length (part t v i) = length_part s u i (omega arith) ∙ sym (length_part t v i (omega arith)) in
      rw (part_suc s u i d hu, part_suc t v i e hv) (zip_snoc (part s u i) (part t v i) (get_or s (u + i) d) (get_or t (v + i) e) k)

-- a loop that writes f of two stretches of a buffer to a third, or to one of them: s is the buffer at entry, l as it is now, d what a read past the end gives
module _ {ℓ} {A : Type ℓ} (f : A → A → A) where
  pub zip_none : (s : List A) (at u v : ℕ) → s ≡ splice s at (zip_with f (part s u 0) (part s v 0))
  unfolding zip_with part
  zip_none s at u v = sym (splice_nil s at)

  pub zip_step : (s l : List A) (at u v n i : ℕ) (d : A) → Zips (length s) at u v n → i < n → l ≡ splice s at (zip_with f (part s u i) (part s v i))
      → set l (at + i) (f (get_or l (u + i) d) (get_or l (v + i) d)) ≡ splice s at (zip_with f (part s u (i + 1)) (part s v (i + 1)))
  zip_step s l at u v n i d z h p =
      let new : List A = zip_with f (part s u i) (part s v i) in
      let k : length new ≡ i = length_zip_part f s s u v i (omega arith) (omega arith) in
      let gu : get_or l (u + i) d ≡ get_or s (u + i) d = ap (λ (r : List A). get_or r (u + i) d) p ∙ get_or-splice-ahead s at new u n i d k h z.u_read in
      let gv : get_or l (v + i) d ≡ get_or s (v + i) d = ap (λ (r : List A). get_or r (v + i) d) p ∙ get_or-splice-ahead s at new v n i d k h z.v_read in
      rw (gu, gv, add-one, zip_part_suc f s s u v i d d (omega arith) (omega arith)) (write_step s l at i new (f (get_or s (u + i) d) (get_or s (v + i) d)) k p)

  pub zip_done : (s l : List A) (at u v n i : ℕ) → Zips (length s) at u v n → i ≡ n → l ≡ splice s at (zip_with f (part s u i) (part s v i))
      → Wrote s l at n (zip_with f (part s u n) (part s v n))
  zip_done s l at u v n i z h e = record { is = cc; long = length_zip_part f s s u v n z.u_fits z.v_fits; fits = z.fits }
