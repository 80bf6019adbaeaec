-- Passes in a row and a mark, on an image: k passes lead k places on, and no further than the last; a mark keeps the vectors.
-- Assumes nothing.
use Prim.Native.Nat.{ℕ, zero, suc, ◌+◌, ◌≤◌, ◌<◌, min}
use Rattle.std.specs.Prelude.{◌≡◌, true, List, [], ◌∷◌, ◌++◌, eqb, Float, Option, Some}
use Rattle.std.proofs.Math.Path.{ap}
use Rattle.std.proofs.Common.{◌∙◌, ⊎_elim, eq-or-lt_of_le}
use native.Mathlib.Omega.{arith}
use Rattle.std.proofs.lemmas.Bool.{not-true}
use Rattle.binary64.specs.Constants.{plus_zero}
use Rattle.laplace.specs.Placed.{padded}
use Rattle.model.specs.Task.{Task}
use Rattle.model.specs.Run.{at, finished, last_place}
use Rattle.model.specs.Sized.{Sized}
use Rattle.model.proofs.RunLaws.{last_first, last_finished}
use Rattle.work.specs.Memory.{Work, once, goes, kept_floats}
use Rattle.image.specs.Image.{plan_of, kept_vectors, floats_of, words_of}
use Rattle.image.proofs.ImageLawsSegments.{part_vectors, put_kept}
use Rattle.image.proofs.ImageLawsLengths.{shaped_at, laid, length_kept, length_norms}
use Rattle.image.proofs.ImageLawsPass.{image_work, once-over, once-image}

module _ (c : Task) (z : Sized c) (m : Option ℕ) (floats : List Float) (words : List ℕ) (path : List Float) where
  abbrev E : ℕ
  E = last_place c

  abbrev there : ℕ → Work
  there p = image_work c p m floats path

  once-at : (p : ℕ) → p ≤ E → once (plan_of c) (words_of c words) (there p) ≡ there (min (p + 1) E)
  once-at p h =
      ⊎_elim
      (λ (y : p ≡ E).
      let f : finished (at c p) ≡ true = rw (← y) at (last_finished c) in
      let e : p ≡ min (p + 1) E = omega arith in
      once-over (plan_of c) (words_of c words) (there p) (not-true (eqb (at c p).trail.walk.end 0) f) ∙ ap there e)
      (λ (y : p < E).
      let e : suc p ≡ min (p + 1) E = omega arith in
      once-image c z p m floats words path (last_first c p y) ∙ ap there e)
      (eq-or-lt_of_le h)

  pub goes-image : (k p : ℕ) → p ≤ E → goes (plan_of c) (words_of c words) k (there p) ≡ there (min (p + k) E)
  unfolding goes
  goes-image zero p h = let e : p ≡ min (p + 0) E = omega arith in ap there e
  goes-image (suc k) p h =
      let e : min (min (p + k) E + 1) E ≡ min (p + suc k) E = omega arith in
      ap (λ (w : Work). once (plan_of c) (words_of c words) w) (goes-image k p h) ∙ once-at (min (p + k) E) (omega arith) ∙ ap there e

pub mark_image : (c : Task) → Sized c → (p : ℕ) (m : Option ℕ) (floats : List Float) → kept_floats (plan_of c) (floats_of c (at c p) m floats) ≡ floats_of c (at c p) (Some p) floats
unfolding kept_floats floats_of
mark_image c z p m floats =
    let norms = padded (c.limit + 1) plus_zero (at c p).field.norms in
    let l = laid c z (at c p) (shaped_at c z p) in
    rw (part_vectors l (norms ∷ (kept_vectors c m ++ floats) ∷ []))
    (put_kept l norms (kept_vectors c m) floats c.limit (length_norms c z (at c p) (shaped_at c z p)) (length_kept c m) ((at c p).field.solve.x ++ ((at c p).field.solve.r ++ (at c p).field.solve.p)) (length_kept c (Some p)))
