-- Laws of the gradients on triangles one after another: one triangle more, how long the list is, the gradient on one triangle, and values beyond those of the vertices. Assumes nothing.
use Rattle.std.specs.Prelude.{◌≡◌, length, get_or, take, Float}
use Rattle.std.proofs.Math.Path.{refl}
use Rattle.std.proofs.Common.{ap, arith}
use mathlib.Core.List.{List, [], ◌∷◌, ◌++◌}
use Prim.Native.Nat.{ℕ, zero, suc, ◌+◌, ◌*◌, ◌<◌}
use Rattle.std.specs.Float.{nan}
use Rattle.plane.specs.Plane.{point}
use Rattle.std.proofs.lemmas.List.{get_or-take}
use Rattle.mesh.specs.Mesh.{corner}
use Rattle.mesh.specs.Pair.{pair}
use Rattle.gradient.specs.Gradient.{gradient_of, gradient_on, gradients}

two_on : (x y : Float) (l : List Float) (i j : ℕ) → i ≡ suc (suc j) → get_or (x ∷ y ∷ l) i nan ≡ get_or l j nan
two_on x y l i j e = ap (λ (k : ℕ). get_or (x ∷ y ∷ l) k nan) e

three_on : (a b d : ℕ) (l : List ℕ) (i j : ℕ) → i ≡ suc (suc (suc j)) → get_or (a ∷ b ∷ d ∷ l) i 0 ≡ get_or l j 0
three_on a b d l i j e = ap (λ (k : ℕ). get_or (a ∷ b ∷ d ∷ l) k 0) e

module _ (flat : Float) (vs us : List Float) where
  pub gradients_snoc : (n : ℕ) (ts : List ℕ) (i j k : ℕ) → length ts ≡ 3 * n → gradients flat vs us (ts ++ (i ∷ j ∷ k ∷ [])) ≡ gradients flat vs us ts ++ pair (gradient_of flat vs us i j k)
  unfolding gradients
  gradients_snoc n [] i j k e = refl
  gradients_snoc n (a ∷ []) i j k e = absurd (omega arith)
  gradients_snoc n (a ∷ b ∷ []) i j k e = absurd (omega arith)
  gradients_snoc zero (a ∷ b ∷ d ∷ ts) i j k e = absurd (omega arith)
  gradients_snoc (suc n) (a ∷ b ∷ d ∷ ts) i j k e = rw (gradients_snoc n ts i j k (omega arith))

  pub length-gradients : (n : ℕ) (ts : List ℕ) → length ts ≡ 3 * n → length (gradients flat vs us ts) ≡ 2 * n
  unfolding gradients
  length-gradients zero [] e = refl
  length-gradients (suc n) [] e = absurd (omega arith)
  length-gradients n (a ∷ []) e = absurd (omega arith)
  length-gradients n (a ∷ b ∷ []) e = absurd (omega arith)
  length-gradients zero (a ∷ b ∷ d ∷ ts) e = absurd (omega arith)
  length-gradients (suc n) (a ∷ b ∷ d ∷ ts) e = omega (arith, length-gradients n ts (omega arith))

  -- the gradient on triangle t
  pub gradients_at_lem : (n : ℕ) (ts : List ℕ) (t : ℕ) → length ts ≡ 3 * n → t < n
      → point (get_or (gradients flat vs us ts) (2 * t) nan) (get_or (gradients flat vs us ts) (2 * t + 1) nan) ≡ gradient_of flat vs us (corner ts t 0) (corner ts t 1) (corner ts t 2)
  unfolding gradients corner
  gradients_at_lem zero ts t e h = absurd (omega arith)
  gradients_at_lem (suc n) [] t e h = absurd (omega arith)
  gradients_at_lem (suc n) (a ∷ []) t e h = absurd (omega arith)
  gradients_at_lem (suc n) (a ∷ b ∷ []) t e h = absurd (omega arith)
  gradients_at_lem (suc n) (a ∷ b ∷ d ∷ ts) zero e h = refl
  gradients_at_lem (suc n) (a ∷ b ∷ d ∷ ts) (suc t) e h =
      let g = gradient_of flat vs us a b d in
      let x = two_on g.x g.y (gradients flat vs us ts) (2 * suc t) (2 * t) (omega arith) in
      let y = two_on g.x g.y (gradients flat vs us ts) (2 * suc t + 1) (2 * t + 1) (omega arith) in
      let i = three_on a b d ts (3 * suc t + 0) (3 * t + 0) (omega arith) in
      let j = three_on a b d ts (3 * suc t + 1) (3 * t + 1) (omega arith) in
      let k = three_on a b d ts (3 * suc t + 2) (3 * t + 2) (omega arith) in
      cc (gradients_at_lem n ts t (omega arith) (omega arith))

-- Where a list has more values than there are vertices, the first of them, one for each vertex (`Field::over`), give its gradients.
module _ (flat : Float) (vs us : List Float) (n : ℕ) where
  gradient_of_first : (i j k : ℕ) → i < n → j < n → k < n → gradient_of flat vs (take n us) i j k ≡ gradient_of flat vs us i j k
  unfolding gradient_of
  gradient_of_first i j k hi hj hk = rw (get_or-take n us i nan hi, get_or-take n us j nan hj, get_or-take n us k nan hk)

  pub gradient_on_first : (ts : List ℕ) (t : ℕ) → ((p : ℕ) → p < length ts → get_or ts p 0 < n) → 3 * t + 2 < length ts → gradient_on flat vs (take n us) ts t ≡ gradient_on flat vs us ts t
  unfolding gradient_on corner
  gradient_on_first ts t h l = gradient_of_first _ _ _ (h (3 * t + 0) (omega arith)) (h (3 * t + 1) (omega arith)) (h (3 * t + 2) l)

  pub gradients_first : (ts : List ℕ) → ((p : ℕ) → p < length ts → get_or ts p 0 < n) → gradients flat vs (take n us) ts ≡ gradients flat vs us ts
  unfolding gradients
  gradients_first [] h = refl
  gradients_first (i ∷ []) h = refl
  gradients_first (i ∷ j ∷ []) h = refl
  gradients_first (i ∷ j ∷ k ∷ ts) h =
      rw (gradient_of_first i j k (h 0 (omega arith)) (h 1 (omega arith)) (h 2 (omega arith)), gradients_first ts (λ p l. h (suc (suc (suc p))) (omega arith)))
