-- Laws of the loop that writes the gradients: a turn, and its end. Assumes nothing.
use Rattle.std.proofs.Common.{◌≡◌, sym, ◌∙◌, ap, List, [], ◌∷◌, ◌++◌, ℕ, suc, ◌+◌, ◌*◌, ◌≤◌, ◌<◌, length, set, zero-add, arith}
use Rattle.std.specs.Prelude.{Float}
use Rattle.plane.specs.declared.Point.{Point}
use Rattle.stretch.specs.Stretch.{part, splice}
use Rattle.stretch.specs.StretchLaws.{length_part, part_zero, part_add, part_cons, part_all, splice_nil, splice_all}
use Rattle.mesh.specs.Mesh.{corner}
use Rattle.mesh.specs.Pair.{pair, pair_step}
use Rattle.gradient.specs.Gradient.{gradient_on, gradients}
use Rattle.gradient.specs.GradientLaws.{gradients_snoc, length-gradients}

-- the gradients on the first i triangles
unfoldable pub up_to : Float → List Float → List Float → List ℕ → ℕ → List Float
up_to flat vs us ts i = gradients flat vs us (part ts 0 (3 * i))

module _ (flat : Float) (vs us : List Float) (ts : List ℕ) (n : ℕ) (whole : length ts ≡ 3 * n) where
  -- one triangle more
  three : (i : ℕ) → i < n → part ts (3 * i) 3 ≡ corner ts i 0 ∷ corner ts i 1 ∷ corner ts i 2 ∷ []
  unfolding corner
  three i h =
      let z : 3 * i + 0 ≡ 3 * i = omega arith in
      let b : suc (3 * i) ≡ 3 * i + 1 = omega arith in
      let d : suc (3 * i + 1) ≡ 3 * i + 2 = omega arith in
      rw (z, part_cons ts (3 * i) 2 0 (omega arith), b, part_cons ts (3 * i + 1) 1 0 (omega arith), d, part_cons ts (3 * i + 2) 0 0 (omega arith), part_zero)

  up_suc : (i : ℕ) → i < n → up_to flat vs us ts (i + 1) ≡ up_to flat vs us ts i ++ pair (gradient_on flat vs us ts i)
  unfolding up_to gradient_on
  up_suc i h =
      let e : length (part ts 0 (3 * i)) ≡ 3 * i = length_part ts 0 (3 * i) (omega arith) in
      let k : 3 * (i + 1) ≡ 3 * i + 3 = omega arith in
      rw (k, part_add, zero-add, three i h) (gradients_snoc flat vs us i (part ts 0 (3 * i)) _ _ _ e)

  length_up : (i : ℕ) → i ≤ n → length (up_to flat vs us ts i) ≡ 2 * i
  unfolding up_to
  length_up i h = length-gradients flat vs us i _ (length_part ts 0 (3 * i) (omega arith))

  module _ (s : List Float) where
    pub up_none : s ≡ splice s 0 (up_to flat vs us ts 0)
    unfolding up_to gradients part
    up_none = sym (splice_nil s 0)

    pub up_step : (l : List Float) (i : ℕ) (g : Point) → i < n → l ≡ splice s 0 (up_to flat vs us ts i) → g ≡ gradient_on flat vs us ts i
        → set (set l (2 * i) g.x) (2 * i + 1) g.y ≡ splice s 0 (up_to flat vs us ts (i + 1))
    up_step l i g h p q =
        let z : 0 + 2 * i ≡ 2 * i = zero-add (2 * i) in
        let w = pair_step s l 0 (2 * i) (up_to flat vs us ts i) g (length_up i (omega arith)) p in
        (rw z at w) ∙ rw (q, ← (up_suc i h))

    pub up_done : (l : List Float) (i : ℕ) → i ≡ n → length s ≡ 2 * n → l ≡ splice s 0 (up_to flat vs us ts i) → l ≡ gradients flat vs us ts
    unfolding up_to
    up_done l i e long p = p ∙ splice_all s _ (length_up i (omega arith) ∙ omega arith) ∙ ap (λ (r : List ℕ). gradients flat vs us r) (rw e (part_all ts (3 * n) (omega arith)))
