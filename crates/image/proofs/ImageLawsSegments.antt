-- The floats of a run as segments in a row: where each stands, what is read there, and what a write there leaves.
-- Assumes nothing.
use Rattle.std.specs.Prelude.{ℕ, ◌+◌, ◌*◌, ◌≤◌, ◌≡◌, replicate, take, drop, Float}
use Rattle.std.proofs.Math.Path.{refl, ap}
use Rattle.std.proofs.Common.{sym, ◌∙◌, take_at, drop_at}
use mathlib.Core.List.{List, [], ◌∷◌, ◌++◌, append-nil}
use native.Mathlib.Omega.{arith}
use Rattle.std.proofs.Math.ListN.{length, length-append}
use Rattle.binary64.specs.Constants.{plus_zero}
use Rattle.stretch.specs.Stretch.{part, splice, flat, off}
use Rattle.stretch.specs.StretchLaws.{part_all, part_front, splice-front-all}
use Rattle.stretch.specs.SegmentLaws.{flat_append, length-flat, part_seg, part_segs, part_within, splice_seg, splice_segs, splice-within}
use Rattle.work.specs.Layout.{at_right, at_values, at_x, at_r, at_p, at_product, at_kept, at_gradients, at_norms}

abbrev pub zeros : ℕ → List Float
zeros n = replicate n plus_zero

-- vertices, right side, row buffer, values, x, r, p, product, gradients; and those behind
abbrev pub segments : List Float → List Float → List Float → List Float → List Float → List Float → List Float → List Float → List Float → List (List Float) → List (List Float)
segments v b w a x r p q g back = v ∷ b ∷ w ∷ a ∷ x ∷ r ∷ p ∷ q ∷ g ∷ back

-- each as long as its place says
pub record Laid (n t : ℕ) (v b w a x r p q g : List Float) : Type 0 where
  pub vertices : length v ≡ 2 * n
  pub right : length b ≡ n
  pub row : length w ≡ n
  pub values : length a ≡ 9 * t + n
  pub x_long : length x ≡ n
  pub r_long : length r ≡ n
  pub p_long : length p ≡ n
  pub product : length q ≡ n
  pub gradients : length g ≡ 2 * t

module _ {n t : ℕ} {v b w a x r p q g : List Float} (l : Laid n t v b w a x r p q g) where
  -- ---- other segments as long

  pub laid_x : {y : List Float} → length y ≡ n → Laid n t v b w a y r p q g
  laid_x e = record { vertices = l.vertices; right = l.right; row = l.row; values = l.values; x_long = e; r_long = l.r_long; p_long = l.p_long; product = l.product; gradients = l.gradients }

  pub laid_r : {y : List Float} → length y ≡ n → Laid n t v b w a x y p q g
  laid_r e = record { vertices = l.vertices; right = l.right; row = l.row; values = l.values; x_long = l.x_long; r_long = e; p_long = l.p_long; product = l.product; gradients = l.gradients }

  pub laid_p : {y : List Float} → length y ≡ n → Laid n t v b w a x r y q g
  laid_p e = record { vertices = l.vertices; right = l.right; row = l.row; values = l.values; x_long = l.x_long; r_long = l.r_long; p_long = e; product = l.product; gradients = l.gradients }

  pub laid_product : {y : List Float} → length y ≡ n → Laid n t v b w a x r p y g
  laid_product e = record { vertices = l.vertices; right = l.right; row = l.row; values = l.values; x_long = l.x_long; r_long = l.r_long; p_long = l.p_long; product = e; gradients = l.gradients }

  pub laid_gradients : {y : List Float} → length y ≡ 2 * t → Laid n t v b w a x r p q y
  laid_gradients e = record { vertices = l.vertices; right = l.right; row = l.row; values = l.values; x_long = l.x_long; r_long = l.r_long; p_long = l.p_long; product = l.product; gradients = e }

  -- ---- before the norms, and from them on

  length_front : length (flat (segments v b w a x r p q g [])) ≡ at_norms n t
  unfolding off
  length_front = length-flat (segments v b w a x r p q g []) ∙ omega arith

  pub front_segs : (back : List (List Float)) → take (at_norms n t) (flat (segments v b w a x r p q g back)) ≡ flat (segments v b w a x r p q g [])
  front_segs back =
      ap (λ (m : List Float). take (at_norms n t) m) (flat_append (segments v b w a x r p q g []) back)
      ∙ take_at (flat (segments v b w a x r p q g [])) (flat back) (at_norms n t) length_front

  pub beyond_segs : (back : List (List Float)) → drop (at_norms n t) (flat (segments v b w a x r p q g back)) ≡ flat back
  beyond_segs back =
      ap (λ (m : List Float). drop (at_norms n t) m) (flat_append (segments v b w a x r p q g []) back)
      ∙ drop_at (flat (segments v b w a x r p q g [])) (flat back) (at_norms n t) length_front

  pub joined_segs : (back : List (List Float)) → flat (segments v b w a x r p q g []) ++ flat back ≡ flat (segments v b w a x r p q g back)
  joined_segs back = sym (flat_append (segments v b w a x r p q g []) back)

  -- ---- what is read

  module _ (back : List (List Float)) where
    abbrev ss : List (List Float)
    ss = segments v b w a x r p q g back

    pub part_vertices : part (flat ss) 0 (2 * n) ≡ v
    unfolding off
    part_vertices = part_seg ss 0 0 (2 * n) refl (omega arith) (omega arith)

    pub part_right : part (flat ss) (at_right n t) n ≡ b
    unfolding off
    part_right = part_seg ss 1 (at_right n t) n (omega arith) (omega arith) (omega arith)

    pub part_values : part (flat ss) (at_values n t) (9 * t + n) ≡ a
    unfolding off
    part_values = part_seg ss 3 (at_values n t) (9 * t + n) (omega arith) (omega arith) (omega arith)

    pub part_x : part (flat ss) (at_x n t) n ≡ x
    unfolding off
    part_x = part_seg ss 4 (at_x n t) n (omega arith) (omega arith) (omega arith)

    pub part_r : part (flat ss) (at_r n t) n ≡ r
    unfolding off
    part_r = part_seg ss 5 (at_r n t) n (omega arith) (omega arith) (omega arith)

    pub part_p : part (flat ss) (at_p n t) n ≡ p
    unfolding off
    part_p = part_seg ss 6 (at_p n t) n (omega arith) (omega arith) (omega arith)

    pub part_gradients : part (flat ss) (at_gradients n t) (2 * t) ≡ g
    unfolding off
    part_gradients = part_seg ss 8 (at_gradients n t) (2 * t) (omega arith) (omega arith) (omega arith)

    -- ---- what a write leaves

    pub put_x : (y : List Float) → length y ≡ n → splice (flat ss) (at_x n t) y ≡ flat (segments v b w a y r p q g back)
    unfolding off
    put_x y e = splice_seg ss 4 (at_x n t) y (omega arith) (omega arith) (omega arith)

    pub put_r : (y : List Float) → length y ≡ n → splice (flat ss) (at_r n t) y ≡ flat (segments v b w a x y p q g back)
    unfolding off
    put_r y e = splice_seg ss 5 (at_r n t) y (omega arith) (omega arith) (omega arith)

    pub put_p : (y : List Float) → length y ≡ n → splice (flat ss) (at_p n t) y ≡ flat (segments v b w a x r y q g back)
    unfolding off
    put_p y e = splice_seg ss 6 (at_p n t) y (omega arith) (omega arith) (omega arith)

    pub put_product : (y : List Float) → length y ≡ n → splice (flat ss) (at_product n t) y ≡ flat (segments v b w a x r p y g back)
    unfolding off
    put_product y e = splice_seg ss 7 (at_product n t) y (omega arith) (omega arith) (omega arith)

    pub put_gradients : (y : List Float) → length y ≡ 2 * t → splice (flat ss) (at_gradients n t) y ≡ flat (segments v b w a x r p q y back)
    unfolding off
    put_gradients y e = splice_seg ss 8 (at_gradients n t) y (omega arith) (omega arith) (omega arith)

    -- ---- the three vectors at once

    pub part_vectors : part (flat ss) (at_x n t) (3 * n) ≡ x ++ (r ++ p)
    unfolding off part flat
    part_vectors =
        let e : length (x ++ (r ++ (p ++ []))) ≡ 3 * n = simp (length-append, append-nil) (omega arith) in
        part_segs ss 4 3 (at_x n t) (3 * n) (omega arith) (sym e) ∙ rw (append-nil)

    pub put_vectors : (x' r' p' : List Float) → length x' ≡ n → length r' ≡ n → length p' ≡ n
        → splice (flat ss) (at_x n t) (x' ++ (r' ++ p')) ≡ flat (segments v b w a x' r' p' q g back)
    unfolding off part flat splice
    put_vectors x' r' p' ex er ep =
        let e : length (x' ++ (r' ++ (p' ++ []))) ≡ length (x ++ (r ++ (p ++ []))) = simp (length-append, append-nil) (omega arith) in
        ap (λ (y : List Float). splice (flat ss) (at_x n t) (x' ++ (r' ++ y))) (sym (append-nil p')) ∙ splice_segs ss 4 (at_x n t) (x' ∷ r' ∷ p' ∷ []) (omega arith) (omega arith) e

  -- ---- the norms, and a write among them

  pub part_norms : (h rest : List Float) (j : ℕ) → j ≡ length h → part (flat (segments v b w a x r p q g (h ∷ rest ∷ []))) (at_norms n t) j ≡ h
  unfolding off
  part_norms h rest j e = part_seg (segments v b w a x r p q g (h ∷ rest ∷ [])) 9 (at_norms n t) j (omega arith) (omega arith) e

  pub put_norms : (h rest : List Float) (j : ℕ) (new : List Float) → j + length new ≤ length h
      → splice (flat (segments v b w a x r p q g (h ∷ rest ∷ []))) (at_norms n t + j) new ≡ flat (segments v b w a x r p q g (splice h j new ∷ rest ∷ []))
  unfolding off
  put_norms h rest j new e = splice-within (segments v b w a x r p q g (h ∷ rest ∷ [])) 9 j (at_norms n t + j) new (omega arith) (omega arith) e

  -- ---- behind the norms: the kept vectors, and what was lent beyond them

  module _ (h k rest : List Float) (limit : ℕ) (eh : length h ≡ limit + 1) (ek : length k ≡ 3 * n) where
    pub part_kept : part (flat (segments v b w a x r p q g (h ∷ (k ++ rest) ∷ []))) (at_kept n t limit) (3 * n) ≡ k
    unfolding off
    part_kept =
        let e : length (k ++ rest) ≡ length k + length rest = length-append k rest in
        part_within (segments v b w a x r p q g (h ∷ (k ++ rest) ∷ [])) 10 0 (at_kept n t limit) (3 * n) (omega arith) (omega arith) (omega arith)
        ∙ part_front k rest 0 (3 * n) (omega arith) ∙ part_all k (3 * n) (omega arith)

    pub put_kept : (y : List Float) → length y ≡ 3 * n → splice (flat (segments v b w a x r p q g (h ∷ (k ++ rest) ∷ []))) (at_kept n t limit) y ≡ flat (segments v b w a x r p q g (h ∷ (y ++ rest) ∷ []))
    unfolding off
    put_kept y ey =
        let e : length (k ++ rest) ≡ length k + length rest = length-append k rest in
        splice-within (segments v b w a x r p q g (h ∷ (k ++ rest) ∷ [])) 10 0 (at_kept n t limit) y (omega arith) (omega arith) (omega arith)
        ∙ ap (λ (l : List Float). flat (segments v b w a x r p q g (h ∷ l ∷ []))) (splice-front-all k rest y (omega arith))
