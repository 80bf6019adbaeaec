-- A turn of each loop over the vectors: `x`, `r`, `p` and `q` are the vectors at entry, of which the first i elements are done. Assumes nothing.
use Rattle.std.specs.Prelude.{◌≡◌, refl, ℕ, ◌+◌, ◌≤◌, ◌<◌, List, [], ◌∷◌, ◌++◌, length, take, get_or, set, replicate, Float}
use Rattle.std.specs.Float.{nan, binary64}
use Rattle.std.specs.Float.Ieee.{sub}
use Rattle.std.proofs.Common.{sym, ap, ◌∙◌, add-one, zero-add, arith, take-suc, length-take-le}
use Rattle.std.proofs.Math.Seq.{take_all}
use Rattle.std.proofs.lemmas.List.{length-replicate, replicate-append-replicate}
use mathlib.Core.List.{zip_with}
use Rattle.binary64.specs.Arith.{◌⊕◌, ◌⊖◌, ◌⊗◌}
use Rattle.binary64.specs.Constants.{plus_zero}
use Rattle.stretch.specs.Stretch.{splice}
use Rattle.stretch.specs.StretchLaws.{splice_nil, splice_all, get_or-splice-after}
use Rattle.stretch.proofs.LoopLaws.{write_step}
use Rattle.stretch.specs.Vec.{dot, dot_from, plus, less}
use Rattle.stretch.proofs.VecLaws.{dot_snoc, length_zip, zip_snoc}
use Rattle.conjugate.specs.Passes.{AsLong, Stepped, Resides}

-- ---- a list whose front is written

module _ {A : Type 0} where
  front_step : (s l new : List A) (i : ℕ) (v : A) → length new ≡ i → l ≡ splice s 0 new → set l i v ≡ splice s 0 (new ++ (v ∷ []))
  front_step s l new i v e p = rw zero-add at (write_step s l 0 i new v e p)

  ahead : (s l new : List A) (i : ℕ) (d : A) → length new ≡ i → l ≡ splice s 0 new → get_or l i d ≡ get_or s i d
  ahead s l new i d e p = ap (λ (q : List A). get_or q i d) p ∙ get_or-splice-after s 0 new i d (omega arith)

-- ---- the first i pairs

module _ (f : Float → Float → Float) (u v : List Float) where
  abbrev zipped : ℕ → List Float
  zipped i = zip_with f (take i u) (take i v)

  length-zipped : (i : ℕ) → i ≤ length u → i ≤ length v → length (zipped i) ≡ i
  length-zipped i hu hv =
      let a : length (take i u) ≡ i = length-take-le i u hu in
      let b : length (take i v) ≡ i = length-take-le i v hv in
      length_zip f (take i u) (take i v) (a ∙ sym b) ∙ a

  zipped_more : (i : ℕ) → i < length u → i < length v → zipped (i + 1) ≡ zipped i ++ (f (get_or u i nan) (get_or v i nan) ∷ [])
  zipped_more i hu hv =
      let a : length (take i u) ≡ i = length-take-le i u (omega arith) in
      let b : length (take i v) ≡ i = length-take-le i v (omega arith) in
      rw (add-one i, take-suc u i nan hu, take-suc v i nan hv) (zip_snoc f (take i u) (take i v) (get_or u i nan) (get_or v i nan) (a ∙ sym b))

  zipped_all : (i : ℕ) → length u ≤ i → length v ≤ i → zipped i ≡ zip_with f u v
  zipped_all i hu hv = rw (take_all i u hu, take_all i v hv)

  -- a vector of n whose first i elements are written is written whole
  zipped_done : (s l : List Float) (n i : ℕ) → length u ≡ n → length v ≡ n → length s ≡ n → n ≤ i → l ≡ splice s 0 (zipped i) → l ≡ zip_with f u v
  zipped_done s l n i eu ev es h p =
      let w : zipped i ≡ zip_with f u v = zipped_all i (omega arith) (omega arith) in
      let long : length (zip_with f u v) ≡ length s = length_zip f u v (eu ∙ sym ev) ∙ eu ∙ sym es in
      p ∙ ap (λ (q : List Float). splice s 0 q) w ∙ splice_all s (zip_with f u v) long

-- ---- the product cleared

pub cleared_none : (q : List Float) → q ≡ splice q 0 (replicate 0 plus_zero)
cleared_none q = sym (splice_nil q 0)

pub cleared_step : (q l : List Float) (i : ℕ) → l ≡ splice q 0 (replicate i plus_zero) → set l i plus_zero ≡ splice q 0 (replicate (i + 1) plus_zero)
cleared_step q l i p =
    front_step q l (replicate i plus_zero) i plus_zero (length-replicate i plus_zero) p ∙ ap (λ (z : List Float). splice q 0 z) (replicate-append-replicate i 1 plus_zero)

pub cleared_ahead : (q l : List Float) (i : ℕ) → l ≡ splice q 0 (replicate i plus_zero) → get_or l i nan ≡ get_or q i nan
cleared_ahead q l i p = ahead q l (replicate i plus_zero) i nan (length-replicate i plus_zero) p

pub cleared_done : (q l : List Float) (n i : ℕ) → length q ≡ n → i ≡ n → l ≡ splice q 0 (replicate i plus_zero) → l ≡ replicate n plus_zero
cleared_done q l n i e h p = p ∙ rw h (splice_all q (replicate n plus_zero) (length-replicate n plus_zero ∙ sym e))

-- ---- p

pub record Directed (r p : List Float) (beta : Float) (i : ℕ) (l : List Float) : Type 0 where
  pub is : l ≡ splice p 0 (zipped (plus beta) r p i)

pub direct_none : (r p : List Float) (beta : Float) → Directed r p beta 0 p
unfolding zip_with
direct_none r p beta = record { is = sym (splice_nil p 0) }

pub direct_step : {r p l : List Float} {beta : Float} {i : ℕ} → length p ≡ length r → i < length r → Directed r p beta i l
    → Directed r p beta (i + 1) (set l i (get_or r i nan ⊕ beta ⊗ get_or l i nan))
direct_step {r} {p} {l} {beta} {i} e h d =
    let long : length (zipped (plus beta) r p i) ≡ i = length-zipped (plus beta) r p i (omega arith) (omega arith) in
    let g : get_or l i nan ≡ get_or p i nan = ahead p l (zipped (plus beta) r p i) i nan long d.is in
    record { is = rw (g, zipped_more (plus beta) r p i h (omega arith)) (front_step p l (zipped (plus beta) r p i) i (plus beta (get_or r i nan) (get_or p i nan)) long d.is) }

pub direct_done : {r p l : List Float} {beta : Float} (i : ℕ) → length p ≡ length r → length r ≤ i → Directed r p beta i l → l ≡ zip_with (plus beta) r p
direct_done {r} {p} {l} {beta} i e h d = zipped_done (plus beta) r p p l (length r) i refl e e h d.is

-- ---- x and r, along p and the product q

pub record Stepping (x r p q : List Float) (alpha : Float) (i : ℕ) (x' r' : List Float) (sum : Float) : Type 0 where
  pub x_is : x' ≡ splice x 0 (zipped (plus alpha) x p i)
  pub r_is : r' ≡ splice r 0 (zipped (less alpha) r q i)
  pub sum_is : sum ≡ dot (zipped (less alpha) r q i) (zipped (less alpha) r q i)

-- as long as p, with p in the place of the product
pub along_p : {x r p q : List Float} → AsLong (length p) x r q → AsLong (length p) x r p
along_p long = record { u_long = long.u_long; v_long = long.v_long; w_long = refl }

pub step_none : (x r p q : List Float) (alpha : Float) → Stepping x r p q alpha 0 x r plus_zero
unfolding zip_with dot dot_from
step_none x r p q alpha = record { x_is = sym (splice_nil x 0); r_is = sym (splice_nil r 0); sum_is = refl }

pub step_turn : {x r p q x' r' : List Float} {alpha sum : Float} {n i : ℕ} (qi v : Float) → AsLong n x r p → length q ≡ n → i < n → Stepping x r p q alpha i x' r' sum → qi ≡ get_or q i nan
    → v ≡ get_or r' i nan ⊖ alpha ⊗ qi → Stepping x r p q alpha (i + 1) (set x' i (get_or x' i nan ⊕ alpha ⊗ get_or p i nan)) (set r' i v) (sum ⊕ v ⊗ v)
step_turn {x} {r} {p} {q} {x'} {r'} {alpha} {sum} {n} {i} qi v long lq h d eq ev =
    let lx : length x ≡ n = long.u_long in
    let lr : length r ≡ n = long.v_long in
    let lp : length p ≡ n = long.w_long in
    let xs : List Float = zipped (plus alpha) x p i in
    let rs : List Float = zipped (less alpha) r q i in
    let ex : length xs ≡ i = length-zipped (plus alpha) x p i (omega arith) (omega arith) in
    let er : length rs ≡ i = length-zipped (less alpha) r q i (omega arith) (omega arith) in
    let gx : get_or x' i nan ≡ get_or x i nan = ahead x x' xs i nan ex d.x_is in
    let gr : get_or r' i nan ≡ get_or r i nan = ahead r r' rs i nan er d.r_is in
    let v_is : v ≡ less alpha (get_or r i nan) (get_or q i nan) = cc in
    let put_r : set r' i v ≡ splice r 0 (rs ++ (v ∷ [])) = front_step r r' rs i v er d.r_is in
    let summed : sum ⊕ v ⊗ v ≡ dot (rs ++ (v ∷ [])) (rs ++ (v ∷ [])) = ap (λ (z : Float). z ⊕ v ⊗ v) d.sum_is ∙ sym (dot_snoc rs rs v v refl) in
    let more-r : zipped (less alpha) r q (i + 1) ≡ rs ++ (v ∷ []) = zipped_more (less alpha) r q i (omega arith) (omega arith) ∙ ap (λ (z : Float). rs ++ (z ∷ [])) (sym v_is) in
    record {
      x_is = rw (gx, zipped_more (plus alpha) x p i (omega arith) (omega arith)) (front_step x x' xs i (plus alpha (get_or x i nan) (get_or p i nan)) ex d.x_is);
      r_is = rw more-r put_r;
      sum_is = rw more-r summed;
    }

pub step_done : {x r p q x' r' : List Float} {alpha sum : Float} {n : ℕ} (i : ℕ) → AsLong n x r p → length q ≡ n → n ≤ i → Stepping x r p q alpha i x' r' sum → Stepped x r p q alpha x' r' sum
step_done {x} {r} {p} {q} {x'} {r'} {alpha} {sum} {n} i long lq h d =
    let lx : length x ≡ n = long.u_long in
    let lr : length r ≡ n = long.v_long in
    let lp : length p ≡ n = long.w_long in
    let w : zipped (less alpha) r q i ≡ zip_with (less alpha) r q = zipped_all (less alpha) r q i (omega arith) (omega arith) in
    record {
      x_is = zipped_done (plus alpha) x p x x' n i lx lp lx h d.x_is;
      r_is = zipped_done (less alpha) r q r r' n i lr lq lr h d.r_is;
      sum_is = rw w at d.sum_is;
    }

-- ---- the residual, of b and the product q

pub record Residing (b q r p : List Float) (i : ℕ) (r' p' : List Float) (sum : Float) : Type 0 where
  pub r_is : r' ≡ splice r 0 (zipped (sub binary64) b q i)
  pub p_is : p' ≡ splice p 0 (zipped (sub binary64) b q i)
  pub sum_is : sum ≡ dot (zipped (sub binary64) b q i) (zipped (sub binary64) b q i)

pub resides_none : (b q r p : List Float) → Residing b q r p 0 r p plus_zero
unfolding zip_with dot dot_from
resides_none b q r p = record { r_is = sym (splice_nil r 0); p_is = sym (splice_nil p 0); sum_is = refl }

pub resides_turn : {b q r p r' p' : List Float} {sum : Float} {n i : ℕ} (v : Float) → AsLong n r p q → length b ≡ n → i < n → Residing b q r p i r' p' sum → v ≡ get_or b i nan ⊖ get_or q i nan
    → Residing b q r p (i + 1) (set r' i v) (set p' i v) (sum ⊕ v ⊗ v)
resides_turn {b} {q} {r} {p} {r'} {p'} {sum} {n} {i} v long lb h d ev =
    let lq : length q ≡ n = long.w_long in
    let vs : List Float = zipped (sub binary64) b q i in
    let e : length vs ≡ i = length-zipped (sub binary64) b q i (omega arith) (omega arith) in
    let more : zipped (sub binary64) b q (i + 1) ≡ vs ++ (v ∷ []) = zipped_more (sub binary64) b q i (omega arith) (omega arith) ∙ ap (λ (z : Float). vs ++ (z ∷ [])) (sym ev) in
    let summed : sum ⊕ v ⊗ v ≡ dot (vs ++ (v ∷ [])) (vs ++ (v ∷ [])) = ap (λ (z : Float). z ⊕ v ⊗ v) d.sum_is ∙ sym (dot_snoc vs vs v v refl) in
    record { r_is = rw more (front_step r r' vs i v e d.r_is); p_is = rw more (front_step p p' vs i v e d.p_is); sum_is = rw more summed }

pub resides_done : {b q r p r' p' : List Float} {sum : Float} {n : ℕ} (i : ℕ) → AsLong n r p q → length b ≡ n → n ≤ i → Residing b q r p i r' p' sum → Resides b q r' p' sum
resides_done {b} {q} {r} {p} {r'} {p'} {sum} {n} i long lb h d =
    let lr : length r ≡ n = long.u_long in
    let lp : length p ≡ n = long.v_long in
    let lq : length q ≡ n = long.w_long in
    let w : zipped (sub binary64) b q i ≡ zip_with (sub binary64) b q = zipped_all (sub binary64) b q i (omega arith) (omega arith) in
    record {
      r_is = zipped_done (sub binary64) b q r r' n i lb lq lr h d.r_is;
      p_is = zipped_done (sub binary64) b q p p' n i lb lq lp h d.p_is;
      sum_is = rw w at d.sum_is;
    }

-- ---- p·Ap, with the product q

pub curve_none : (p q : List Float) → plus_zero ≡ dot (take 0 p) (take 0 q)
unfolding dot dot_from
curve_none p q = refl

pub curve_step : (p q : List Float) {sum : Float} (i : ℕ) (y : Float) → i < length p → length q ≡ length p → y ≡ get_or q i nan → sum ≡ dot (take i p) (take i q)
    → sum ⊕ get_or p i nan ⊗ y ≡ dot (take (i + 1) p) (take (i + 1) q)
curve_step p q {sum} i y h e ey d =
    let a : length (take i p) ≡ i = length-take-le i p (omega arith) in
    let b : length (take i q) ≡ i = length-take-le i q (omega arith) in
    let hq : i < length q = omega arith in
    rw (d, ey, add-one i, take-suc p i nan h, take-suc q i nan hq) (sym (dot_snoc (take i p) (take i q) (get_or p i nan) (get_or q i nan) (a ∙ sym b)))

pub curve_done : (p q : List Float) {sum : Float} (i : ℕ) → length p ≤ i → length q ≡ length p → sum ≡ dot (take i p) (take i q) → sum ≡ dot p q
curve_done p q {sum} i h e d = let hq : length q ≤ i = omega arith in rw (take_all i p h, take_all i q hq) at d
