-- Laws of a list that is padded to a length: its length and its front, more behind what is there, and what is there put back to the padding.
-- Assumes nothing.
use Rattle.std.specs.Prelude.{ℕ, ◌+◌, ◌-◌, ◌≤◌, ◌≡◌, refl}
use Rattle.std.proofs.Math.Path.{sym, ap}
use Rattle.std.proofs.Common.{◌∙◌}
use mathlib.Core.List.{List, [], ◌++◌, append_assoc}
use native.Mathlib.Omega.{arith}
use Rattle.std.proofs.Math.ListN.{length, replicate, length-append, replicate-append-replicate}
use Rattle.std.proofs.lemmas.List.{length-replicate}
use Rattle.stretch.specs.Stretch.{part, splice}
use Rattle.stretch.specs.StretchLaws.{part_front, part_all, splice-front-all, splice_rest}
use Rattle.laplace.specs.Placed.{padded}

module _ {A : Type 0} where
  pub length-padded : (k : ℕ) (d : A) (xs : List A) → length xs ≤ k → length (padded k d xs) ≡ k
  unfolding padded
  length-padded k d xs h = length-append xs (replicate (k - length xs) d) ∙ ap (λ (j : ℕ). length xs + j) (length-replicate (k - length xs) d) ∙ omega arith

  pub part_padded : (k : ℕ) (d : A) (xs : List A) (n : ℕ) → length xs ≡ n → part (padded k d xs) 0 n ≡ xs
  unfolding padded
  part_padded k d xs n e = part_front xs (replicate (k - length xs) d) 0 n (omega arith) ∙ part_all xs n (omega arith)

  -- nothing but padding
  pub padded_nil : (k : ℕ) (d : A) → padded k d [] ≡ replicate k d
  unfolding padded
  padded_nil k d = let e : k - 0 ≡ k = omega arith in rw e

  splice_padding : (j : ℕ) (d : A) (new : List A) → length new ≤ j → splice (replicate j d) 0 new ≡ new ++ replicate (j - length new) d
  splice_padding j d new h =
      let e : j ≡ length new + (j - length new) = omega arith in
      ap (λ (i : ℕ). splice (replicate i d) 0 new) e
      ∙ ap (λ (l : List A). splice l 0 new) (sym (replicate-append-replicate (length new) (j - length new) d))
      ∙ splice-front-all (replicate (length new) d) (replicate (j - length new) d) new (sym (length-replicate (length new) d))

  -- more behind what is there
  pub padded-more : (k : ℕ) (d : A) (xs new : List A) (at : ℕ) → length xs ≡ at → at + length new ≤ k → splice (padded k d xs) at new ≡ padded k d (xs ++ new)
  unfolding padded
  padded-more k d xs new at e h =
      let a : at ≡ length xs + 0 = omega arith in
      let j : k - length xs - length new ≡ k - length (xs ++ new) = omega (arith, length-append xs new) in
      ap (λ (i : ℕ). splice (xs ++ replicate (k - length xs) d) i new) a
      ∙ splice_rest xs (replicate (k - length xs) d) 0 new
      ∙ ap (λ (l : List A). xs ++ l) (splice_padding (k - length xs) d new (omega arith))
      ∙ sym (append_assoc xs new (replicate (k - length xs - length new) d))
      ∙ ap (λ (i : ℕ). xs ++ new ++ replicate i d) j

  -- what stands behind xs is padding again
  pub padded-cut : (k : ℕ) (d : A) (xs ys : List A) (at n : ℕ) → length xs ≡ at → length ys ≡ n → at + n ≤ k → splice (padded k d (xs ++ ys)) at (replicate n d) ≡ padded k d xs
  unfolding padded
  padded-cut k d xs ys at n e f h =
      let z = replicate (k - length (xs ++ ys)) d in
      let a : at ≡ length xs + 0 = omega arith in
      let j : n + (k - length (xs ++ ys)) ≡ k - length xs = omega (arith, length-append xs ys) in
      ap (λ (l : List A). splice l at (replicate n d)) (append_assoc xs ys z)
      ∙ ap (λ (i : ℕ). splice (xs ++ (ys ++ z)) i (replicate n d)) a
      ∙ splice_rest xs (ys ++ z) 0 (replicate n d)
      ∙ ap (λ (l : List A). xs ++ l) (splice-front-all ys z (replicate n d) (length-replicate n d ∙ sym f) ∙ replicate-append-replicate n (k - length (xs ++ ys)) d)
      ∙ ap (λ (i : ℕ). xs ++ replicate i d) j

  pub padded_erased : (k : ℕ) (d : A) (xs : List A) (n : ℕ) → length xs ≡ n → n ≤ k → splice (padded k d xs) 0 (replicate n d) ≡ padded k d []
  padded_erased k d xs n e h = padded-cut k d [] xs 0 n refl e (omega arith)
