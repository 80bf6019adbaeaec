-- What a pass does to the segments of the floats: a pass of solving moves the vectors and clears the product, the start pass writes the gradients, and a norm goes behind the norms.
-- Assumes nothing.
use Rattle.std.specs.Prelude.{ℕ, ◌+◌, ◌≤◌, ◌≡◌, refl, List, [], ◌∷◌, ◌++◌, length, Float}
use Rattle.std.proofs.Common.{arith}
use Rattle.std.proofs.lemmas.List.{length-replicate}
use Rattle.binary64.specs.Constants.{plus_zero}
use Rattle.stretch.specs.Stretch.{splice, flat}
use Rattle.laplace.specs.Placed.{padded}
use Rattle.work.specs.Layout.{at_x, at_r, at_p, at_norms}
use Rattle.work.specs.Memory.{cleared}
use Rattle.image.proofs.ImageLawsPadded.{length-padded, padded-more}
use Rattle.image.proofs.ImageLawsSegments.{zeros, Laid, segments, laid_x, laid_r, joined_segs, put_x, put_r, put_p, put_product, put_norms}

module _ {n t : ℕ} {v b w a x r p g : List Float} (l : Laid n t v b w a x r p (zeros n) g) where
  -- the product is clear already
  pub clear_segs : (back : List (List Float)) → cleared n t (flat (segments v b w a x r p (zeros n) g back)) ≡ flat (segments v b w a x r p (zeros n) g back)
  clear_segs back = put_product l back (zeros n) (length-replicate n plus_zero)

  -- x and r moved
  pub reached_segs : (back : List (List Float)) (x' r' : List Float) → length x' ≡ n → length r' ≡ n
      → cleared n t (splice (splice (flat (segments v b w a x r p (zeros n) g back)) (at_x n t) x') (at_r n t) r') ≡ flat (segments v b w a x' r' p (zeros n) g back)
  reached_segs back x' r' ex er =
      let lx : Laid n t v b w a x' r p (zeros n) g = laid_x l ex in
      let lr : Laid n t v b w a x' r' p (zeros n) g = laid_r lx er in
      rw (put_x l back x' ex, put_r lx back r' er) (put_product lr back (zeros n) (length-replicate n plus_zero))

  -- p moved too
  pub moved_segs : (back : List (List Float)) (x' r' p' : List Float) → length x' ≡ n → length r' ≡ n → length p' ≡ n
      → splice (cleared n t (splice (splice (flat (segments v b w a x r p (zeros n) g back)) (at_x n t) x') (at_r n t) r')) (at_p n t) p' ≡ flat (segments v b w a x' r' p' (zeros n) g back)
  moved_segs back x' r' p' ex er ep =
      let lr : Laid n t v b w a x' r' p (zeros n) g = laid_r (laid_x l ex) er in
      rw (reached_segs back x' r' ex er) (put_p lr back p' ep)

  -- a norm behind the norms
  pub norm_segs : (m : ℕ) (ns rest : List Float) (e : Float) → length ns + 1 ≤ m
      → splice (flat (segments v b w a x r p (zeros n) g []) ++ flat (padded m plus_zero ns ∷ rest ∷ [])) (at_norms n t + length ns) (e ∷ [])
      ≡ flat (segments v b w a x r p (zeros n) g (padded m plus_zero (ns ++ (e ∷ [])) ∷ rest ∷ []))
  norm_segs m ns rest e h =
      let k : length (padded m plus_zero ns) ≡ m = length-padded m plus_zero ns (omega arith) in
      rw (joined_segs l (padded m plus_zero ns ∷ rest ∷ []), put_norms l (padded m plus_zero ns) rest (length ns) (e ∷ []) (omega arith), padded-more m plus_zero ns (e ∷ []) (length ns) refl h)
