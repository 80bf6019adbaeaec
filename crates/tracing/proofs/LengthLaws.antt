-- Laws of a path's length: where it has fewer than two numbers, from the first point on, a point more, and the end. Assumes nothing.
use Rattle.std.proofs.Common.{◌≡◌, ◌<◌, List, [], ◌∷◌, ◌++◌, length, get_or, sym, refl, ap, ◌∙◌, arith}
use lib.Ieee.{Float, nan}
use Rattle.binary64.specs.Arith.{◌⊕◌}
use Rattle.binary64.specs.Constants.{plus_zero}
use Rattle.plane.specs.declared.Point.{Point}
use Rattle.plane.specs.Plane.{point}
use Rattle.pde.specs.Exit.{distance}
use Rattle.pde.specs.Path.{length_from, length_of}

-- the point of two numbers
abbrev pub point_in : List Float → Point
point_in two = point (get_or two 0 nan) (get_or two 1 nan)

pub length-short : (l : List Float) → length l < 2 → plus_zero ≡ length_of l
unfolding length_of
length-short [] h = refl
length-short (x ∷ []) h = refl
length-short (x ∷ y ∷ l) h = absurd (omega arith)

first : (two rest : List Float) → length two ≡ 2 → length_of (two ++ rest) ≡ length_from plus_zero (point_in two) rest
unfolding length_of
first [] rest h = absurd (omega arith)
first (x ∷ []) rest h = absurd (omega arith)
first (x ∷ y ∷ []) rest h = refl
first (x ∷ y ∷ z ∷ l) rest h = absurd (omega arith)

pub length_first : (l two rest : List Float) → l ≡ two ++ rest → length two ≡ 2 → length_of l ≡ length_from plus_zero (point_in two) rest
length_first l two rest e h = ap length_of e ∙ first two rest h

step : (sum : Float) (p : Point) (two rest : List Float) → length two ≡ 2 → length_from sum p (two ++ rest) ≡ length_from (sum ⊕ distance p (point_in two)) (point_in two) rest
unfolding length_from
step sum p [] rest h = absurd (omega arith)
step sum p (x ∷ []) rest h = absurd (omega arith)
step sum p (x ∷ y ∷ []) rest h = refl
step sum p (x ∷ y ∷ z ∷ l) rest h = absurd (omega arith)

-- a point more
pub length_step : (sum d : Float) (p : Point) (l two rest : List Float) {w : Float} → l ≡ two ++ rest → length two ≡ 2 → d ≡ distance p (point_in two)
    → w ≡ length_from sum p l → w ≡ length_from (sum ⊕ d) (point_in two) rest
length_step sum d p l two rest e h g f =
    f ∙ ap (length_from sum p) e ∙ step sum p two rest h ∙ ap (λ (x : Float). length_from (sum ⊕ x) (point_in two) rest) (sym g)

-- fewer than two numbers left
last : (l : List Float) (sum : Float) (p : Point) → length l < 2 → length_from sum p l ≡ sum
unfolding length_from
last [] sum p h = refl
last (x ∷ []) sum p h = refl
last (x ∷ y ∷ l) sum p h = absurd (omega arith)

pub length-end : (l : List Float) (sum : Float) (p : Point) {w : Float} → length l < 2 → w ≡ length_from sum p l → sum ≡ w
length-end l sum p h e = sym (e ∙ last l sum p h)
