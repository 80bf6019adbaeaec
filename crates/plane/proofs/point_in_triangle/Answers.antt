-- `plane::point_in_triangle` meets its contract: each `any` is the disjunction over the three signs, which the calls ensure, by cases on the first. Assumes nothing.
use Rattle.std.proofs.Common.{◌≡◌, refl, ◌∙◌, Bool, true, false, ◌||◌, List, [], ◌∷◌, rules, tests}
use Rattle.std.specs.Prelude.{Float}
use Rattle.std.specs.Float.Ieee.{lt}
use Rattle.std.specs.List.{list_any}
use Rattle.std.proofs.lemmas.Iterator.{YieldsList-from_slice}
use Rattle.std.proofs.lemmas.Iterator.Search.{any_from_yields_List}
use Rattle.binary64.specs.Constants.{plus_zero}
use Rattle.plane.specs.Plane.{point_in_triangle}
use Rattle.plane.proofs.point_in_triangle.Goals as goal
use Rattle.plane.proofs.point_in_triangle.Goals.{then-has_negative, else-has_negative}

any_of_three : (f : Float → Bool) (a b c : Float) → list_any f (a ∷ b ∷ c ∷ []) ≡ (f a || f b || f c)
any_of_three f a b c = by (f a) (f b) (f c)
  where
    by : (p q r : Bool) → (p || (q || (r || false))) ≡ (p || q || r)
    by true q r = refl
    by false true r = refl
    by false false true = refl
    by false false false = refl

pub returns : goal.returns
unfolding point_in_triangle
returns c =
    let signs : List Float = c.sign.result ∷ c.sign-2.result ∷ c.sign-3.result ∷ [] in
    let negative = any_from_yields_List (λ x. lt x plus_zero) _ _ _ c.any-has_negative.ensures.ran (YieldsList-from_slice signs cc) (λ x b q k. search (rules, tests)) ∙ any_of_three (λ x. lt x plus_zero) c.sign.result c.sign-2.result c.sign-3.result in
    let positive = any_from_yields_List (λ x. lt plus_zero x) _ _ _ c.any-has_positive.ensures.ran (YieldsList-from_slice signs cc) (λ x b q k. search (rules, tests)) ∙ any_of_three (λ x. lt plus_zero x) c.sign.result c.sign-2.result c.sign-3.result in
    rw (← c.sign.ensures, ← c.sign-2.ensures, ← c.sign-3.ensures, ← negative, ← positive)
    (elim c.if-has_negative.branch [
      | then-has_negative w ↦ rw (w.result-is, w.if-has_negative.true)
      | else-has_negative w ↦ rw (w.result-is, w.if-has_negative.false)
    ])
