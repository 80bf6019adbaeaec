-- Laws of the search for the nearest exit: what it starts from, and that it is a fold over the three edges. Assumes nothing.
use denote.Param.Members.{Mut}
use mathlib.Core.Path.{◌≡◌, refl}
use mathlib.Core.Bool.{false}
use mathlib.Core.List.{List}
use Prim.Native.Nat.{ℕ}
use lib.Ieee.{Float, binary64, inf, of_bits}
use Rattle.std.specs.Prelude.{[], ◌∷◌, Option, None}
use Rattle.std.specs.Fn.{Called}
use Rattle.std.specs.Iterator.{Drains}
use Rattle.std.specs.List.{FoldsTo, fold, range_with_len}
use Rattle.std.proofs.Common.{sym, ap, ◌∙◌}
use Rattle.std.proofs.lemmas.Fn.{fold_over}
use Rattle.std.proofs.lemmas.Iterator.{YieldsList}
use Rattle.std.proofs.lemmas.List.Sums.{fold-append}
use Rattle.binary64.specs.Root.{root}
use Rattle.plane.specs.declared.Point.{Point}
use Rattle.pde.specs.Exit.{Nearest, nearest, considered, nearest_of}

-- ---- the exit

-- what the code starts from
pub infinite : of_bits binary64 9218868437227405312 ≡ inf false
unfolding of_bits
infinite = refl

module _ (least : Float) (vs : List Float) (ts : List ℕ) (t : ℕ) (pos dir : Point) (entry : ℕ) where
  pub nearest_none : nearest (root (of_bits binary64 9218868437227405312)) None ≡ nearest_of least vs ts t pos dir entry 0
  unfolding nearest_of root
  nearest_none = rw infinite

  pub nearest_fold : fold (λ (best : Nearest) (e : ℕ). considered least vs ts t pos dir entry e best) (nearest_of least vs ts t pos dir entry 0) (range_with_len 0 3) ≡ nearest_of least vs ts t pos dir entry 3
  unfolding nearest_of
  nearest_fold = refl

-- ---- a fold by a closure, read by a function of the total

pub folded : {S A C D F : Type 0} {steps : S → Option A → S → Type 0} {g : Mut F (C × (A × Unit {0})) C} {f : F} {s : S} {all : List A} (read : C → D) (h : D → A → D) (a r : C)
    → (xs : List A) × (q : F) × Drains steps s xs × FoldsTo {P = F × C} (λ p x b. Called g p.0 (p.1, (x, tt)) b.1 b.0) (f, a) xs (q, r)
    → YieldsList steps (λ x. x) s all → ((b : C) (x : A) (b' : C) (q : F) → Called g f (b, (x, tt)) b' q → (q ≡ f) × (read b' ≡ h (read b) x)) → read r ≡ fold h (read a) all
folded {steps = steps} {g = g} {f = f} {s = s} {all = all} read h a r d e k =
    fold_over steps (λ x. x) g (λ ys b. read b ≡ fold h (read a) ys) f
    (λ ys b x b' q j c. let t = k b x b' q c in (t.1 ∙ ap (λ z. h z x) j ∙ sym (fold-append h (read a) ys (x ∷ [])), t.0)) s all a r e.runs refl d
