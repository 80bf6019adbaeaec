-- A test of a list's elements in turn refuses as the first that is refused, and how a loop comes to that. Assumes nothing.
use Prim.Native.Nat.{ℕ, suc, ◌+◌, ◌≤◌, ◌<◌}
use Rattle.std.specs.Prelude.{◌≡◌, List, [], ◌∷◌, length, get_or, drop, Result, Ok, Err, IsErrAnd, MatchResult}
use Rattle.std.proofs.Math.Path.{refl, sym, ap}
use Rattle.std.proofs.Common.{◌∙◌, subst, add-one, arith, drop_of_length-le}
use Rattle.std.proofs.Math.Seq.{drop-cons}
use Rattle.refusal.specs.Refusal.{number_of, fault}
use Rattle.refusal.specs.declared.Refusal.{Refusal}
use Rattle.refusal.specs.declared.Refusal.TheVariants.{Length, TooMany, Mismatch, OutsideSet, Setting, NotANumber, OutOfRange, Space, NoMark, Record}
use Rattle.format.specs.Refusal.{◌then◌, each}
use Rattle.format.specs.RefusalLaws.{then_first, then_second}
use Rattle.format.specs.Tries.{Tries}

-- no refusal has the number of none
pub refused : (e : Refusal) → number_of e ≡ 0 → ⊥
refused Length z = omega arith
refused TooMany z = omega arith
refused Mismatch z = omega arith
refused OutsideSet z = omega arith
refused Setting z = omega arith
refused NotANumber z = omega arith
refused OutOfRange z = omega arith
refused Space z = omega arith
refused NoMark z = omega arith
refused Record z = omega arith

-- what `?` hands on, and its number
pub handed : {A : Type 0} (r : Result A Refusal) (e : Refusal) → IsErrAnd r (λ (y : Refusal). y ≡ e) → r ≡ Err e
handed (Ok x) e h = absurd h
handed (Err y) e h = ap (λ (z : Refusal). Err z) h

pub handed_on : {A : Type 0} (r : Result A Refusal) (e : Refusal) → IsErrAnd r (λ (y : Refusal). y ≡ e) → fault r ≡ number_of e
handed_on r e h = ap fault (handed r e h)

-- a step that refuses ends it, and where it does not the next one decides
pub fault_first : {a : ℕ} (e : Refusal) (b : ℕ) → number_of e ≡ a → number_of e ≡ (a then b)
fault_first e b p = p ∙ sym (then_first b (λ z. refused e (p ∙ z)))

pub fault_second : {a b : ℕ} (r : ℕ) → 0 ≡ a → r ≡ b → r ≡ (a then b)
fault_second {a} {b} r p q = q ∙ sym (then_second b (sym p))

module _ {A : Type 0} (Answers : A → Result (Unit {0}) Refusal → Type 0) (f : A → ℕ) (tells : (x : A) (y : Result (Unit {0}) Refusal) → Answers x y → fault y ≡ f x) where
  step : (x : A) (xs : List A) (r y : Result (Unit {0}) Refusal) → fault y ≡ f x → MatchResult y (λ u. Tries Answers xs r) (λ e. r ≡ Err e)
      → (Tries Answers xs r → fault r ≡ each f xs) → fault r ≡ (f x then each f xs)
  step x xs r (Ok u) p m k = fault_second (fault r) p (k m)
  step x xs r (Err e) p m k = ap fault m ∙ fault_first e (each f xs) p

  -- where each answer's number is f of its element
  pub each_tried : (xs : List A) (r : Result (Unit {0}) Refusal) → Tries Answers xs r → fault r ≡ each f xs
  unfolding each
  each_tried [] r t = ap fault t
  each_tried (x ∷ xs) r t = step x xs r t.0 (tells x t.0 t.1) t.2 (each_tried xs r)

-- ---- the loop: what is left to try from here is what was to try at the start

module _ {A : Type 0} (Answers : A → Result (Unit {0}) Refusal → Type 0) (xs : List A) where
  abbrev pub Left : ℕ → Type 0
  Left i = (r : Result (Unit {0}) Refusal) → Tries Answers (drop i xs) r → Tries Answers xs r

  front : (i : ℕ) (x : A) → i < length xs → x ≡ get_or xs i x → drop i xs ≡ x ∷ drop (i + 1) xs
  front i x h e = rw add-one (drop-cons xs i x h ∙ ap (λ (y : A). y ∷ drop (suc i) xs) (sym e))

  pub tries_more : (i : ℕ) (x : A) → i < length xs → x ≡ get_or xs i x → Answers x (Ok tt) → Left i → Left (i + 1)
  tries_more i x h e p k r t = k r (subst (λ (l : List A). Tries Answers l r) (sym (front i x h e)) (Ok tt, p, t))

  pub tries_until : (i : ℕ) (x : A) (e : Refusal) → i < length xs → x ≡ get_or xs i x → Answers x (Err e) → Left i → Tries Answers xs (Err e)
  tries_until i x e h p q k = k (Err e) (subst (λ (l : List A). Tries Answers l (Err e)) (sym (front i x h p)) (Err e, q, refl))

  pub tries_all : (i : ℕ) → length xs ≤ i → Left i → Tries Answers xs (Ok tt)
  tries_all i h k = k (Ok tt) (subst (λ (l : List A). Tries Answers l (Ok tt)) (sym (drop_of_length-le xs h)) refl)
