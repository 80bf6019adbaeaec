-- Laws of refusals: when there is none, and how a loop finds the first. Assumes nothing.
use Prim.Native.Nat.{ℕ, zero, suc, ◌+◌, ◌≤◌, ◌<◌, zero-le, suc-le-suc}
use Rattle.std.specs.Prelude.{◌≡◌, Bool, true, false, ◌&&◌, length, get_or, take, Float}
use Rattle.std.proofs.Math.Path.{refl, sym, ap}
use Rattle.std.proofs.Common.{ap₂, ◌∙◌, le_of_suc-le-suc, add-one, arith, take_all}
use mathlib.Core.List.{List, [], ◌∷◌, ◌++◌, map}
use Rattle.std.proofs.Math.Seq.{take-suc}
use Rattle.std.specs.Float.Ieee.{is_nan}
use Rattle.binary64.specs.Number.{pick}
use Rattle.format.specs.Refusal.{◌then◌, each, real_fault}

-- ---- two refusals

pub record Neither (a b : ℕ) : Type 0 where
  pub first : a ≡ 0
  pub second : b ≡ 0

pub neither : (a b : ℕ) → a then b ≡ 0 → Neither a b
neither zero b h = record { first = refl; second = h }
neither (suc a) b h = absurd (omega arith)

pub then_none : {a b : ℕ} → a ≡ 0 → b ≡ 0 → a then b ≡ 0
then_none {a} {b} p q = ap (λ (x : ℕ). x then b) p ∙ q

pub then_second : {a : ℕ} (b : ℕ) → a ≡ 0 → a then b ≡ b
then_second b p = ap (λ (x : ℕ). x then b) p

pub then_first : {a : ℕ} (b : ℕ) → (a ≡ 0 → ⊥) → a then b ≡ a
then_first {a} b h = go a h
  where
    go : (a : ℕ) → (a ≡ 0 → ⊥) → a then b ≡ a
    go zero h = absurd (h refl)
    go (suc a) h = refl

pub then_assoc : (a b c : ℕ) → (a then b) then c ≡ a then (b then c)
then_assoc zero b c = refl
then_assoc (suc a) b c = refl

-- a step that refuses ends it, and where it does not the next one decides
pub refused_first : {a : ℕ} (h b : ℕ) → h ≡ a → (h ≡ 0 → ⊥) → h ≡ (a then b)
refused_first h b e z = e ∙ sym (then_first b (λ y. z (e ∙ y)))

pub decided_second : {a b : ℕ} (h r : ℕ) → h ≡ a → h ≡ 0 → r ≡ b → r ≡ (a then b)
decided_second {a} {b} h r e z p = p ∙ sym (then_second b (sym e ∙ z))

-- ---- a test

pub passes : (t : Bool) (k : ℕ) → pick t 0 (suc k) ≡ 0 → t ≡ true
passes true k h = refl
passes false k h = absurd (omega arith)

pub pick_true {ℓ} : {A : Type ℓ} {t : Bool} (a b : A) → t ≡ true → pick t a b ≡ a
pick_true a b e = ap (λ (t : Bool). pick t a b) e

pub pick_false {ℓ} : {A : Type ℓ} {t : Bool} (a b : A) → t ≡ false → pick t a b ≡ b
pick_false a b e = ap (λ (t : Bool). pick t a b) e

pub record Both (a b : Bool) : Type 0 where
  pub left : a ≡ true
  pub right : b ≡ true

pub both : (a b : Bool) → a && b ≡ true → Both a b
both true b h = record { left = refl; right = h }
both false b h = record { left = h; right = cc }

pub and_true : {a b : Bool} → a ≡ true → b ≡ true → a && b ≡ true
and_true {a} {b} p q = ap (λ (t : Bool). t && b) p ∙ q

pub record Proper (good : Float → Bool) (x : Float) : Type 0 where
  pub number : is_nan x ≡ false
  pub is : good x ≡ true

pub proper : (good : Float → Bool) (x : Float) → real_fault good x ≡ 0 → Proper good x
proper good x h = go (is_nan x) (good x) refl refl h
  where
    go : (a b : Bool) → is_nan x ≡ a → good x ≡ b → pick {A = ℕ} a 6 (pick b 0 7) ≡ 0 → Proper good x
    go true b p q h = absurd (omega arith)
    go false true p q h = record { number = p; is = q }
    go false false p q h = absurd (omega arith)

pub real_none : (good : Float → Bool) (x : Float) → is_nan x ≡ false → good x ≡ true → real_fault good x ≡ 0
real_none good x p q = ap₂ (λ (a b : Bool). pick a 6 (pick b 0 7)) p q

-- ---- each element

module _ {A : Type 0} (f : A → ℕ) where
  pub each_at : (xs : List A) (d : A) (i : ℕ) → each f xs ≡ 0 → i < length xs → f (get_or xs i d) ≡ 0
  unfolding each
  each_at [] d i h l = absurd (omega arith)
  each_at (x ∷ xs) d zero h l = (neither (f x) (each f xs) h).first
  each_at (x ∷ xs) d (suc i) h l = each_at xs d i (neither (f x) (each f xs) h).second (le_of_suc-le-suc l)

  pub each_none : (xs : List A) (d : A) → ((i : ℕ) → i < length xs → f (get_or xs i d) ≡ 0) → each f xs ≡ 0
  unfolding each
  each_none [] d h = refl
  each_none (x ∷ xs) d h = then_none (h 0 (suc-le-suc zero-le)) (each_none xs d (λ i l. h (suc i) (suc-le-suc l)))

  pub each_append : (xs ys : List A) → each f (xs ++ ys) ≡ each f xs then each f ys
  unfolding each
  each_append [] ys = refl
  each_append (x ∷ xs) ys = ap (λ (k : ℕ). f x then k) (each_append xs ys) ∙ sym (then_assoc (f x) (each f xs) (each f ys))

  -- A loop has found no refusal before element i.
  pub record Passed (xs : List A) (i : ℕ) : Type 0 where
    pub within : i ≤ length xs
    pub clean : each f (take i xs) ≡ 0

  pub passed_none : (xs : List A) → Passed xs 0
  unfolding each
  passed_none xs = record { within = zero-le; clean = refl }

  prefix : (xs : List A) (d : A) (i : ℕ) → i < length xs → each f (take (i + 1) xs) ≡ each f (take i xs) then f (get_or xs i d)
  unfolding each
  prefix xs d i l = rw (add-one, take-suc xs i d l) (each_append (take i xs) (get_or xs i d ∷ []) ∙ ap (λ (k : ℕ). each f (take i xs) then k) (last (f (get_or xs i d))))
    where
      last : (k : ℕ) → k then 0 ≡ k
      last zero = refl
      last (suc k) = refl

  pub passed_more : (xs : List A) (d : A) (i : ℕ) → Passed xs i → i < length xs → f (get_or xs i d) ≡ 0 → Passed xs (i + 1)
  passed_more xs d i p l e = record { within = omega arith; clean = prefix xs d i l ∙ then_none p.clean e }

  -- it finds one at i
  first_from_lem : (xs : List A) (d : A) (i : ℕ) → each f (take i xs) ≡ 0 → i < length xs → (f (get_or xs i d) ≡ 0 → ⊥) → each f xs ≡ f (get_or xs i d)
  unfolding each
  first_from_lem [] d i p l h = absurd (omega arith)
  first_from_lem (x ∷ xs) d zero p l h = then_first (each f xs) h
  first_from_lem (x ∷ xs) d (suc i) p l h =
      let q : Neither (f x) (each f (take i xs)) = neither (f x) (each f (take i xs)) p in
      then_second (each f xs) q.first ∙ first_from_lem xs d i q.second (le_of_suc-le-suc l) h

  pub passed_until : (xs : List A) (d : A) (i : ℕ) → Passed xs i → i < length xs → (f (get_or xs i d) ≡ 0 → ⊥) → each f xs ≡ f (get_or xs i d)
  passed_until xs d i p l h = first_from_lem xs d i p.clean l h

  -- there is none
  pub passed_all : (xs : List A) (i : ℕ) → Passed xs i → length xs ≤ i → each f xs ≡ 0
  passed_all xs i p l = sym (ap (each f) (take_all i xs l)) ∙ p.clean

pub each_map : {A B : Type 0} (f : B → ℕ) (g : A → B) (xs : List A) → each f (map g xs) ≡ each (λ (x : A). f (g x)) xs
unfolding each
each_map f g [] = refl
each_map f g (x ∷ xs) = ap (λ (k : ℕ). f (g x) then k) (each_map f g xs)

-- ---- the same, where r is what was found to refuse the i-th element

module _ {A : Type 0} (f : A → ℕ) (xs : List A) (d : A) where
  pub list_more : (i r : ℕ) → Passed f xs i → i < length xs → r ≡ f (get_or xs i d) → r ≡ 0 → Passed f xs (i + 1)
  list_more i r p h e z = passed_more f xs d i p h (sym e ∙ z)

  pub list_until : (i r : ℕ) → Passed f xs i → i < length xs → r ≡ f (get_or xs i d) → (r ≡ 0 → ⊥) → r ≡ each f xs
  list_until i r p h e z = e ∙ sym (passed_until f xs d i p h (λ y. z (e ∙ y)))

  pub list_all : (i : ℕ) → Passed f xs i → length xs ≤ i → 0 ≡ each f xs
  list_all i p h = sym (passed_all f xs i p h)
