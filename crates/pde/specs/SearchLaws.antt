-- Laws of a search among numbered answers: what is left of it from a number on, a turn of a loop that makes it, and its end; what `find` and `find_map` over a range find. Assumes nothing.
use denote.Param.Members.{Mut}
use denote.Ref.{Bor}
use Rattle.std.specs.Prelude.{is_some, unwrap_or, refl, ◌≡◌, ℕ, suc, ◌+◌, ◌-◌, ◌≤◌, ◌<◌, List, [], ◌∷◌, Option, Some, None, Bool, true, false, cond, find, zero}
use Rattle.std.proofs.Common.{sym, ◌∙◌, ap, subst, add-one, arith}
use Rattle.std.specs.Fn.{Called, CalledAt}
use Rattle.std.specs.Option.{MatchOption, IfSome, IsSomeAnd, option_map}
use Rattle.std.specs.Iterator.{AlwaysYields, Yields, YieldsThen}
use Rattle.std.specs.List.{FoldsTo}
use Rattle.std.specs.Bool.{⊤}
use Rattle.std.specs.Iterator.Runs.{SomeRun, YieldsRun, CallKeepsClosure, AllItemsGive, IsFirstToGive}
use Rattle.std.proofs.lemmas.Bool.{false≢true}
use Rattle.std.proofs.lemmas.Iterator.{YieldsList}
use Rattle.std.proofs.lemmas.Iterator.Search.{find_from_yields_List}
use Rattle.std.specs.List.{range_with_len, slice_get}
use Rattle.binary64.specs.Number.{pick}
use Rattle.pde.specs.Search.{or_else, first_of}

module _ {A : Type 0} (f : ℕ → Option A) where
  -- what f gives of the numbers from i to n − 1
  unfoldable pub left_of : ℕ → ℕ → Option A
  left_of i n = first_of f i (n - i)

  pub left-all : (n : ℕ) → first_of f 0 n ≡ left_of 0 n
  unfolding left_of
  left-all n = let e : n - 0 ≡ n = omega arith in rw e

  left_step : (i n : ℕ) → i < n → left_of i n ≡ or_else (f i) (left_of (i + 1) n)
  unfolding left_of first_of
  left_step i n h = let e : n - i ≡ suc (n - suc i) = omega arith in rw (e, add-one)

  -- a turn, and the end; w is the answer of the whole search
  module _ {w : Option A} (i n : ℕ) where
    pub left_skip : i < n → f i ≡ None → w ≡ left_of i n → w ≡ left_of (i + 1) n
    left_skip h e p = p ∙ left_step i n h ∙ ap (λ (s : Option A). or_else s (left_of (i + 1) n)) e

    pub left_found : {a : A} → i < n → f i ≡ Some a → w ≡ left_of i n → Some a ≡ w
    left_found {a} h e p = sym (p ∙ left_step i n h ∙ ap (λ (s : Option A). or_else s (left_of (i + 1) n)) e)

    pub left_done : n ≤ i → w ≡ left_of i n → None ≡ w
    unfolding left_of first_of
    left_done h p = let e : n - i ≡ 0 = omega arith in sym (rw e at p)

-- A search by a test, as `find` over a range makes it, is one among the answers that the test lets through.
pub find_first : {A : Type 0} (g : ℕ → A) (test : ℕ → Bool) (i k : ℕ) → option_map g (find test (range_with_len i k)) ≡ first_of (λ j. pick (test j) (Some (g j)) None) i k
unfolding first_of
find_first {A} g test i zero = refl
find_first {A} g test i (suc k) =
    let left : Option A = first_of (λ j. pick (test j) (Some (g j)) None) (suc i) k in
    elim (test i) as (λ b. option_map g (cond b (Some i) (find test (range_with_len (i + 1) k))) ≡ or_else (pick b (Some (g i)) None) left) [
      | true ↦ refl
      | false ↦ rw add-one (find_first g test (suc i) k)
    ]

find_below : (test : ℕ → Bool) (i k : ℕ) {a : ℕ} → find test (range_with_len i k) ≡ Some a → a < i + k
find_below test i zero h = absurd (false≢true (ap is_some h))
find_below test i (suc k) {a} h =
    let P : Bool → Type 0 = λ b. cond b (Some i) (find test (range_with_len (i + 1) k)) ≡ Some a → a < i + suc k in
    let each : (b : Bool) → P b = λ b. elim b as P [ true ↦ λ e. omega (arith, ap (λ (o : Option ℕ). unwrap_or o 0) e) | false ↦ λ e. omega (arith, find_below test (i + 1) k e) ] in
    each (test i) h

-- what `find` over a range found, and what `map` made of it; `ran` is what `find` ensures
module _ {S F : Type 0} {steps : S → Option ℕ → S → Type 0} {g : Mut F (Bor ℕ × Unit {0}) Bool} {f : F} {s : S} (u : S) (test : ℕ → Bool) (n : ℕ) (found : Option ℕ)
    (ran : (xs : List ℕ) × (j : F) × YieldsThen steps s xs found u × FoldsTo (λ p x q. CalledAt g p x false q) f xs j × MatchOption found ⊤ (λ x. (h : F) × CalledAt g j x true h))
    (all : YieldsList steps (λ x. x) s (range_with_len 0 n)) (by : (x : ℕ) (b : Bool) (q : F) → CalledAt g f x b q → (q ≡ f) × (b ≡ test x)) where
  found_is : option_map (λ x. x) found ≡ find test (range_with_len 0 n)
  found_is = find_from_yields_List test u f found ran all by

  pub searched : {A : Type 0} (give : ℕ → A) {r : Option A} → r ≡ option_map give found → r ≡ first_of (λ j. pick (test j) (Some (give j)) None) 0 n
  searched {A} give {r} p = p ∙ ap (λ (o : Option ℕ). option_map give o) (same found) ∙ ap (λ (o : Option ℕ). option_map give o) found_is ∙ find_first give test 0 n
    where
      same : (o : Option ℕ) → o ≡ option_map (λ x. x) o
      same None = refl
      same (Some x) = refl

  pub searched_below : {a : ℕ} → found ≡ Some a → a < n
  searched_below {a} p = omega (arith, find_below test 0 n (sym (rw p at found_is)))

-- ---- A search by answers, as `find_map` over a range makes it, is one among the same answers.

module _ {S A : Type 0} (steps : S → Option ℕ → S → Type 0) (h : ℕ → Option A) where
  -- nothing among the numbers of a whole run
  none_among : (xs : List ℕ) (i n : ℕ) (s t u : S) → AlwaysYields steps (λ x. x) s (range_with_len i n) → Yields steps s xs t → steps t None u
      → ((k : ℕ) → IfSome (slice_get xs k) (λ x. None ≡ h x)) → None ≡ first_of h i n
  unfolding first_of
  none_among [] i zero s t u e y p a = refl
  none_among [] i (suc n) s t u e y p a = absurd (e.0 u (subst (λ k. steps k None u) (sym y) p))
  none_among (x ∷ xs) i zero s t u e y p a = absurd (e x y.0 y.1)
  none_among (x ∷ xs) i (suc n) s t u e y p a =
      let q = e.1 x y.0 y.1 in
      let more : None ≡ first_of h (i + 1) n = none_among xs (i + 1) n y.0 t u q.1 y.2 p (λ k. a (suc k)) in
      subst (λ (o : Option A). None ≡ or_else o (first_of h (suc i) n)) (a 0 ∙ ap h q.0) (rw add-one at more)

  -- the answer at the last number of a run
  some_among : {a : A} (xs : List ℕ) (j i n : ℕ) (s t : S) → AlwaysYields steps (λ x. x) s (range_with_len i n) → Yields steps s xs t
      → IsSomeAnd (slice_get xs j) (λ x. Some a ≡ h x) → ((k : ℕ) → k < j → IsSomeAnd (slice_get xs k) (λ x. None ≡ h x)) → Some a ≡ first_of h i n
  unfolding first_of
  some_among [] j i n s t e y f b = absurd f
  some_among (x ∷ xs) j i zero s t e y f b = absurd (e x y.0 y.1)
  some_among {a} (x ∷ xs) zero i (suc n) s t e y f b =
      subst (λ (o : Option A). Some a ≡ or_else o (first_of h (suc i) n)) (f ∙ ap h (e.1 x y.0 y.1).0) refl
  some_among {a} (x ∷ xs) (suc j) i (suc n) s t e y f b =
      let q = e.1 x y.0 y.1 in
      let more : Some a ≡ first_of h (i + 1) n = some_among xs j (i + 1) n y.0 t q.1 y.2 f (λ k l. b (suc k) (omega arith)) in
      subst (λ (o : Option A). Some a ≡ or_else o (first_of h (suc i) n)) (b 0 (omega arith) ∙ ap h q.0) (rw add-one at more)

if_in : {P Q : ℕ → Type 0} → ((x : ℕ) → P x → Q x) → (o : Option ℕ) → IfSome o P → IfSome o Q
if_in m None i = tt
if_in m (Some x) i = m x i

is_in : {P Q : ℕ → Type 0} → ((x : ℕ) → P x → Q x) → (o : Option ℕ) → IsSomeAnd o P → IsSomeAnd o Q
is_in m None i = i
is_in m (Some x) i = m x i

module _ {S A F : Type 0} {steps : S → Option ℕ → S → Type 0} (g : Mut F (ℕ × Unit {0}) (Option A)) {f : F} {s : S} (h : ℕ → Option A) where
  pub mapped_first : (n : ℕ) (r : Option A)
      → SomeRun steps s (λ p. MatchOption r ((p.whole ≡ true) × AllItemsGive p g f None) (λ y. (i : ℕ) × (i < p.len) × (p.len ≡ i + 1) × IsFirstToGive p g f (Some y) None i))
      → YieldsList steps (λ x. x) s (range_with_len 0 n) → ((x : ℕ) (o : Option A) (q : F) → Called g f (x, tt) o q → (q ≡ f) × (o ≡ h x)) → r ≡ first_of h 0 n
  unfolding YieldsRun
  mapped_first n None run e k =
      let p = run.0 in
      let keeps : CallKeepsClosure g f = λ a o q c. (k a.0 o q c).0 in
      let drained = p.gave.0 in
      let ended = drained.2 run.2.0 in
      let yields = subst (λ (v : S). AlwaysYields steps (λ x. x) v (range_with_len 0 n)) (sym run.1) e.runs in
      none_among steps h p.items 0 n p.from drained.0 ended.0 yields drained.1 ended.1
      (λ j. subst (λ (o : Option ℕ). IfSome o (λ x. None ≡ h x)) (p.gave.1 j) (if_in (λ x c. (k x None f c).1) (p.at j) (run.2.1 keeps j)))
  mapped_first n (Some y) run e k =
      let p = run.0 in
      let keeps : CallKeepsClosure g f = λ a o q c. (k a.0 o q c).0 in
      let drained = p.gave.0 in
      let found = run.2.3 keeps in
      let yields = subst (λ (v : S). AlwaysYields steps (λ x. x) v (range_with_len 0 n)) (sym run.1) e.runs in
      some_among steps h p.items run.2.0 0 n p.from drained.0 yields drained.1
      (subst (λ (o : Option ℕ). IsSomeAnd o (λ x. Some y ≡ h x)) (p.gave.1 run.2.0) (is_in (λ x c. (k x (Some y) f c).1) (p.at run.2.0) found.0))
      (λ j l. subst (λ (o : Option ℕ). IsSomeAnd o (λ x. None ≡ h x)) (p.gave.1 j) (is_in (λ x c. (k x None f c).1) (p.at j) (found.1 j l)))
