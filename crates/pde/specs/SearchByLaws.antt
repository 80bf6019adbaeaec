-- Laws of a search by any `or_else`: what is left of it from a number on, a turn of a loop that makes it, its end, and a search within a search. Assumes nothing.
use Rattle.std.specs.Prelude.{◌≡◌, refl, Option, Some, None}
use Rattle.std.proofs.Common.{sym, ◌∙◌, add-one}
use Rattle.std.proofs.Math.Path.{ap}
use Prim.Native.Nat.{ℕ, zero, suc, ◌+◌, ◌-◌, ◌≤◌, ◌<◌}
use native.Mathlib.Omega.{arith}
use Rattle.pde.specs.Search as Search
use Rattle.pde.specs.SearchBy.{first_by}

module _ {A : Type 0} (or_else : A → A → A) where
  -- what f gives of the numbers from i to n − 1, and `rest` where it gives nothing
  unfoldable pub left_of : A → (ℕ → A) → ℕ → ℕ → A
  left_of rest f i n = first_by or_else rest f i (n - i)

  pub left-all : (rest : A) (f : ℕ → A) (n : ℕ) → first_by or_else rest f 0 n ≡ left_of rest f 0 n
  unfolding left_of
  left-all rest f n = let e : n - 0 ≡ n = omega arith in rw e

  left_step : (rest : A) (f : ℕ → A) (i n : ℕ) → i < n → left_of rest f i n ≡ or_else (f i) (left_of rest f (i + 1) n)
  unfolding left_of first_by
  left_step rest f i n h = let e : n - i ≡ suc (n - suc i) = omega arith in rw (e, add-one)

  then_rest : (none rest : A) (f : ℕ → A) → or_else none rest ≡ rest → ((a b : A) → or_else (or_else a b) rest ≡ or_else a (or_else b rest)) → (i k : ℕ)
      → or_else (first_by or_else none f i k) rest ≡ first_by or_else rest f i k
  unfolding first_by
  then_rest none rest f e assoc i zero = e
  then_rest none rest f e assoc i (suc k) = assoc (f i) (first_by or_else none f (suc i) k) ∙ ap (λ (s : A). or_else (f i) s) (then_rest none rest f e assoc (suc i) k)

  -- a search and then another answer
  pub left_then : (none rest : A) (f : ℕ → A) → or_else none rest ≡ rest → ((a b : A) → or_else (or_else a b) rest ≡ or_else a (or_else b rest)) → (n : ℕ)
      → or_else (first_by or_else none f 0 n) rest ≡ left_of rest f 0 n
  left_then none rest f e assoc n = then_rest none rest f e assoc 0 n ∙ left-all rest f n

  -- a turn, and the end; w is the answer of the whole search
  module _ {w : A} (rest : A) (f : ℕ → A) (i n : ℕ) where
    pub left_skip : (none : A) → ((s : A) → or_else none s ≡ s) → i < n → f i ≡ none → w ≡ left_of rest f i n → w ≡ left_of rest f (i + 1) n
    left_skip none skips h e p = p ∙ left_step rest f i n h ∙ ap (λ (s : A). or_else s (left_of rest f (i + 1) n)) e ∙ skips (left_of rest f (i + 1) n)

    pub left_found : (a : A) → ((s : A) → or_else a s ≡ a) → i < n → f i ≡ a → w ≡ left_of rest f i n → a ≡ w
    left_found a keeps h e p = sym (p ∙ left_step rest f i n h ∙ ap (λ (s : A). or_else s (left_of rest f (i + 1) n)) e ∙ keeps (left_of rest f (i + 1) n))

    pub left_done : n ≤ i → w ≡ left_of rest f i n → w ≡ rest
    unfolding left_of first_by
    left_done h p = let e : n - i ≡ 0 = omega arith in rw e at p

  -- a search in a turn of a search
  pub left_enter : {w : A} (none : A) (skips : (s : A) → or_else none s ≡ s) (assoc : (a b s : A) → or_else (or_else a b) s ≡ or_else a (or_else b s)) (rest : A) (f g : ℕ → A) (i n k : ℕ)
      → i < n → f i ≡ first_by or_else none g 0 k → w ≡ left_of rest f i n → w ≡ left_of (left_of rest f (i + 1) n) g 0 k
  left_enter none skips assoc rest f g i n k h e p =
      let next : A = left_of rest f (i + 1) n in
      p ∙ left_step rest f i n h ∙ ap (λ (s : A). or_else s next) e ∙ left_then none next g (skips next) (λ a b. assoc a b next) k

-- the `or_else` of Search may be taken from either side first
pub or_else-assoc : {A : Type 0} (a b c : Option A) → Search.or_else (Search.or_else a b) c ≡ Search.or_else a (Search.or_else b c)
or_else-assoc None b c = refl
or_else-assoc (Some x) b c = refl

-- the search of Search is one of these
pub first_by-option : {A : Type 0} (f : ℕ → Option A) (i k : ℕ) → Search.first_of f i k ≡ first_by Search.or_else None f i k
unfolding Search.first_of first_by
first_by-option f i zero = refl
first_by-option f i (suc k) = ap (λ (o : Option _). Search.or_else (f i) o) (first_by-option f (suc i) k)
