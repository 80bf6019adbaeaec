-- A test that is made of a list's elements, each in turn, up to the first that it refuses. Definitions only. Assumes nothing.
use Rattle.std.specs.Prelude.{◌≡◌, List, [], ◌∷◌, Result, Ok, Err, MatchResult}
use Rattle.refusal.specs.declared.Refusal.{Refusal}

-- `Answers x y`: the test of x may answer y. r is the first refusal, and Ok where there is none.
abbrev pub Tries : {A : Type 0} → (A → Result (Unit {0}) Refusal → Type 0) → List A → Result (Unit {0}) Refusal → Type 0
Tries Answers [] r = r ≡ Ok tt
Tries Answers (x ∷ xs) r = (y : Result (Unit {0}) Refusal) × Answers x y × MatchResult y (λ _. Tries Answers xs r) (λ e. r ≡ Err e)
