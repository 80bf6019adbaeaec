-- The first answer among numbered ones. Definitions only. Assumes nothing.
use Rattle.std.specs.Prelude.{ℕ, zero, suc, Option, Some, None}

abbrev pub or_else : {A : Type 0} → Option A → Option A → Option A
or_else (Some a) b = Some a
or_else None b = b

-- the first answer that f gives of the k numbers from i on
unfoldable pub first_of : {A : Type 0} → (ℕ → Option A) → ℕ → ℕ → Option A
first_of f i zero = None
first_of f i (suc k) = or_else (f i) (first_of f (suc i) k)
