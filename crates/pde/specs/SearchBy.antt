-- The first answer among numbered ones, of any type and by any `or_else`; `first_of` of Search is the case of Option. Definitions only. Assumes nothing.
use Rattle.std.specs.Prelude.{ℕ, zero, suc}

-- What f gives of the k numbers from i on: the first answer, by an `or_else` that keeps its first argument unless that is `nothing`.
unfoldable pub first_by : {A : Type 0} → (A → A → A) → A → (ℕ → A) → ℕ → ℕ → A
first_by or_else nothing f i zero = nothing
first_by or_else nothing f i (suc k) = or_else (f i) (first_by or_else nothing f (suc i) k)
