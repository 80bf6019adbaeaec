-- The place at which solving ended, from the norms and the field's end alone. Definitions only. Assumes nothing.
use Rattle.std.specs.Prelude.{ℕ, ◌+◌, ◌-◌, eqb, length}
use Rattle.binary64.specs.Number.{pick}
use Rattle.model.specs.Run.{Field}

-- Each pass adds a norm to the first, but for the one that ends with 2.
abbrev pub solved_at : ℕ → ℕ → ℕ
solved_at norms end = norms - 1 + pick (eqb end 2) 1 0

abbrev pub solved_place : Field → ℕ
solved_place f = solved_at (length f.norms) f.end
