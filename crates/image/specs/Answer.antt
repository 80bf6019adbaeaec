-- What opening and the calls answer. Definitions only. Assumes nothing.
use Rattle.std.specs.Prelude.{ℕ}
use Rattle.work.specs.declared.Run.{Run}

-- refused is 0, or the number of the refusal; then run is the record as it was, and no run where a sheet was to be opened.
pub record Answer : Type 0 where
  pub refused : ℕ
  pub run : Run
