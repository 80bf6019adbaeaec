-- The record of a run at place 0 (document 01, Passes and ends), and the record where a sheet is refused. Definitions only. Assumes nothing.
use Rattle.std.specs.Prelude.{ℕ, eqb, Float, None}
use Rattle.binary64.specs.Constants.{plus_zero}
use Rattle.binary64.specs.Number.{pick}
use Rattle.work.specs.declared.Plan.{Plan}
use Rattle.work.specs.declared.Run.{Run}
use Rattle.work.specs.Memory.{pathless}

-- limit 0 ends the field with 3
abbrev pub first_end : ℕ → ℕ
first_end limit = pick (eqb limit 0) 3 0

-- one norm, no path, no mark, no passes; rs is r·r
unfoldable pub new_run : Plan → Float → Run
new_run plan rs = record { plan = plan; stand = pathless 0 rs 1 (first_end plan.limit); mark = None; passes = 0 }

-- no run: it has no room, so every call on it is refused with 10, and shows nothing
unfoldable pub no_run : Run
no_run = record {
  plan = record { n = 0; t = 0; limit = 0; room = 0; tolerance = plus_zero; step = plus_zero; start = None };
  stand = pathless 0 plus_zero 0 0;
  mark = None;
  passes = 0;
}
