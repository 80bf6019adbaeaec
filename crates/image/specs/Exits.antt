-- What an advance or a way back leaves of a record, and what refuses a gain. Assumes nothing.
use Rattle.std.specs.Prelude.{ℕ, ◌+◌, ltb}
use Rattle.binary64.specs.Number.{pick}
use Rattle.model.specs.Machine.{most}
use Rattle.work.specs.declared.Stand.{Stand}
use Rattle.work.specs.declared.Run.{Run}

-- a record at another place with another count
abbrev pub moved_run : Run → Stand → ℕ → Run
moved_run r s passes = record { plan = r.plan; stand = s; mark = r.mark; passes = passes }

-- 10 where a gain would carry passes too far
abbrev pub over_fault : ℕ → ℕ → ℕ
over_fault passes more = pick (ltb most (passes + more)) 10 0
