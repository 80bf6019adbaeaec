-- `starts_rise` meets its contract: what it has found, with what is left to see from the start before on, comes to what the definition says of all. Assumes nothing.
use Rattle.std.proofs.Common.{◌≡◌, drop}
use Rattle.std.specs.Prelude.{◌&&◌}
use Rattle.sparse.specs.Scan.{rises_from, rises}
use Rattle.sparse.proofs.starts_rise.Given as goal

abbrev pub invariant-loop-next : goal.invariant-loop-next
invariant-loop-next l = (l.good && rises_from l.count l.low (drop l.next-index l.starts)) ≡ rises l.count l.starts
