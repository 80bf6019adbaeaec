use Rattle.std.proofs.Common.{rules}
use Rattle.laplace.proofs.LawsRow.{room, written-placed, written_held}
use Rattle.rows.proofs.row.Row.place.Goals as goal

pub insert-requires : goal.insert-requires
insert-requires c = room _ _ _ _ c.requires.0 _ _ c.requires.1

pub returns-then-mesh-j-eq-FREE : goal.returns-then-mesh-j-eq-FREE
returns-then-mesh-j-eq-FREE c = record { same = c.insert.ensures.same; written = written-placed _ _ _ _ c.requires.0 _ _ _ _ _ c.if-mesh-j-eq-FREE.true c.insert.ensures.written }

pub returns-else-mesh-j-eq-FREE : goal.returns-else-mesh-j-eq-FREE
returns-else-mesh-j-eq-FREE c = record { same = search rules; written = written_held _ _ _ _ c.requires.0 _ _ c.if-mesh-j-eq-FREE.false }
