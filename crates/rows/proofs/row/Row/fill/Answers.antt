use Rattle.std.proofs.Common.{rules}
use Rattle.laplace.proofs.LawsRow.{written-free, written_lone}
use Rattle.rows.proofs.row.Row.fill.Goals as goal

pub returns-then-corners-r-eq-FREE : goal.returns-then-corners-r-eq-FREE
returns-then-corners-r-eq-FREE c = record { same = c.build.ensures.same; written = written-free _ _ _ _ c.requires.0 _ _ c.if-corners-r-eq-FREE.true _ _ _ c.build.ensures.written }

pub returns : goal.returns
returns c = record { same = search rules; written = written_lone _ _ _ _ c.requires.0 _ _ c.if-corners-r-eq-FREE.false }
