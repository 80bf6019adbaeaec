-- `Counted::row_words` meets its contract: its slices are the parts at the layout's places. Assumes nothing.
use Rattle.std.specs.Prelude.{◌+◌, ◌*◌}
use Rattle.std.proofs.Common.{arith}
use Rattle.stretch.specs.StretchLaws.{part_lent}
use Rattle.work.specs.Layout as Layout
use Rattle.work.proofs.layout.Counted.row_words.Goals as goal

pub returns-clause-starts : goal.returns-clause-starts
returns-clause-starts c =
    let n = c.args.self.now.plan.n in
    let t = c.args.self.now.plan.t in
    rw c.places-at.ensures (part_lent c.args.words.now (Layout.at_starts n t) (Layout.at_columns n t) (n + 1) (omega arith))

pub returns-clause-columns : goal.returns-clause-columns
returns-clause-columns c =
    let n = c.args.self.now.plan.n in
    let t = c.args.self.now.plan.t in
    rw (c.places-at.ensures, c.entries.ensures) (part_lent c.args.words.now (Layout.at_columns n t) (Layout.at_columns n t + (9 * t + n)) (9 * t + n) (omega arith))
