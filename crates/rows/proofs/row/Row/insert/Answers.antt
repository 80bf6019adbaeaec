-- Where the column stands already its value is set; else the entries from its place on move up. Assumes nothing.
use Rattle.std.proofs.Common.{rules}
use Rattle.laplace.proofs.LawsInsert.{written_repeat, fresh_room, written-fresh}
use Rattle.rows.proofs.row.Row.insert.Goals as goal

pub open_at-requires : goal.open_at-requires
open_at-requires c = fresh_room _ _ _ _ _ c.args.self.now.within.0 c.args.self.now.within.1 _ c.find.ensures _ c.in-Err.is c.requires

pub returns-in-Ok : goal.returns-in-Ok
returns-in-Ok c = record { same = search rules; written = written_repeat _ _ _ _ _ c.args.self.now.within.0 c.args.self.now.within.1 _ c.find.ensures _ c.in-Ok.is }

pub returns-in-Err : goal.returns-in-Err
returns-in-Err c =
    let done = c.open_at.ensures in
    record { same = done.same; written = rw (done.values, done.cols, done.count) (written-fresh _ _ _ _ _ c.args.self.now.within.0 c.args.self.now.within.1 _ c.find.ensures _ c.in-Err.is c.requires) }
