-- The line of the ends and the four sections are put one behind the other. Assumes nothing.
use native.Mathlib.Omega.{arith}
use Rattle.text.specs.PutLaws.{left-all, left_1, left_2, left_3, left_4, left_last, left-room, left_room_last}
use Rattle.text.specs.TextLaws.{run_lines}
use Rattle.text.proofs.raw.Output.run.Goals as goal

pub end-requires : goal.end-requires
end-requires c = let a = c.args in left-room _ _ (left-all a.self.now _ (run_lines a.shown)) c.requires

pub lines-requires : goal.lines-requires
lines-requires c = (omega arith, left-room _ _ (left_1 (run_lines c.args.shown) c.end.ensures) c.requires)

pub lines-requires-2 : goal.lines-requires-2
lines-requires-2 c = (omega arith, left-room _ _ (left_2 (run_lines c.args.shown) c.end.ensures c.lines.ensures) c.requires)

pub lines-requires-3 : goal.lines-requires-3
lines-requires-3 c = (omega arith, left-room _ _ (left_3 (run_lines c.args.shown) c.end.ensures c.lines.ensures c.lines-2.ensures) c.requires)

pub lines-requires-4 : goal.lines-requires-4
lines-requires-4 c = (omega arith, left_room_last (left_4 (run_lines c.args.shown) c.end.ensures c.lines.ensures c.lines-2.ensures c.lines-3.ensures) c.requires)

pub returns : goal.returns
returns c = left_last c.lines-4.ensures (left_4 (run_lines c.args.shown) c.end.ensures c.lines.ensures c.lines-2.ensures c.lines-3.ensures)
