-- The letter, the numbers and the newline are put one behind the other. Assumes nothing.
use mathlib.Core.List.{[], ◌∷◌}
use Rattle.text.specs.PutLaws.{left-all, left_1, left_2, left_last, left-room, left_room_last}
use Rattle.text.specs.TextLaws.{line_is}
use Rattle.text.proofs.raw.Output.line.Goals as goal

pub byte-requires : goal.byte-requires
byte-requires c = let a = c.args in left-room (a.letter ∷ []) _ (left-all a.self.now _ (line_is a.letter a.xs.now)) c.requires

pub numbers-requires : goal.numbers-requires
numbers-requires c = let a = c.args in left-room _ _ (left_1 (line_is a.letter a.xs.now) c.byte.ensures) c.requires

pub byte-requires-2 : goal.byte-requires-2
byte-requires-2 c = let a = c.args in left_room_last (left_2 (line_is a.letter a.xs.now) c.byte.ensures c.numbers.ensures) c.requires

pub returns : goal.returns
returns c = let a = c.args in left_last c.byte-2.ensures (left_2 (line_is a.letter a.xs.now) c.byte.ensures c.numbers.ensures)
