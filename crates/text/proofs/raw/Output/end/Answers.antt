-- The word and the three numbers are put one behind the other. Assumes nothing.
use mathlib.Core.List.{[], ◌∷◌}
use Rattle.text.specs.PutLaws.{left-all, left_1, left_2, left_3, left_4, left_last, left-room, left_room_last}
use Rattle.text.specs.TextLaws.{end_is}
use Rattle.text.proofs.raw.Output.«end».Goals as goal

pub bytes-requires : goal.bytes-requires
bytes-requires c = let a = c.args in left-room (101 ∷ 110 ∷ 100 ∷ []) _ (left-all a.self.now _ (end_is a.place a.field a.path)) c.requires

pub word-requires : goal.word-requires
word-requires c = let a = c.args in left-room _ _ (left_1 (end_is a.place a.field a.path) c.bytes.ensures) c.requires

pub word-requires-2 : goal.word-requires-2
word-requires-2 c = let a = c.args in left-room _ _ (left_2 (end_is a.place a.field a.path) c.bytes.ensures c.word.ensures) c.requires

pub word-requires-3 : goal.word-requires-3
word-requires-3 c = let a = c.args in left-room _ _ (left_3 (end_is a.place a.field a.path) c.bytes.ensures c.word.ensures c.word-2.ensures) c.requires

pub byte-requires : goal.byte-requires
byte-requires c = let a = c.args in left_room_last (left_4 (end_is a.place a.field a.path) c.bytes.ensures c.word.ensures c.word-2.ensures c.word-3.ensures) c.requires

pub returns : goal.returns
returns c = let a = c.args in left_last c.byte.ensures (left_4 (end_is a.place a.field a.path) c.bytes.ensures c.word.ensures c.word-2.ensures c.word-3.ensures)
