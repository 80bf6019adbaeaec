-- The word and the number are put one behind the other. Assumes nothing.
use mathlib.Core.List.{[], ◌∷◌}
use Rattle.text.specs.PutLaws.{left-all, left_1, left_2, left_last, left-room, left_room_last}
use Rattle.text.specs.TextLaws.{refused_is}
use Rattle.text.proofs.raw.Output.refused_by.Goals as goal

pub bytes-requires : goal.bytes-requires
bytes-requires c = let a = c.args in left-room (114 ∷ 101 ∷ 102 ∷ 117 ∷ 115 ∷ 101 ∷ 100 ∷ []) _ (left-all a.self.now _ (refused_is a.k)) c.requires

pub word-requires : goal.word-requires
word-requires c = left-room _ _ (left_1 (refused_is c.args.k) c.bytes.ensures) c.requires

pub byte-requires : goal.byte-requires
byte-requires c = left_room_last (left_2 (refused_is c.args.k) c.bytes.ensures c.word.ensures) c.requires

pub returns : goal.returns
returns c = left_last c.byte.ensures (left_2 (refused_is c.args.k) c.bytes.ensures c.word.ensures)
