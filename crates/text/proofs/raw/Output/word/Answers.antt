-- A space is put, and the digits behind it. Assumes nothing.
use mathlib.Core.List.{[], ◌∷◌}
use Rattle.text.specs.PutLaws.{left-all, left_1, left_last, left-room, left_room_last}
use Rattle.text.specs.Text.{space, decimal}
use Rattle.text.specs.TextLaws.{word_is}
use Rattle.text.proofs.raw.Output.word.Goals as goal

pub byte-requires : goal.byte-requires
byte-requires c = let a = c.args in left-room (space ∷ []) (decimal a.n) (left-all a.self.now _ (word_is a.n)) c.requires

pub decimal-requires : goal.decimal-requires
decimal-requires c = left_room_last (left_1 (word_is c.args.n) c.byte.ensures) c.requires

pub returns : goal.returns
returns c = left_last c.decimal.ensures (left_1 (word_is c.args.n) c.byte.ensures)
