-- The numbers from the one at hand on are left. Assumes nothing.
use Rattle.std.proofs.Common.{arith, [], ◌∷◌, ◌+◌, get_or, drop}
use Rattle.std.specs.Float.{nan}
use Rattle.text.specs.PutLaws.{left_as, left-more, left_none, left-room}
use Rattle.text.specs.Text.{space, hex_of, numbers}
use Rattle.text.specs.TextLaws.{length_hex, numbers-next, numbers_none}
use Rattle.text.proofs.raw.Output.numbers.Goals as goal

pub byte-requires : goal.byte-requires
byte-requires c =
    let l = c.loop-x in
    left-room (space ∷ []) _ (left_as _ l.invariant (numbers-next c.args.xs.now l.x-index (omega arith))) c.requires

pub hex-requires : goal.hex-requires
hex-requires c =
    let l = c.loop-x in
    omega (arith, length_hex, left-room (hex_of (get_or c.args.xs.now l.x-index nan)) (numbers (drop (l.x-index + 1) c.args.xs.now)) (left-more _ c.byte.ensures (left_as _ l.invariant (numbers-next c.args.xs.now l.x-index (omega arith)))) c.requires)

pub loop-x-preserved : goal.loop-x-preserved
loop-x-preserved c =
    let l = c.loop-x in
    left-more _ c.hex.ensures (left-more _ c.byte.ensures (left_as _ l.invariant (numbers-next c.args.xs.now l.x-index (omega arith))))

pub returns : goal.returns
returns c =
    let l = c.loop-x in
    left_none (left_as _ l.invariant (numbers_none c.args.xs.now l.x-index (omega arith)))
