-- `writing::putting::Output::section` meets its contract: the items are put one behind the other, behind the count.
-- Assumes nothing.
use mathlib.Core.Path.{◌∙◌}
use Rattle.format.specs.Bytes.{bytes}
use Rattle.format.specs.LeLaws.{to_four}
use Rattle.writing.specs.Write.{laid_all}
use Rattle.writing.proofs.Puts.{adds_more, adds_as, room_as, room_first, room_next, items_none, items_more, items_room, items_all}
use Rattle.writing.proofs.putting.Output.section.Goals as goal

pub put-requires : goal.put-requires
put-requires g c = let a = c.args in room_as a.self.now (c.to_le_bytes.ensures ∙ to_four a.count) (room_first a.self.now (bytes 4 a.count) _ c.requires)

pub loop-item-init : goal.loop-item-init
loop-item-init g c = items_none g.T.Item.laid c.args.items.now c.put.new.self

pub put-requires-in-loop-item : goal.put-requires-in-loop-item
put-requires-in-loop-item g c =
    let a = c.args in
    let l = c.loop-item in
    items_room g.T.Item.laid a.items.now l.item-index c.item-item.result l.invariant c.loop-item-test.true c.item-item.is
    (room_next (laid_all g.T.Item.laid a.items.now) (adds_as c.put.ensures (c.to_le_bytes.ensures ∙ to_four a.count)) c.requires)

pub loop-item-preserved : goal.loop-item-preserved
loop-item-preserved g c =
    let l = c.loop-item in
    items_more g.T.Item.laid c.args.items.now l.item-index c.item-item.result l.invariant c.loop-item-test.true c.item-item.is c.put-in-loop-item.ensures

pub returns : goal.returns
returns g c =
    let a = c.args in
    let l = c.loop-item in
    adds_more (adds_as c.put.ensures (c.to_le_bytes.ensures ∙ to_four a.count)) (items_all g.T.Item.laid a.items.now l.item-index l.invariant c.loop-item-test.false)
