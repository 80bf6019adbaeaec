-- `writing::putting::OptionSettingItem::put` meets its contract: a kind and a value are an item, by `slot_laid`.
-- Assumes nothing.
use native.Mathlib.Omega.{arith}
use mathlib.Core.Path.{sym, ap, ◌∙◌}
use Rattle.format.specs.LeLaws.{to_eight}
use Rattle.writing.specs.Write.{slot_bytes}
use Rattle.writing.proofs.Puts.{slot_laid, adds_none, adds_more, adds_as, room_as, room_next}
use Rattle.writing.proofs.putting.OptionSettingItem.put.Goals as goal

pub put-requires-in-Some : goal.put-requires-in-Some
put-requires-in-Some c =
    let a = c.args in
    room_next _ c.put.ensures (room_as a.out.now (slot_laid a.self c.in-Some.setting _ _ _ c.in-Some.is (omega arith) c.kind.ensures c.value.ensures (c.to_le_bytes.ensures ∙ to_eight c.value.result)) c.requires)

pub returns-in-Some : goal.returns-in-Some
returns-in-Some c =
    adds_as (adds_more c.put.ensures c.put-in-Some.ensures) (slot_laid c.args.self c.in-Some.setting _ _ _ c.in-Some.is (omega arith) c.kind.ensures c.value.ensures (c.to_le_bytes.ensures ∙ to_eight c.value.result))

pub returns-in_default : goal.returns-in_default
returns-in_default c = adds_as (adds_none c.args.out.now) (sym (ap slot_bytes c.in_default.is))
