-- `writing::putting::put_sheet` meets its contract: the five sections are put one behind the other, and are the sheet.
-- Assumes nothing.
use native.Mathlib.Omega.{arith}
use borrow.Author.Rules.{rules}
use mathlib.Core.Path.{◌≡◌, refl, ap, ◌∙◌}
use Rattle.format.specs.Place.{placed}
use Rattle.format.specs.SettingLaws.{present_few}
use Rattle.writing.proofs.Puts.{adds_more, adds_as, room_as, room_first, room_next, section_slots}
use Rattle.writing.proofs.Whole.{sheet_is, sheet_room}
use Rattle.writing.proofs.putting.put_sheet.Goals as goal

pub overflow_cast-m : goal.overflow_cast-m
overflow_cast-m c = omega (arith, present_few c.args.content.now.settings, c.present_count-m.ensures)

pub section-requires : goal.section-requires
section-requires c =
    room_first _ _ _ (sheet_room _ _ _ c.present_count-m.result c.args.content.now refl c.requires c.vertex_count-n.ensures c.triangle_count-t.ensures c.present_count-m.ensures)

pub section-requires-2 : goal.section-requires-2
section-requires-2 c =
    room_first _ _ _
    (room_next _ c.section.ensures
    (sheet_room _ _ _ c.present_count-m.result c.args.content.now refl c.requires c.vertex_count-n.ensures c.triangle_count-t.ensures c.present_count-m.ensures))

pub section-requires-3 : goal.section-requires-3
section-requires-3 c =
    room_first _ _ _
    (room_next _ c.section-2.ensures
    (room_next _ c.section.ensures
    (sheet_room _ _ _ c.present_count-m.result c.args.content.now refl c.requires c.vertex_count-n.ensures c.triangle_count-t.ensures c.present_count-m.ensures)))

pub section-requires-4 : goal.section-requires-4
section-requires-4 c =
    room_first _ _ _
    (room_next _ c.section-3.ensures
    (room_next _ c.section-2.ensures
    (room_next _ c.section.ensures
    (sheet_room _ _ _ c.present_count-m.result c.args.content.now refl c.requires c.vertex_count-n.ensures c.triangle_count-t.ensures c.present_count-m.ensures))))

pub section-requires-5 : goal.section-requires-5
section-requires-5 c =
    room_as _ (section_slots c.present_count-m.result c.slots.result _ c.slots.ensures)
    (room_next _ c.section-4.ensures
    (room_next _ c.section-3.ensures
    (room_next _ c.section-2.ensures
    (room_next _ c.section.ensures
    (sheet_room _ _ _ c.present_count-m.result c.args.content.now refl c.requires c.vertex_count-n.ensures c.triangle_count-t.ensures c.present_count-m.ensures)))))

pub returns : goal.returns
returns c =
    let p =
    adds_more c.section.ensures
    (adds_more c.section-2.ensures
    (adds_more c.section-3.ensures
    (adds_more c.section-4.ensures
    (adds_as c.section-5.ensures (section_slots c.present_count-m.result c.slots.result _ c.slots.ensures))))) in
    let e : _ ≡ c.section-5.new.self.bytes.now = search rules in
    e ∙ p.down ∙ ap (placed c.args.out.now 0) (sheet_is _ _ c.present_count-m.result c.args.content.now c.vertex_count-n.ensures c.triangle_count-t.ensures c.present_count-m.ensures)
