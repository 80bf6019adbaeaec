-- `sections::read_items` meets its contract: each item is read and taken apart in turn, and the laws of `Reading` say what is left.
-- Assumes nothing.
use borrow.Author.Rules.{rules}
use native.Mathlib.Omega.{arith}
use mathlib.Core.Path.{refl, ap, ◌∙◌}
use mathlib.Core.List.{[]}
use lib.ListN.{get_or, drop}
use Rattle.format.specs.Bytes.{number}
use Rattle.format.specs.LeLaws.{from_eight}
use Rattle.format.specs.Refusal.{setting_fault}
use Rattle.format.specs.TriesLaws.{handed}
use Rattle.sections.specs.Steps.{items_of}
use Rattle.sections.proofs.Reading.{Item, taken_apart, none_is, err_fault, ok_said, read_none, read_all, read_low, read-fault, read_more}
use Rattle.sections.proofs.read_items.Goals as goal

pub loop-item-init : goal.loop-item-init
loop-item-init c = read_none _ _ (none_is _ _ _ _ _ _ (search rules) (search rules) (search rules) (search rules) (search rules) (search rules))

pub returns-then-kind-last : goal.returns-then-kind-last
returns-then-kind-last c =
    let l = c.loop-item in
    let x = get_or c.args.items.now l.item-index [] in
    let k = get_or x 0 0 in
    let e : Item c.args.items.now l.item-index k (number 8 (drop 1 x)) = record { below = c.loop-item-test.true; small = omega arith; first = refl; rest = refl } in
    read_low c.args.items.now l.last l.settings l.item-index k _ l.invariant e c.if-kind-last.true

pub returns-in_err-setting : goal.returns-in_err-setting
returns-in_err-setting c =
    let l = c.loop-item in
    let e = taken_apart c.args.items.now l.item-index c.unwrap.result.now c.from_le_bytes.result c.loop-item-test.true (omega arith) (c.told-items l.item-index c.loop-item-test.true) (search rules)
    (c.from_le_bytes.ensures ∙ from_eight c.unwrap.result.now) in
    ap items_of (handed _ _ c.from_residual.ensures.1)
    ∙ read-fault c.args.items.now l.last l.settings l.item-index _ _ l.invariant e _ c.if-kind-last.false (err_fault _ _ c.in_err-setting.ensures)

pub returns-in_err-fault : goal.returns-in_err-fault
returns-in_err-fault c =
    let l = c.loop-item in
    let e = taken_apart c.args.items.now l.item-index c.unwrap.result.now c.from_le_bytes.result c.loop-item-test.true (omega arith) (c.told-items l.item-index c.loop-item-test.true) (search rules)
    (c.from_le_bytes.ensures ∙ from_eight c.unwrap.result.now) in
    ap items_of (handed _ _ c.from_residual-in_err-fault.ensures.1)
    ∙ read-fault c.args.items.now l.last l.settings l.item-index _ _ l.invariant e _ c.if-kind-last.false
    (c.in_err-fault.ensures ∙ ap setting_fault (ok_said _ _ c.in_ok-setting.ensures))

pub loop-item-preserved : goal.loop-item-preserved
loop-item-preserved c =
    let l = c.loop-item in
    let e = taken_apart c.args.items.now l.item-index c.unwrap.result.now c.from_le_bytes.result c.loop-item-test.true (omega arith) (c.told-items l.item-index c.loop-item-test.true) (search rules)
    (c.from_le_bytes.ensures ∙ from_eight c.unwrap.result.now) in
    read_more c.args.items.now l.last l.settings l.item-index _ _ l.invariant e _ _ c.if-kind-last.false (ok_said _ _ c.in_ok-setting.ensures) c.in_ok-fault.ensures c.with-settings.ensures

pub returns : goal.returns
returns c = read_all _ _ _ _ c.loop-item.invariant c.loop-item-test.false
