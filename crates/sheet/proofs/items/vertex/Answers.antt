-- `sheet::items::vertex` meets its contract: a point that is whole is read, and else the answer is (+0, +0).
-- Assumes nothing.
use native.Mathlib.Omega.{arith}
use borrow.Author.Rules.{rules}
use mathlib.Core.Path.{◌≡◌, ap, ap₂, ◌∙◌}
use Prim.Native.Nat.{◌+◌, ◌*◌}
use lib.ListN.{length, take, drop}
use Rattle.plane.specs.Plane.{point}
use Rattle.format.specs.Bytes.{number}
use Rattle.format.specs.LeLaws.{number_take}
use Rattle.sheet.specs.Items.{real_in, vertex_in}
use Rattle.sheet.proofs.Pieces.{in_item, an_item, no_item}
use Rattle.sheet.proofs.items.vertex.Goals as goal

pub returns-in-Some : goal.returns-in-Some
unfolding vertex_in
returns-in-Some c =
    let a = c.args in
    let item = c.in-Some.item.now in
    let found = c.in-Some.ensures.lookup in
    let items = c.as_chunks.ensures in
    let l : length item ≡ 16 = search rules in
    let first : c.unwrap.result.now ≡ take 8 item = search rules in
    let last : c.unwrap-in-Some.result.now ≡ take 8 (take 8 (drop 8 item)) = search rules in
    let at = in_item 16 a.i a.part.now _ item items.front items.front_len found.3.0 found.1 8 in
    let x : number 8 c.unwrap.result.now ≡ number 8 (drop (16 * a.i) a.part.now) = ap (number 8) first ∙ number_take 8 item ∙ at 0 _ (omega arith) (omega arith) in
    let y : number 8 c.unwrap-in-Some.result.now ≡ number 8 (drop (16 * a.i + 8) a.part.now) = ap (number 8) last ∙ number_take 8 (take 8 (drop 8 item)) ∙ number_take 8 (drop 8 item) ∙ at 8 _ (omega arith) (omega arith) in
    ap₂ point (c.real-x.ensures ∙ ap real_in x) (c.real-y.ensures ∙ ap real_in y) ∙ an_item _ _ _ _ _ found.0 items.front_len

pub returns-in-None : goal.returns-in-None
unfolding vertex_in
returns-in-None c = no_item _ _ _ _ _ c.in-None.ensures.lookup.0 c.as_chunks.ensures.front_len
