-- `sheet::items::corner` meets its contract: an item that is whole is read, and else the answer is 0.
-- Assumes nothing.
use native.Mathlib.Omega.{arith}
use borrow.Author.Rules.{rules}
use mathlib.Core.Path.{◌≡◌, ◌∙◌}
use Rattle.std.specs.Int.{from_le_bytes, w32}
use Rattle.format.specs.LeLaws.{from_four}
use Rattle.sheet.specs.Items.{whole_in}
use Rattle.sheet.proofs.Pieces.{in_item, an_item, no_item}
use Rattle.sheet.proofs.items.corner.Goals as goal

pub returns-in-Some : goal.returns-in-Some
unfolding whole_in
returns-in-Some c =
    let a = c.args in
    let found = c.in-Some.ensures.lookup in
    let items = c.as_chunks.ensures in
    let item = c.in-Some.item.now in
    let read : c.from_le_bytes.result ≡ from_le_bytes w32 item = search rules in
    read ∙ from_four item
    ∙ in_item 4 a.i a.part.now _ item items.front items.front_len found.3.0 found.1 4 0 _ (omega arith) (omega arith)
    ∙ an_item _ _ _ _ _ found.0 items.front_len

pub returns-in-None : goal.returns-in-None
unfolding whole_in
returns-in-None c = no_item _ _ _ _ _ c.in-None.ensures.lookup.0 c.as_chunks.ensures.front_len
