-- `sheet::items::coordinate` meets its contract: a pattern that is whole is read, and else the answer is 0.
-- Assumes nothing.
use native.Mathlib.Omega.{arith}
use mathlib.Core.Path.{ap, ◌∙◌}
use Rattle.sheet.specs.Items.{real_in, coordinate_in}
use Rattle.sheet.proofs.Pieces.{in_item, an_item, no_item}
use Rattle.sheet.proofs.items.coordinate.Goals as goal

pub returns-in-Some : goal.returns-in-Some
unfolding coordinate_in
returns-in-Some c =
    let a = c.args in
    let found = c.in-Some.ensures.lookup in
    let items = c.as_chunks.ensures in
    c.real.ensures
    ∙ ap real_in (in_item 8 a.k a.part.now _ c.in-Some.item.now items.front items.front_len found.3.0 found.1 8 0 _ (omega arith) (omega arith))
    ∙ an_item _ _ _ _ _ found.0 items.front_len

pub returns-in-None : goal.returns-in-None
unfolding coordinate_in
returns-in-None c = no_item _ _ _ _ _ c.in-None.ensures.lookup.0 c.as_chunks.ensures.front_len
