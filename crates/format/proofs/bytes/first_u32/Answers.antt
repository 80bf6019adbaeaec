-- `format::bytes::first_u32` meets its contract: the chunk is the first 4 bytes.
-- Assumes nothing.
use borrow.Author.Rules.{rules}
use mathlib.Core.Path.{◌≡◌, ap, ◌∙◌}
use lib.ListN.{take}
use Rattle.format.specs.Bytes.{number}
use Rattle.format.specs.LeLaws.{from_four, number_take}
use Rattle.format.proofs.bytes.first_u32.Goals as goal

pub returns : goal.returns
returns c =
    let e : c.unwrap.result.now ≡ take 4 c.args.s.now = search rules in
    c.from_le_bytes.ensures ∙ from_four c.unwrap.result.now ∙ ap (number 4) e ∙ number_take 4 c.args.s.now
