-- `writing::present_count` meets its contract: the slots that hold a setting are counted.
-- Assumes nothing.
use borrow.Author.Rules.{rules}
use mathlib.Core.Path.{◌≡◌, ap, ◌∙◌}
use lib.ListN.{length}
use Rattle.std.specs.Prelude.{is_some, count_by}
use Rattle.writing.proofs.Puts.{count_given}
use Rattle.writing.proofs.present_count.Goals as goal

pub returns : goal.returns
returns c =
    let e : c.count.result ≡ count_by is_some c.slots.result = search rules in
    e ∙ count_given c.slots.result ∙ ap length c.slots.ensures
