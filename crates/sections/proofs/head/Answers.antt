-- `sections::head` meets its contract: what stands behind the count is split at the end of the items.
-- Assumes nothing.
use mathlib.Core.Path.{◌∙◌}
use Rattle.sections.proofs.Steps.{few, split_items, split_behind}
use Rattle.sections.proofs.head.Goals as goal

pub returns-in-Some-split_at_checked-clause-follows : goal.returns-in-Some-split_at_checked-clause-follows
returns-in-Some-split_at_checked-clause-follows c =
    let a = c.args in
    let n = c.count-count.ensures.read in
    let rest = c.in-Some.ensures.cases.1 in
    let split = c.in-Some-split_at_checked.ensures.cases in
    record {
      counted = n;
      few = few a.rule c.count-count.result c.in_ok-fault.ensures;
      items = split.1 ∙ split_items a.size _ a.s.now _ n rest;
      next = split.2 ∙ split_behind a.size _ a.s.now _ n rest;
    }
