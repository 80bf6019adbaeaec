-- `advancing::passes_fault` meets its contract: a gain is at most the passes asked for, and is counted only where so many would be too much. Assumes nothing.
use borrow.Author.Tests.{not-true}
use mathlib.Core.Path.{sym, ◌∙◌}
use mathlib.Core.Bool.{true, false}
use Rattle.image.proofs.ExitLaws.{over_says, gain-fits}
use borrow.Author.Rules.{rules}
use Rattle.advancing.proofs.passes_fault.Goals as goal

pub returns-then-not-over : goal.returns-then-not-over
returns-then-not-over c =
    gain-fits _ _ _ _ _ c.args.run.passes (sym c.over.ensures ∙ c.if-not-over.true)

pub returns-then-over : goal.returns-then-over
returns-then-over c =
    over_says c.args.run.passes _ _ _ true c.dry_gain-more.ensures c.over-2.ensures c.if-over.true

pub returns-else-over : goal.returns-else-over
returns-else-over c =
    over_says c.args.run.passes _ _ _ false c.dry_gain-more.ensures c.over-2.ensures c.if-over.false
