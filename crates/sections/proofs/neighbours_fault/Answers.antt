-- `sections::neighbours_fault` meets its contract: its head is tested, and then each number of its items.
-- Assumes nothing.
use borrow.Author.Rules.{rules}
use mathlib.Core.Path.{◌∙◌}
use Rattle.format.specs.Sheet.{neighbours_fault}
use Rattle.format.specs.TriesLaws.{handed_on, fault_first}
use Rattle.sections.proofs.Scan.{neighbours_tested}
use Rattle.sections.proofs.neighbours_fault.Goals as goal

pub returns-in_err-section-clause-refused : goal.returns-in_err-section-clause-refused
unfolding neighbours_fault
returns-in_err-section-clause-refused c = handed_on _ _ c.from_residual.ensures.1 ∙ fault_first _ _ c.in_err-section.ensures.refused

pub returns-in_err-each-clause-refused : goal.returns-in_err-each-clause-refused
returns-in_err-each-clause-refused c =
    let h = c.in_ok-section.ensures in
    handed_on _ _ c.from_residual-in_err-each.ensures.1 ∙ neighbours_tested _ _ _ _ _ c.args.t (λ x y p. search rules) h.refused h.follows.items c.as_chunks.ensures.front c.in_err-each.ensures

pub returns-clause-refused : goal.returns-clause-refused
returns-clause-refused c =
    let h = c.in_ok-section.ensures in
    neighbours_tested _ _ _ _ _ c.args.t (λ x y p. search rules) h.refused h.follows.items c.as_chunks.ensures.front c.in_ok-each.ensures
