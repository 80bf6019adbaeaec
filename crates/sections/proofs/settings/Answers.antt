-- `sections::settings` meets its contract: its head is tested, and then its items are read.
-- Assumes nothing.
use mathlib.Core.Path.{ap, ◌∙◌}
use Rattle.format.specs.Sheet.{settings_fault}
use Rattle.format.specs.TriesLaws.{handed, fault_first}
use Rattle.sections.specs.Steps.{last_of, settings_read}
use Rattle.sections.proofs.Reading.{refused_by}
use Rattle.sections.proofs.Steps.{items_back}
use Rattle.sections.proofs.settings.Goals as goal

pub returns-in_err-section-clause-read : goal.returns-in_err-section-clause-read
unfolding settings_read settings_fault
returns-in_err-section-clause-read c =
    ap last_of (handed _ _ c.from_residual.ensures.1)
    ∙ refused_by _ _ (fault_first _ _ (c.in_err-section.ensures.refused))

pub returns-in_err-settings-clause-read : goal.returns-in_err-settings-clause-read
returns-in_err-settings-clause-read c =
    let s = c.in_ok-section.ensures in
    ap last_of (handed _ _ c.from_residual-in_err-settings.ensures.1)
    ∙ c.in_err-settings.ensures ∙ items_back c.args.s.now _ _ s.refused s.follows.items c.as_chunks.ensures.front

pub returns-clause-read : goal.returns-clause-read
returns-clause-read c =
    let s = c.in_ok-section.ensures in
    c.in_ok-settings.ensures ∙ items_back c.args.s.now _ _ s.refused s.follows.items c.as_chunks.ensures.front
