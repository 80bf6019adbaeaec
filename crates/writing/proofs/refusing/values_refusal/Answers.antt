-- `writing::refusing::values_refusal` meets its contract: each setting that is given is tested in turn.
-- Assumes nothing.
use borrow.Author.Rules.{rules}
use mathlib.Core.Path.{ap, ◌∙◌}
use Rattle.format.specs.Refusal.{each, setting_fault}
use Rattle.format.specs.TriesLaws.{each_tried}
use Rattle.writing.specs.Write.{slot_fault}
use Rattle.writing.proofs.Puts.{slots_fault}
use Rattle.writing.proofs.refusing.values_refusal.Goals as goal

pub returns : goal.returns
returns c = each_tried _ slot_fault (λ x y p. search rules) c.slots.result _ c.each.ensures ∙ slots_fault c.slots.result ∙ ap (each setting_fault) c.slots.ensures
