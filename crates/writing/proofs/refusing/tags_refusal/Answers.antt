-- `writing::refusing::tags_refusal` meets its contract: its count is tested, and then each number in turn.
-- Assumes nothing.
use borrow.Author.Rules.{rules}
use Rattle.format.specs.Refusal.{tag_fault}
use Rattle.format.specs.SectionLaws.{unlike_refuses, unlike_passes}
use Rattle.format.specs.TriesLaws.{each_tried}
use Rattle.writing.specs.Write.{tags_refusal}
use Rattle.writing.proofs.refusing.tags_refusal.Goals as goal

pub returns-then-xs-n : goal.returns-then-xs-n
unfolding tags_refusal
returns-then-xs-n c = unlike_refuses _ _ _ c.if-xs-n.true

pub returns : goal.returns
unfolding tags_refusal
returns c = unlike_passes _ _ _ _ c.if-xs-n.false (each_tried _ tag_fault (λ x y p. search rules) c.args.xs.now _ c.each.ensures)
