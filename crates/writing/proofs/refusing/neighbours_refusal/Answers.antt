-- `writing::refusing::neighbours_refusal` meets its contract: its count is tested, and then each number in turn.
-- Assumes nothing.
use borrow.Author.Rules.{rules}
use Rattle.format.specs.Refusal.{neighbour_fault}
use Rattle.format.specs.SectionLaws.{unlike_refuses, unlike_passes}
use Rattle.format.specs.TriesLaws.{each_tried}
use Rattle.writing.specs.Write.{neighbours_refusal}
use Rattle.writing.proofs.refusing.neighbours_refusal.Goals as goal

pub returns-then-xs-t : goal.returns-then-xs-t
unfolding neighbours_refusal
returns-then-xs-t c = unlike_refuses _ _ _ c.if-xs-t.true

pub returns : goal.returns
unfolding neighbours_refusal
returns c = unlike_passes _ _ _ _ c.if-xs-t.false (each_tried _ (neighbour_fault c.args.t) (λ x y p. search rules) c.args.xs.now _ c.each.ensures)
