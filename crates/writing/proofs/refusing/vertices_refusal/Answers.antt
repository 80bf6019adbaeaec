-- `writing::refusing::vertices_refusal` meets its contract: its count is tested, and then each number in turn.
-- Assumes nothing.
use borrow.Author.Rules.{rules}
use Rattle.format.specs.Refusal.{coordinate_fault}
use Rattle.format.specs.SectionLaws.{over_refuses, over_passes, unlike_refuses, unlike_passes}
use Rattle.format.specs.TriesLaws.{each_tried}
use Rattle.writing.specs.Write.{vertices_refusal}
use Rattle.writing.proofs.refusing.vertices_refusal.Goals as goal

pub returns-then-n-gt-MAX_VERTICES : goal.returns-then-n-gt-MAX_VERTICES
unfolding vertices_refusal
returns-then-n-gt-MAX_VERTICES c = over_refuses _ _ _ c.if-n-gt-MAX_VERTICES.true

pub returns-then-xs-n : goal.returns-then-xs-n
unfolding vertices_refusal
returns-then-xs-n c = over_passes _ _ _ _ c.if-n-gt-MAX_VERTICES.false (unlike_refuses _ _ _ c.if-xs-n.true)

pub returns : goal.returns
unfolding vertices_refusal
returns c = over_passes _ _ _ _ c.if-n-gt-MAX_VERTICES.false (unlike_passes _ _ _ _ c.if-xs-n.false (each_tried _ coordinate_fault (λ x y p. search rules) c.args.xs.now _ c.each.ensures))
