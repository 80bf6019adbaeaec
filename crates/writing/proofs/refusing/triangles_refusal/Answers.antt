-- `writing::refusing::triangles_refusal` meets its contract: its count is tested, and then each number in turn.
-- Assumes nothing.
use borrow.Author.Rules.{rules}
use Rattle.format.specs.Refusal.{vertex_fault}
use Rattle.format.specs.SectionLaws.{over_refuses, over_passes, unlike_refuses, unlike_passes}
use Rattle.format.specs.TriesLaws.{each_tried}
use Rattle.writing.specs.Write.{triangles_refusal}
use Rattle.writing.proofs.refusing.triangles_refusal.Goals as goal

pub returns-then-t-gt-MAX_TRIANGLES : goal.returns-then-t-gt-MAX_TRIANGLES
unfolding triangles_refusal
returns-then-t-gt-MAX_TRIANGLES c = over_refuses _ _ _ c.if-t-gt-MAX_TRIANGLES.true

pub returns-then-xs-t : goal.returns-then-xs-t
unfolding triangles_refusal
returns-then-xs-t c = over_passes _ _ _ _ c.if-t-gt-MAX_TRIANGLES.false (unlike_refuses _ _ _ c.if-xs-t.true)

pub returns : goal.returns
unfolding triangles_refusal
returns c = over_passes _ _ _ _ c.if-t-gt-MAX_TRIANGLES.false (unlike_passes _ _ _ _ c.if-xs-t.false (each_tried _ (vertex_fault c.args.n) (λ x y p. search rules) c.args.xs.now _ c.each.ensures))
