-- The lines of what the iterator still has are left. Assumes nothing.
use native.Mathlib.Omega.{arith}
use mathlib.Core.Path.{◌∙◌}
use Rattle.text.specs.PutLaws.{left_as, left-more, left_none, left-room}
use Rattle.text.specs.TextLaws.{lines_next, lines_none}
use Rattle.text.proofs.raw.Output.lines.Goals as goal

pub line-requires : goal.line-requires
line-requires c =
    let l = c.loop-part in
    let e = c.in-Some.ensures.steps in
    left-room _ _ (left_as _ l.invariant.1 (lines_next c.args.letter c.args.width _ _ _ (omega arith) e.1.0 (e.1.1 ∙ l.invariant.0))) c.requires.1

pub loop-part-preserved : goal.loop-part-preserved
loop-part-preserved c =
    let l = c.loop-part in
    let e = c.in-Some.ensures.steps in (
      e.0 ∙ l.invariant.0,
      left-more _ c.line.ensures (left_as _ l.invariant.1 (lines_next c.args.letter c.args.width _ _ _ (omega arith) e.1.0 (e.1.1 ∙ l.invariant.0))),
    )

pub returns : goal.returns
returns c =
    let l = c.loop-part in
    left_none (left_as _ l.invariant.1 (lines_none c.args.letter c.args.width l.part-iterator.rest.now (omega (arith, c.in-None.ensures.steps.1.0, l.invariant.0))))
