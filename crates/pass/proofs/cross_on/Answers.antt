-- `cross_on` meets its contract: after i turns i crossings are made, each from a path that has points, by the field and the gradients of the floats' front; a pass at a finished path would change nothing. Assumes nothing.
use mathlib.Core.Path.{◌∙◌}
use native.Mathlib.Omega.{arith}
use lib.Seq.{length-take-le}
use borrow.Author.Rules.{rules}
use Rattle.work.specs.Ready.{Crosses}
use Rattle.work.specs.Kinds.{Searchable}
use Rattle.work.specs.LaidLaws.{ready_of}
use Rattle.work.proofs.Laws.{goes_none, goes-more, goes-ended, goes_done, came_standing, came_place}
use Rattle.kinds.proofs.LawsKinds.{crossed_walks, cross_comes, crossing_is, triangle_in_mesh}
use Rattle.pass.proofs.cross_on.Goals as goal

pub loop-i-init : goal.loop-i-init
loop-i-init c = (c.requires.0, omega arith, goes_none _ _ _ _ _, c.requires.3.solved, c.requires.3.some)

pub returns-then-is_over : goal.returns-then-is_over
returns-then-is_over c = goes-ended _ _ _ _ _ _ _ _ c.loop-i.invariant.2 (omega arith) (c.is_over.ensures.yes c.if-is_over.true)

pub cross-c-requires-clause-inside : goal.cross-c-requires-clause-inside
cross-c-requires-clause-inside c =
    let laid = c.args.laid.now in
    let turn = c.loop-i.invariant in
    triangle_in_mesh laid.counted.plan _ (ready_of laid.ready) c.field-field.ensures (turn.0.triangle_in (omega (arith, turn.4)))

pub loop-i-preserved : goal.loop-i-preserved
loop-i-preserved c =
    let laid = c.args.laid.now in
    let ready = ready_of laid.ready in
    let turn = c.loop-i in
    let from : Crosses turn.s = record { unended = c.is_over.ensures.no c.if-is_over.false; solved = turn.invariant.3; some = turn.invariant.4 } in
    let front : Searchable laid.counted.plan laid.words.now _ = record { ready = ready; long = length-take-le _ _ (search rules) ∙ c.at_norms-f.ensures } in
    let is = crossing_is laid.counted.plan laid.words.now _ front turn.s c.at_gradients-at.ensures c.at_x-u.ensures c.field-field.ensures c.gradient_at-g.ensures c.cross-c.ensures.crossing in
    let e = cross_comes laid.counted.plan laid.words.now turn.s c.args.floats.now _ _ _ _ _ c.at_norms-f.ensures from is c.put_added.ensures c.cross-c.ensures.stand in
    let h = came_place _ _ _ _ _ _ _ _ e in
    let w = crossed_walks _ _ _ _ _ _ _ _ from e in
    (came_standing _ _ _ _ _ _ _ _ e ready turn.invariant.0, omega (arith, turn.invariant.1, h), goes-more _ _ _ _ _ _ _ _ _ _ turn.invariant.2 e, w.0, w.1)

pub returns : goal.returns
returns c = goes_done _ _ _ _ _ _ _ _ c.loop-i.invariant.2 (omega arith)
