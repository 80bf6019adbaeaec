-- `follow` meets its contract: on every front that the scratch shows, the start pass and the crossings are the dry passes. Assumes nothing.
use Rattle.std.specs.Prelude.{Some, None}
use Rattle.dry.proofs.LawsPhases.{stored_enough, none_stored, ground_by, follows_crossing, follows_none, follows_lost, going_started, place_started, follows_started}
use Rattle.dry.proofs.follow.Goals as goal

pub invariant_of-graded : goal.invariant_of-graded
invariant_of-graded c =
    let a = c.args in
    let q = c.requires in
    record { ground = ground_by (Some c.gradients_in.result) a.laid.now.counted.plan _ q.ready c.field-field.ensures (stored_enough a.laid.now.counted.plan a.floats.now c.gradients_in.result c.gradients_in.ensures q.floats_fit) }

pub invariant_of-graded-2 : goal.invariant_of-graded-2
invariant_of-graded-2 c = record { ground = ground_by None c.args.laid.now.counted.plan _ c.requires.ready c.field-field.ensures (none_stored c.args.laid.now.counted.plan.t) }

pub returns-then-stand-ne0 : goal.returns-then-stand-ne0
returns-then-stand-ne0 c =
    let a = c.args in
    follows_crossing a.laid.now.counted.plan a.laid.now.words.now a.floats.now a.scratch.now a.stand a.k _ c.requires _ c.field-field.ensures _ c.gradients_in.ensures _ c.cross.ensures

pub returns-then-k-eq0 : goal.returns-then-k-eq0
returns-then-k-eq0 c = let a = c.args in
    follows_none a.laid.now.counted.plan a.laid.now.words.now a.floats.now a.scratch.now a.stand a.k c.if-k-eq0.true

pub returns-then-is_over : goal.returns-then-is_over
returns-then-is_over c =
    let a = c.args in
    follows_lost a.laid.now.counted.plan a.laid.now.words.now a.floats.now a.scratch.now a.stand a.k _ c.requires _ c.field-field.ensures c.if-stand-ne0.false c.if-k-eq0.false _ c.start-s.ensures (c.is_over.ensures.yes c.if-is_over.true)

pub cross-requires-2 : goal.cross-requires-2
cross-requires-2 c =
    let a = c.args in
    let one = c.if-stand-ne0.false in
    let two = c.if-k-eq0.false in
    let found = c.start-s.ensures in
    let st = c.field-field.ensures in
    (going_started a.laid.now.counted.plan a.laid.now.words.now a.floats.now a.scratch.now a.stand a.k _ c.requires _ st one two _ found (c.is_over.ensures.no c.if-is_over.false), place_started a.laid.now.counted.plan a.laid.now.words.now a.floats.now a.scratch.now a.stand a.k _ c.requires _ st one two _ found)

pub returns : goal.returns
returns c =
    let a = c.args in
    follows_started a.laid.now.counted.plan a.laid.now.words.now a.floats.now a.scratch.now a.stand a.k _ c.requires _ c.field-field.ensures c.if-stand-ne0.false c.if-k-eq0.false _ c.start-s.ensures _ c.cross-2.ensures
