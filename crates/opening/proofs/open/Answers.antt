-- `open` meets its contract: a refusal of the sheet or of the space leaves every lent place, and else the run stands at place 0. Assumes nothing.
use Rattle.std.proofs.Common.{refl}
use Rattle.std.specs.Prelude.{Err}
use Rattle.sheet.specs.ItemLaws.{is_accepted}
use Rattle.image.specs.Calls.{buffers}
use Rattle.image.specs.CallLaws.{Counted}
use Rattle.opening.proofs.LawsPlace.{bytes_fit, counted_read, space_lacks, suffices, answers_short, answers_open, answers_refused}
use Rattle.opening.proofs.open.Goals as goal

pub returns-in-Err : goal.returns-in-Err
returns-in-Err c = answers_refused _ _ c.in-Err.refusal (Err c.in-Err.refusal) refl (rw c.in-Err.is at c.check_sheet.ensures)

pub invariant_of-counted : goal.invariant_of-counted
invariant_of-counted c =
    let counts : Counted c.plan_of-plan.result = counted_read _ (bytes_fit c.type_inv.sheet) _ (rw c.in-Ok.is at c.check_sheet.ensures) _ c.plan_of-plan.ensures in
    record { n_most = counts.vertices; t_most = counts.triangles }

pub space-requires : goal.space-requires
space-requires c =
    let counts : Counted c.plan_of-plan.result = counted_read _ (bytes_fit c.type_inv.sheet) _ (rw c.in-Ok.is at c.check_sheet.ensures) _ c.plan_of-plan.ensures in
    (counts.limit, counts.room)

pub returns-then-lacks : goal.returns-then-lacks
returns-then-lacks c =
    let s = c.space.ensures in
    answers_short _ (bytes_fit c.type_inv.sheet) _ (rw c.in-Ok.is at c.check_sheet.ensures) (buffers _ _ _) _ c.plan_of-plan.ensures
    (space_lacks c.plan_of-plan.result _ _ _ s.floats s.words s.path c.lacks.ensures c.if-lacks.true)

pub invariant_of-accepted : goal.invariant_of-accepted
invariant_of-accepted c = record { below = bytes_fit c.type_inv.sheet; is = is_accepted _ _ (rw c.in-Ok.is at c.check_sheet.ensures) }

pub place_zero-run-requires : goal.place_zero-run-requires
place_zero-run-requires c =
    let s = c.space.ensures in
    suffices _ (bytes_fit c.type_inv.sheet) _ (rw c.in-Ok.is at c.check_sheet.ensures) (buffers _ _ _) _ c.plan_of-plan.ensures
    (space_lacks c.plan_of-plan.result _ _ _ s.floats s.words s.path c.lacks.ensures c.if-lacks.false)

pub returns : goal.returns
returns c =
    let s = c.space.ensures in
    answers_open _ (bytes_fit c.type_inv.sheet) _ (rw c.in-Ok.is at c.check_sheet.ensures) (buffers _ _ _) _ c.plan_of-plan.ensures _ _
    (space_lacks c.plan_of-plan.result _ _ _ s.floats s.words s.path c.lacks.ensures c.if-lacks.false) c.place_zero-run.ensures
