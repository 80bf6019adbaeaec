-- `put_shown` meets its contract: no list is longer than its buffer. Assumes nothing.
use native.Mathlib.Omega.{arith}
use Rattle.printing.proofs.LawsText.{shown_room, shown_put}
use Rattle.printing.proofs.put_shown.Goals as goal

pub put_run-requires : goal.put_run-requires
put_run-requires c =
    let a = c.args in
    let h = shown_room a.run a.floats.now a.path.now a.out.now c.field.result.now c.norms.result.now c.gradients.result.now c.points.result.now c.field.ensures c.norms.ensures c.gradients.ensures c.points.ensures c.requires in
    omega (arith, h)

pub returns : goal.returns
returns c =
    let a = c.args in
    shown_put a.run a.floats.now a.path.now _ _ _ _ c.field.ensures c.norms.ensures c.gradients.ensures c.points.ensures c.put_run.ensures
