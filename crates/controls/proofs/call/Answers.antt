-- `call` meets its contract: each way out is one law of what a call comes to. Assumes nothing.
use mathlib.Core.Path.{refl}
use Rattle.std.proofs.lemmas.Result.{err_from_is_err_and}
use Rattle.image.proofs.RefusalLaws.{refuses_some}
use Rattle.controls.proofs.Laws.{call_flags, call_refused, call_made}
use Rattle.controls.proofs.call.Goals as goal

pub returns-in_err-flags_fault : goal.returns-in_err-flags_fault
returns-in_err-flags_fault c =
    let p = err_from_is_err_and c.from_residual.result c.from_residual.ensures.1 in
    rw (p.1, p.2) (call_flags _ _ _ _ c.in_err-flags_fault.ensures (refuses_some _))

pub returns-in_err-after : goal.returns-in_err-after
returns-in_err-after c =
    let p = err_from_is_err_and c.from_residual-in_err-after.result c.from_residual-in_err-after.ensures.1 in
    rw (p.1, p.2) (call_refused _ _ _ c.in_ok-flags_fault.ensures c.run-before.ensures c.in_err-after.ensures (refuses_some _))

pub returns : goal.returns
returns c =
    call_made _ _ _ c.in_ok-flags_fault.ensures c.run-before.ensures c.in_ok-after.ensures refl _ c.put_run.ensures
