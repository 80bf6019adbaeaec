-- `held_fault` meets its contract: each way out is one law. Assumes nothing.
use mathlib.Core.Path.{◌∙◌}
use Rattle.std.proofs.lemmas.Result.{err_from_is_err_and}
use Rattle.image.proofs.RefusalLaws.{refuses_some}
use Rattle.controls.proofs.Laws.{flags_first, flags_passed}
use Rattle.controls.proofs.held_fault.Goals as goal

pub returns-in_err-flags_fault : goal.returns-in_err-flags_fault
returns-in_err-flags_fault c =
    let p = err_from_is_err_and c.from_residual.result c.from_residual.ensures.1 in
    rw (p.1, p.2) (flags_first _ _ _ c.in_err-flags_fault.ensures (refuses_some _))

pub returns : goal.returns
returns c =
    c.held_fault.ensures ∙ rw c.run.ensures (flags_passed _ _ c.in_ok-flags_fault.ensures)
