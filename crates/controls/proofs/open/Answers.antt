-- `open` meets its contract: each way out is one law of opening. Assumes nothing.
use mathlib.Core.Path.{refl, ◌∙◌, sym}
use Rattle.std.proofs.lemmas.Result.{err_from_is_err_and}
use Rattle.image.proofs.RefusalLaws.{refuses_some}
use Rattle.controls.proofs.Laws.{open_unfit, open_refused, open_made}
use Rattle.controls.proofs.open.Goals as goal

pub returns-then-not-fits : goal.returns-then-not-fits
returns-then-not-fits c = open_unfit _ _ _ (sym c.fits.ensures ∙ c.if-not-fits.true) _ c.sheet_refusal.ensures

pub returns-in_err-run : goal.returns-in_err-run
returns-in_err-run c =
    let p = err_from_is_err_and c.from_residual.result c.from_residual.ensures.1 in
    rw (p.1, p.2) (open_refused _ _ _ (sym c.fits.ensures ∙ c.if-not-fits.false) c.in_err-run.ensures (refuses_some _))

pub returns : goal.returns
returns c = open_made _ _ _ (sym c.fits.ensures ∙ c.if-not-fits.false) c.in_ok-run.ensures refl _ c.put_run.ensures
