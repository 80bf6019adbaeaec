-- `format::faults::pattern_fault` meets its contract: what refuses the pattern refuses the number. Assumes nothing.
use mathlib.Core.Path.{◌∙◌}
use Rattle.format.specs.TriesLaws.{handed_on}
use Rattle.format.proofs.Laws.{coordinate_refused}
use Rattle.format.proofs.faults.pattern_fault.Goals as goal

pub returns-in_err-number_of : goal.returns-in_err-number_of
returns-in_err-number_of c = handed_on _ _ c.from_residual.ensures.1 ∙ coordinate_refused c.args.bits _ c.in_err-number_of.ensures
