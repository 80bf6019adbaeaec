-- `format::faults::step_fault` meets its contract: its test is `positive`.
-- Assumes nothing.
use mathlib.Core.Bool.{Bool}
use mathlib.Core.Path.{◌≡◌, sym, ap, ◌∙◌}
use lib.Ieee.{is_nan}
use Rattle.binary64.specs.Number.{pick}
use Rattle.format.specs.Refusal.{positive}
use Rattle.format.proofs.Laws.{finite_is, positive_if, positive_else}
use Rattle.format.proofs.faults.step_fault.Goals as goal
use Rattle.format.proofs.faults.step_fault.Goals.{then-is_finite, else-is_finite}

pub returns : goal.returns
returns c =
    let f = sym (finite_is c.args.x) ∙ sym c.is_finite.ensures.value in
    let e : c.if-is_finite.real_fault ≡ positive c.args.x =
    elim c.if-is_finite.branch [
      | then-is_finite w ↦ w.real_fault-is ∙ positive_if c.args.x (f ∙ w.if-is_finite.true)
      | else-is_finite w ↦ w.real_fault-is ∙ w.if-is_finite.false ∙ positive_else c.args.x (f ∙ w.if-is_finite.false)
    ] in
    c.real_fault.ensures ∙ ap (λ (t : Bool). pick (is_nan c.args.x) 6 (pick t 0 7)) e
