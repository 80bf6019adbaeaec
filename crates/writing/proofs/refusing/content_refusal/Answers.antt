-- `writing::refusing::content_refusal` meets its contract: its steps are the links of `refusal_of`.
-- Assumes nothing.
use mathlib.Core.Path.{sym, ◌∙◌}
use Rattle.format.specs.TriesLaws.{handed_on, fault_first, fault_second}
use Rattle.writing.proofs.Whole.{refusal_steps}
use Rattle.writing.proofs.refusing.content_refusal.Goals as goal

pub returns-in_err-mesh_refusal : goal.returns-in_err-mesh_refusal
returns-in_err-mesh_refusal c =
    handed_on _ _ c.from_residual.ensures.1 ∙ fault_first _ _ c.in_err-mesh_refusal.ensures ∙ sym (refusal_steps _ _ _ _ _)

pub returns-in_err-values_refusal : goal.returns-in_err-values_refusal
returns-in_err-values_refusal c =
    handed_on _ _ c.from_residual-in_err-values_refusal.ensures.1 ∙ fault_second _ c.in_ok-mesh_refusal.ensures (fault_first _ _ c.in_err-values_refusal.ensures) ∙ sym (refusal_steps _ _ _ _ _)

pub returns : goal.returns
returns c = fault_second _ c.in_ok-mesh_refusal.ensures (fault_second _ c.in_ok-values_refusal.ensures c.missing_fault.ensures) ∙ sym (refusal_steps _ _ _ _ _)
