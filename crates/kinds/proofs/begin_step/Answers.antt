-- `begin_step` meets its contract: the start is found before the gradients are filled, which do not bear on it. Assumes nothing.
use Rattle.kinds.proofs.LawsKinds.{begin_leads}
use Rattle.kinds.proofs.begin_step.Goals as goal

pub returns : goal.returns
returns c = begin_leads _ _ _ _ _ _ c.start_step-d.ensures c.fill_gradients.ensures
