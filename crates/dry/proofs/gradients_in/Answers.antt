-- `gradients_in` meets its contract: what is lent is the gradients' part. Assumes nothing.
use Rattle.dry.proofs.LawsPhases.{lent_at}
use Rattle.dry.proofs.gradients_in.Goals as goal

pub returns : goal.returns
returns c = lent_at _ _ _ _ c.at_gradients-at.ensures
