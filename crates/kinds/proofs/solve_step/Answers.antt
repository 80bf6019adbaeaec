-- `solve_step` meets its contract: stand and norm are the definition's for the answer. Assumes nothing.
use Rattle.kinds.proofs.LawsKinds.{solve_leads}
use Rattle.kinds.proofs.solve_step.Goals as goal

pub returns : goal.returns
returns c = solve_leads _ _ _ _ c.requires.long _ _ _ _ c.solve_once-turn.ensures c.turned.ensures c.given.ensures
