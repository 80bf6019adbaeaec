-- `gate::moved` meets its contract. Assumes nothing. It stands so that a refusal names the fact.
use mathlib.Core.Path.{refl}
use Rattle.gate.proofs.moved.Goals as goal

pub returns : goal.returns
returns c = refl
