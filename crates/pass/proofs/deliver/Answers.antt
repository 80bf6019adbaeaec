-- `deliver` meets its contract: each arm writes what the definition says for it. Assumes nothing.
use Rattle.work.proofs.Laws.{gave_nothing, gave_norm, gave_first, gave_crossed}
use Rattle.pass.proofs.deliver.Goals as goal

pub returns-in-Nothing : goal.returns-in-Nothing
returns-in-Nothing c = let a = c.args in gave_nothing a.counted.plan a.stand a.gives a.floats.now a.path.now c.in-Nothing.is

pub returns-in-Norm : goal.returns-in-Norm
returns-in-Norm c = let a = c.args in gave_norm a.counted.plan a.stand a.gives a.floats.now a.path.now _ _ c.in-Norm.is c.at_norms.ensures

pub returns-in-First : goal.returns-in-First
returns-in-First c = let a = c.args in gave_first a.counted.plan a.stand a.gives a.floats.now a.path.now _ _ c.in-First.is c.put_first.ensures

pub returns-in-Crossed : goal.returns-in-Crossed
returns-in-Crossed c = let a = c.args in gave_crossed a.counted.plan a.stand a.gives a.floats.now a.path.now _ _ c.in-Crossed.is c.put_added.ensures
