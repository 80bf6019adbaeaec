-- `start_step` meets its contract: the start that is found reads the parts of the front that the definition reads. Assumes nothing.
use Rattle.kinds.proofs.LawsKinds.{start_sets_out}
use Rattle.kinds.proofs.start_step.Goals as goal

pub returns : goal.returns
returns c =
    let a = c.args in
    start_sets_out a.laid.now.counted.plan a.laid.now.words.now a.front.now c.requires.0.ready.linked a.stand c.at_x-u.ensures c.field-field.ensures c.find_start.ensures c.set_out.ensures
