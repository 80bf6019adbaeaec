-- `once` meets its contract: a step on the front of the floats, and what it gives written. Assumes nothing.
use mathlib.Core.Path.{refl}
use Rattle.work.specs.LaidLaws.{ready_of}
use Rattle.work.proofs.Laws.{writable, stepped-length, once_comes}
use Rattle.pass.proofs.once.Goals as goal

pub deliver-requires : goal.deliver-requires
deliver-requires c =
    let a = c.args in
    let laid = a.laid.now in
    writable laid.counted.plan laid.words.now a.stand a.floats.now a.path.now _ _ (ready_of laid.ready) c.requires.0 c.requires.2
    (stepped-length laid.counted.plan laid.words.now a.stand a.floats.now c.step-d.new.front c.step-d.result c.at_norms-f.result c.step-d.ensures) refl

pub returns : goal.returns
returns c = once_comes _ _ _ _ _ _ _ _ _ _ c.at_norms-f.ensures c.step-d.ensures c.deliver.ensures
