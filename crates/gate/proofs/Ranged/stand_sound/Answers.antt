-- `Ranged::stand_sound` meets its contract: its test is the one of the definition, with what `farthest` and `norms_most` ensure. Assumes nothing.
use Rattle.image.specs.Calls.{stand_sound}
use Rattle.gate.proofs.Ranged.stand_sound.Goals as goal

pub returns : goal.returns
unfolding stand_sound
returns c =
    let far : _ = c.farthest-far.ensures in
    let most : _ = c.norms_most-norms.ensures in
    rw (far, most)
