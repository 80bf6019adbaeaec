-- `begin` meets its contract: matrix, right side and vectors lie apart, and what stands after it is place 0 of the definition. Assumes nothing.
use native.Mathlib.Omega.{arith}
use mathlib.Core.Path.{refl, ap}
use lib.ListN.{length}
use Rattle.stretch.specs.StretchLaws.{length-splice}
use Rattle.work.proofs.LawsVectors.{starts}
use Rattle.opening.proofs.LawsPlace.{begins_is}
use Rattle.opening.proofs.begin.Goals as goal

pub begin-rs-requires : goal.begin-rs-requires
begin-rs-requires c =
    let long = simp length-splice at (ap length c.fill.ensures) in
    record { starts = starts _ _ _ c.requires.sound (omega (arith, long, c.requires.floats_fit)) }

pub returns : goal.returns
returns c = begins_is _ _ _ _ _ _ _ _ _ _ _ c.at_gradients-gradients.ensures c.fill.ensures refl refl c.begin-rs.ensures c.at_norms-norms.ensures c.sqrt.ensures
