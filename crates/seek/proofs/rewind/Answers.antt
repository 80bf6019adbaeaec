-- `rewind` meets its contract: each part of the floats is what its function ensures. Assumes nothing.
use native.Mathlib.Omega.{arith}
use Rattle.work.proofs.LawsVectors.{starts}
use Rattle.seek.proofs.LawsSeek.{rewinds}
use Rattle.seek.proofs.rewind.Goals as goal

pub begin-rs-requires : goal.begin-rs-requires
begin-rs-requires c = record { starts = starts c.args.laid.now.counted.plan.n c.args.laid.now.counted.plan.t _ c.args.laid.now.ready.sound (omega (arith, c.requires.1)) }

pub returns : goal.returns
returns c = rewinds _ _ _ _ _ _ _ _ _ _ c.begin-rs.ensures c.erase_gradients.ensures c.erase_norms.ensures c.at_norms-k.ensures c.sqrt.ensures
