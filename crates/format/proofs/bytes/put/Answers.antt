-- `format::bytes::put` meets its contract: the part that is written over is placed.
-- Assumes nothing.
use native.Mathlib.Omega.{arith}
use Rattle.format.specs.PlaceLaws.{placed_part}
use Rattle.format.proofs.bytes.put.Goals as goal

pub returns : goal.returns
returns c = placed_part c.args.out.now c.args.at _ _ c.args.bytes.now c.copy_from_slice.ensures.after (omega arith) (omega arith)
