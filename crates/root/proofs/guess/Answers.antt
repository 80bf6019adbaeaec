-- `root::guess` meets its contract: the pattern that it reads is of a number. Nothing is claimed of the floats. Assumes nothing.
use Rattle.std.proofs.Common.{arith}
use Rattle.binary64.proofs.RootLaws.{number}
use Rattle.root.proofs.guess.Goals as goal

pub float_from_bits-y : goal.float_from_bits-y
float_from_bits-y c = number _ (omega arith)
