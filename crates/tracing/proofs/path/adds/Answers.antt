-- `path::adds` meets its contract: one less than the pieces leaves room for the one point of an end. Assumes nothing.
use Rattle.std.proofs.Common.{arith}
use Rattle.pde.specs.PathLaws.{closes-most}
use Rattle.tracing.proofs.path.adds.Goals as goal

pub overflow_add-result : goal.overflow_add-result
overflow_add-result c = record { fits = omega (arith, closes-most c.args.b, c.closes.ensures, c.saturating_sub.ensures, c.ranges.pieces) }
