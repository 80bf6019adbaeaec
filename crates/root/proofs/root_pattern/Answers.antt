-- `root::root_pattern` meets its contract: `nearest_root` gives the operand's root, whatever was guessed. Assumes nothing.
use Rattle.std.proofs.Common.{◌*◌, ◌^◌, arith}
use Rattle.binary64.proofs.WholeRoot.{whole_root-lt}
use Rattle.binary64.proofs.RootLaws.{pattern_is}
use Rattle.root.proofs.root_pattern.Goals as goal

pub overflow_add-result : goal.overflow_add-result
overflow_add-result c = omega (arith, c.nearest_root.ensures, whole_root-lt 54 (c.of-operand.result.digits * 2 ^ 54))

pub returns : goal.returns
returns c =
    pattern_is c.args.g c.args.m c.of-operand.result.digits c.nearest_root.result c.of-operand.ensures c.nearest_root.ensures
