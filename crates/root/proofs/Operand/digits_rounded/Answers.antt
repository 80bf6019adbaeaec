-- `Operand::digits_rounded` meets its contract: a root of 54 digits leaves room for one more. Assumes nothing.
use Rattle.std.proofs.Common.{◌*◌, ◌^◌, arith}
use Rattle.binary64.proofs.WholeRoot.{whole_root-lt}
use Rattle.root.proofs.Operand.digits_rounded.Goals as goal

pub overflow_add-result : goal.overflow_add-result
overflow_add-result c = omega (arith, c.digit_root.ensures, whole_root-lt 54 (c.args.self.digits * 2 ^ 54))
