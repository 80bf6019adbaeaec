-- `Operand::remainder` meets its contract: the products of q's halves are taken off the operand in turn. Assumes nothing.
use Rattle.std.proofs.Common.{◌-◌, ◌*◌, ◌/◌, ◌%◌, ◌^◌, arith}
use Rattle.binary64.proofs.RootGuess.{taken_off}
use Rattle.root.proofs.Operand.remainder.Goals as goal

pub returns : goal.returns
returns c =
    let operand = c.args.self.digits in
    let q = c.args.q in
    let a = q / 2 ^ 26 in
    let b = q % 2 ^ 26 in
    let first = operand - a * a in
    let second = first * 2 ^ 26 - 2 * a * b in
    taken_off operand q first second (second * 2 ^ 26 - b * b) (omega arith) (omega arith) (omega arith)
