-- `root::root_of_subnormal` meets its contract: a number of s digits has 64 − s leading zeros in a u64, so the shift is the definition's, 53 − s, and nothing is shifted out. Assumes nothing.
use Rattle.std.proofs.Common.{◌-◌, ◌∙◌, arith}
use lib.Count.{count_leading_zeros}
use Rattle.binary64.proofs.RootLaws.{Shift, shift, subnormal_is}
use Rattle.root.proofs.root_of_subnormal.Goals as goal
use Rattle.root.proofs.root_of_subnormal.Goals.{Start}

moved : (c : Start) → Shift c.args.digits (count_leading_zeros 64 c.args.digits)
moved c = shift c.args.digits c.requires.0 c.requires.1

pub overflow_sub-z : goal.overflow_sub-z
overflow_sub-z c = let s = moved c in omega arith

pub root_pattern-requires : goal.root_pattern-requires
root_pattern-requires c = let s = moved c.before in omega (arith, c.from.ensures)

pub returns : goal.returns
returns c =
    let s = moved c.before.before in
    (rw c.from.ensures at c.root_pattern.ensures) ∙ subnormal_is c.args.digits (count_leading_zeros 64 c.args.digits - 11) s.is s.raises.long
