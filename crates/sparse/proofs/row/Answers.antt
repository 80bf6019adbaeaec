-- `row` meets its contract: each term leaves less, and what is left is the whole. Assumes nothing.
use Rattle.std.proofs.Common.{arith, refl, ◌+◌, ◌∙◌}
use Rattle.binary64.specs.Constants.{plus_zero}
use Rattle.sparse.specs.Sparse.{row_product}
use Rattle.sparse.proofs.LawsRow.{left_none, left_step}
use Rattle.sparse.proofs.row.Goals as goal

pub returns-then-to-from-ge5 : goal.returns-then-to-from-ge5
unfolding row_product
returns-then-to-from-ge5 c =
    let args = c.args in
    let row = c.requires.2 in
    let s1 = left_step (args.from + 1) (left_none args.cols.now args.values.now args.x.now plus_zero args.from args.to) row (omega arith) (omega arith) refl c.term-a.ensures in
    let s2 = left_step (args.from + 2) s1 row (omega arith) (omega arith) (omega arith) c.term-b.ensures in
    let s3 = left_step (args.from + 3) s2 row (omega arith) (omega arith) (omega arith) c.term-c.ensures in
    let s4 = left_step (args.from + 4) s3 row (omega arith) (omega arith) (omega arith) c.term-d.ensures in
    c.rest_of_few.ensures ∙ (left_step (args.from + 5) s4 row (omega arith) (omega arith) (omega arith) c.term-e.ensures).is

pub returns : goal.returns
unfolding row_product
returns c = c.rest.ensures
