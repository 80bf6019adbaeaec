-- `rest_of_few` meets its contract: each term leaves less, and what is left is the whole. Assumes nothing.
use Rattle.std.proofs.Common.{arith, refl, ◌+◌, ◌∙◌}
use Rattle.sparse.proofs.LawsRow.{left_none, left_step, left_done}
use Rattle.sparse.proofs.rest_of_few.Goals as goal

pub returns-then-from-to : goal.returns-then-from-to
returns-then-from-to c =
    let args = c.args in
    left_done (left_none args.cols.now args.values.now args.x.now args.partial args.from args.to) (omega arith)

pub returns-then-second-to : goal.returns-then-second-to
returns-then-second-to c =
    let args = c.args in
    left_done (left_step (args.from + 1) (left_none args.cols.now args.values.now args.x.now args.partial args.from args.to) c.requires.2 (omega arith) (omega arith) refl c.term-a.ensures) (omega arith)

pub returns : goal.returns
returns c =
    let args = c.args in
    let s = left_step (args.from + 1) (left_none args.cols.now args.values.now args.x.now args.partial args.from args.to) c.requires.2 (omega arith) (omega arith) refl c.term-a.ensures in
    c.rest.ensures ∙ (left_step (args.from + 1 + 1) s c.requires.2 (omega arith) (omega arith) refl c.term-b.ensures).is
