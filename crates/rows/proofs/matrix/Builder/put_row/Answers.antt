-- What is built in the clear row passes through it to its place. Assumes nothing.
use Rattle.std.proofs.Common.{rules, ◌∙◌}
use Rattle.laplace.proofs.LawsMatrix.{row_starts, row_cleared, row_put}
use Rattle.rows.proofs.matrix.Builder.put_row.Goals as goal

pub fill-requires : goal.fill-requires
fill-requires c = let pre = c.requires in let y = pre.0 in (rw y.empty (row_starts _ _ _ _ _ _ y.ready), y.empty, pre.1)

pub returns-clause-row : goal.returns-clause-row
returns-clause-row c =
    let pre = c.requires in
    let clear = c.append.ensures.clear in
    let same = row_cleared _ _ _ _ _ _ pre.0.ready _ _ pre.1 pre.2 _ _ _ c.fill.ensures.written in
    record { same = search rules; values = clear.0 ∙ same.0; cols = clear.1 ∙ same.1; empty = clear.2 }

pub returns-clause-put : goal.returns-clause-put
returns-clause-put c =
    let pre = c.requires in
    let done = c.append.ensures in
    record { same = search rules; put = rw (done.starts, done.values, done.cols, done.count) (row_put _ _ _ _ _ _ pre.0.ready _ _ pre.1 pre.2 _ _ _ c.fill.ensures.written) }
