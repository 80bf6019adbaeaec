-- After r turns the first r rows stand one after the other, and the row is clear. Assumes nothing.
use Rattle.std.proofs.Common.{◌∙◌, refl}
use Rattle.laplace.proofs.LawsMatrix.{rows_none, rows_room, rows_again, ready_on}
use Rattle.rows.proofs.matrix.Builder.fill.Goals as goal

pub loop-r-init : goal.loop-r-init
loop-r-init c =
    let pre = c.requires in
    record {
      row = record { same = record { values = refl; cols = refl }; values = refl; cols = refl; empty = pre.0.empty };
      put = record { same = record { starts = refl; cols = refl; values = refl }; put = rw pre.1 (rows_none _ pre.0.ready.mesh _ _ _) };
    }

pub put_row-requires : goal.put_row-requires
put_row-requires c =
    let pre = c.requires in
    let s = c.loop-r.invariant in
    let y = pre.0.ready in (
      record { ready = ready_on _ _ _ _ _ _ y _ _ _ _ _ s.put.put _ _ s.row.values s.row.cols; empty = s.row.empty },
      c.loop-r-test.true,
      rows_room _ y.mesh _ _ _ _ c.loop-r-test.true _ _ _ _ s.put.put,
    )

pub loop-r-preserved : goal.loop-r-preserved
loop-r-preserved c =
    let s = c.loop-r.invariant in
    let done = c.put_row.ensures in
    let row = done.row in
    let rows = done.put in
    record {
      row = record { same = record { values = row.same.values ∙ s.row.same.values; cols = row.same.cols ∙ s.row.same.cols }; values = row.values ∙ s.row.values; cols = row.cols ∙ s.row.cols; empty = row.empty };
      put = record {
        same = record { starts = rows.same.starts ∙ s.put.same.starts; cols = rows.same.cols ∙ s.put.same.cols; values = rows.same.values ∙ s.put.same.values };
        put = rows_again _ c.requires.0.ready.mesh _ _ _ _ c.loop-r-test.true _ _ _ _ s.put.put _ _ _ _ rows.put;
      };
    }
