-- `least_vertex` meets its contract: before the number i, the least of those that are left, from the best so far, is the least of all. Assumes nothing.
use Rattle.starts.proofs.StartLaws.{least_all, least_less, least_not, least_done}
use Rattle.starts.proofs.least_vertex.Goals as goal
use Rattle.starts.proofs.least_vertex.Goals.{then-x-least, else-x-least}

pub loop-i-init : goal.loop-i-init
loop-i-init c = least_all _

pub loop-i-preserved : goal.loop-i-preserved
loop-i-preserved c =
    let us = c.args.values.now in
    let l = c.loop-i in
    elim c.if-x-least.branch [
      | then-x-least w ↦ rw (w.best-is, w.least-is) (least_less us l.i l.best l.least c.loop-i-test.true l.invariant w.if-x-least.true)
      | else-x-least w ↦ rw (w.best-is, w.least-is) (least_not us l.i l.best l.least c.loop-i-test.true l.invariant w.if-x-least.false)
    ]

pub returns : goal.returns
returns c = least_done c.args.values.now c.loop-i.i _ _ c.loop-i-test.false c.loop-i.invariant
