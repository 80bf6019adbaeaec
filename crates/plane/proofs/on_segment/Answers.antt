-- `plane::on_segment` meets its contract: a projection whose dividend is between 0 and its divisor is in the range, and elsewhere both comparisons of the projection are those of `on_segment`. Assumes nothing.
use Rattle.plane.proofs.Laws.{one_and_small_lem, in_range}
use Rattle.plane.proofs.on_segment.Goals as goal
use Rattle.plane.proofs.on_segment.Goals.{else-proj-via-then-proj+else-proj-2, else-proj-via-else-proj}

pub returns-then-d-len2 : goal.returns-then-d-len2
returns-then-d-len2 c = rw (← c.sub.ensures, ← c.dot-d.ensures, in_range _ _ c.if-d-len2.true)

pub returns-then-proj-2 : goal.returns-then-proj-2
returns-then-proj-2 c = rw (← c.sub.ensures, ← c.dot-d.ensures, c.if-proj.true, rw one_and_small_lem at c.if-proj-2.true)

pub returns : goal.returns
returns c =
    rw (← c.sub.ensures, ← c.dot-d.ensures)
    (elim c.else-proj.branch [
      | else-proj-via-then-proj+else-proj-2 w ↦ rw (w.if-proj.true, rw one_and_small_lem at w.if-proj-2.false)
      | else-proj-via-else-proj w ↦ rw w.if-proj.false
    ])
