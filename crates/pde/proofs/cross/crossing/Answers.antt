-- `cross::crossing` meets its contract: magnitude, direction, exit and what lies beyond are what the calls ensure, and the nearest exit's distance is the way that is laid in pieces. Assumes nothing.
use Rattle.std.proofs.lemmas.Result.{err_from_is_err_and}
use Rattle.pde.specs.Crossing.{crossing_along}
use Rattle.pde.proofs.LeavingLaws.{crossing_stuck, crossing_leaves, leaves_by_edge, some_exit, none_exit}
use Rattle.pde.proofs.cross.crossing.Goals as goal

pub returns-then-mag-rule : goal.returns-then-mag-rule
unfolding crossing_along
returns-then-mag-rule c = rw (← c.magnitude-mag.ensures, c.if-mag-rule.true)

pub returns-in_err-exit : goal.returns-in_err-exit
returns-in_err-exit c =
    let p = err_from_is_err_and c.from_residual.result c.from_residual.ensures.1 in
    let none = none_exit _ c.ok_or.ensures.value c.in_err-exit.was in
    rw (p.1, p.2, none.1)
    (crossing_stuck _ _ _ _ _ _ _ _ _ _ _
    c.magnitude-mag.ensures c.if-mag-rule.false c.direction-dir.ensures c.find_exit_edge-best.ensures
    none.0)

pub beyond-requires : goal.beyond-requires
beyond-requires c = (c.requires, leaves_by_edge _ _ _ _ _ _ _ c.find_exit_edge-best.ensures (some_exit _ c.ok_or.ensures.value c.in_ok-exit.was))

pub returns : goal.returns
returns c =
    crossing_leaves _ _ _ _ _ _ _ _ _ _ _
    c.magnitude-mag.ensures c.if-mag-rule.false c.direction-dir.ensures c.find_exit_edge-best.ensures _
    (some_exit _ c.ok_or.ensures.value c.in_ok-exit.was) c.pieces-pieces.ensures c.beyond.ensures
