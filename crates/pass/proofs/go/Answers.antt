-- `go` meets its contract: after i turns i passes are made, none of them a crossing; crossings are all that is left, and a pass at a finished path would change nothing. Assumes nothing.
use native.Mathlib.Omega.{arith}
use borrow.Author.Rules.{rules}
use Rattle.work.specs.LaidLaws.{ready_of}
use Rattle.work.proofs.Laws.{goes_none, goes-more, goes-ended, goes_done, goes_on, came_standing, came_place}
use Rattle.kinds.specs.NextLaws.{told}
use Rattle.pass.proofs.go.Goals as goal

pub loop-i-init : goal.loop-i-init
loop-i-init c = (c.requires.0, omega arith, goes_none _ _ _ _ _)

pub returns-in-Over : goal.returns-in-Over
returns-in-Over c = goes-ended _ _ _ _ _ _ _ _ c.loop-i.invariant.2 (omega arith) (told c.loop-i.s c.of.ensures c.in-Over.is)

pub cross_on-requires : goal.cross_on-requires
cross_on-requires c =
    let turn = c.loop-i.invariant in
    (turn.0, omega (arith, c.requires.1, turn.1), search rules, told c.loop-i.s c.of.ensures c.in-Cross.is)

pub returns-in-Cross : goal.returns-in-Cross
returns-in-Cross c =
    let turn = c.loop-i in
    goes_on _ _ _ _ _ _ _ _ _ _ _ _ turn.invariant.2 c.cross_on.ensures (omega arith)

pub loop-i-preserved : goal.loop-i-preserved
loop-i-preserved c =
    let turn = c.loop-i in
    let e = c.once-s.ensures in
    let h = came_place _ _ _ _ _ _ _ _ e in
    (came_standing _ _ _ _ _ _ _ _ e (ready_of c.args.laid.now.ready) turn.invariant.0, omega arith, goes-more _ _ _ _ _ _ _ _ _ _ turn.invariant.2 e)

pub returns : goal.returns
returns c = goes_done _ _ _ _ _ _ _ _ c.loop-i.invariant.2 (omega arith)
