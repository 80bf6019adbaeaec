-- `Graded::cross` meets its contract: after i turns i crossings are made, and one at a finished path would change nothing. Assumes nothing.
use native.Mathlib.Omega.{arith}
use Rattle.dry.proofs.LawsCrossing.{going_next, crossed_none, crossed-more, crossed-ended}
use Rattle.dry.proofs.Graded.cross.Goals as goal

pub loop-i-init : goal.loop-i-init
loop-i-init c = (c.requires.0, omega arith, crossed_none _ _ _ _)

pub returns-then-is_over : goal.returns-then-is_over
returns-then-is_over c = crossed-ended _ _ _ _ _ _ _ (omega arith) (c.is_over.ensures.yes c.if-is_over.true) c.loop-i.invariant.2

pub loop-i-preserved : goal.loop-i-preserved
loop-i-preserved c =
    let g = c.args.self.now in
    let loop = c.loop-i in
    let e = c.cross_once-s.ensures in
    let on = c.is_over.ensures.no c.if-is_over.false in
    let next = going_next g.stored g.plan g.field loop.s c.cross_once-s.result g.ground loop.invariant.0 on e in
    (next.0, omega (arith, next.1), crossed-more g.stored g.plan g.field _ _ loop.s _ loop.invariant.0 on loop.invariant.2 e)
