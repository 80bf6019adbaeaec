-- `format::faults::each` meets its contract: what is left to try is what was to try.
-- Assumes nothing.
use native.Mathlib.Omega.{arith}
use mathlib.Core.Path.{refl}
use Rattle.std.proofs.lemmas.Result.{err_from_is_err_and}
use Rattle.std.specs.Fn.{FnReturnsAt}
use Rattle.format.specs.TriesLaws.{tries_more, tries_until}
use Rattle.format.proofs.faults.each.Goals as goal

pub returns-in_err-test : goal.returns-in_err-test
returns-in_err-test g c =
    let p = err_from_is_err_and c.from_residual.result c.from_residual.ensures.1 in
    rw (p.1, p.2) (tries_until (FnReturnsAt g.F.Fn c.args.test) c.args.xs.now c.loop-x.x-index c.x-item.result _ (omega arith) c.x-item.is (record { shown = _; shows = refl; says = record { met = c.in_err-test.ensures } }) c.loop-x.invariant)

pub loop-x-preserved : goal.loop-x-preserved
loop-x-preserved g c = tries_more (FnReturnsAt g.F.Fn c.args.test) c.args.xs.now c.loop-x.x-index c.x-item.result (omega arith) c.x-item.is (record { shown = _; shows = refl; says = record { met = c.in_ok-test.ensures } }) c.loop-x.invariant
