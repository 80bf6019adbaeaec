-- `path::length` meets its contract: the distances to the points that the iterator still has, added to the sum, give the length. Assumes nothing.
use Rattle.std.proofs.Common.{◌≡◌, ◌∙◌, length, ap, sym, arith}
use Rattle.binary64.specs.Constants.{plus_zero}
use Rattle.pde.specs.Path.{length_from}
use Rattle.tracing.proofs.LengthLaws.{point_in, length-short, length_first, length_step, length-end}
use Rattle.tracing.proofs.path.length.Goals as goal

pub loop-pair-init : goal.loop-pair-init
loop-pair-init c =
    let made = c.chunks_exact-points in
    let e = c.in-Some.ensures.steps in
    let same = c.into_iter-pair-iterator.ensures.into_iter_gives in
    let two = c.in-Some.first.now in
    let behind : c.next.new.self.rest.now ≡ c.into_iter-pair-iterator.result.rest.now = cc same in (
      cc (same, e.0, made.ensures.size),
      length_first c.args.path.now two c.next.new.self.rest.now (sym made.ensures.rest ∙ e.1.0) (e.1.1 ∙ made.ensures.size)
          ∙ ap (length_from plus_zero (point_in two)) behind,
    )

pub loop-pair-preserved : goal.loop-pair-preserved
loop-pair-preserved c =
    let l = c.loop-pair in
    let e = c.in-Some-pair.ensures.steps in (
      e.0 ∙ l.invariant.0,
      length_step l.sum c.distance-sum.result l.p _ _ _ e.1.0 (e.1.1 ∙ l.invariant.0) c.distance-sum.ensures l.invariant.1,
    )

pub returns-in_default : goal.returns-in_default
returns-in_default c =
    let made = c.chunks_exact-points.ensures in
    let e = c.in_default.ensures.steps in
    length-short c.args.path.now (omega (arith, e.1.0, ap length made.rest, made.size))

pub returns : goal.returns
returns c =
    let l = c.loop-pair in
    length-end l.pair-iterator.rest.now l.sum l.p (omega (arith, c.in-None.ensures.steps.1.0, l.invariant.0)) l.invariant.1
