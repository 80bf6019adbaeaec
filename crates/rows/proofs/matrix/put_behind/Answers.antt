-- `put_behind` meets its contract. Assumes nothing.
use Rattle.std.proofs.Common.{arith, refl, rules, ap, ◌∙◌, ◌≡◌, ◌+◌, length, set, List}
use Rattle.stretch.specs.Stretch.{part, splice}
use Rattle.stretch.specs.StretchLaws.{part_zero, part_all}
use Rattle.stretch.proofs.LoopLaws.{write_none}
use Rattle.rows.proofs.BehindLaws.{behind_step}
use Rattle.rows.proofs.matrix.put_behind.Goals as goal

pub loop-i-init : goal.loop-i-init
loop-i-init g c = (omega arith, refl, rw part_zero (write_none c.args.to.now c.args.at))

pub loop-i-preserved : goal.loop-i-preserved
loop-i-preserved g c =
    let a = c.args in
    let l = c.loop-i in
    (omega arith, search rules, ap (λ v. set l.to (a.at + l.i) v) c.index-from-i.is ∙ behind_step _ l.to a.from.now a.at l.i _ (omega arith) l.invariant.2)

pub returns : goal.returns
returns g c =
    let a = c.args in
    let l = c.loop-i in
    l.invariant.2 ∙ ap (λ x. splice a.to.now a.at x) (part_all a.from.now l.i (omega arith))
