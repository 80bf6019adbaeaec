-- `crossings` meets its contract: crossings read the lent floats as they stand. Assumes nothing.
use Rattle.std.specs.Prelude.{Some}
use native.Mathlib.Omega.{arith}
use Rattle.dry.proofs.LawsPhases.{stored_enough, ground_by, crossed-all}
use Rattle.dry.proofs.crossings.Goals as goal

pub invariant_of-graded : goal.invariant_of-graded
invariant_of-graded c =
    let a = c.args in
    let q = c.requires.0 in
    record { ground = ground_by (Some c.gradients_in.result) a.laid.now.counted.plan _ q.ready c.field.ensures (stored_enough a.laid.now.counted.plan a.floats.now c.gradients_in.result c.gradients_in.ensures (omega (arith, q.floats_fit))) }

pub cross-requires : goal.cross-requires
cross-requires c =
    let q = c.requires in
    (record { standing = q.0.standing; solved = q.1.solved; some = omega (arith, q.1.some) }, q.0.near)

pub returns : goal.returns
returns c =
    let a = c.args in
    crossed-all a.laid.now.counted.plan a.laid.now.words.now a.floats.now a.stand a.k c.requires.0 _ _ _ _ c.at_x-u.ensures c.field.ensures c.gradients_in.ensures c.cross.ensures
