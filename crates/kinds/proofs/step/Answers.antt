-- `step` meets its contract: the kind that is next is the one that the definition chooses. Assumes nothing.
use native.Mathlib.Omega.{arith}
use Rattle.kinds.specs.NextLaws.{told}
use Rattle.kinds.proofs.LawsKinds.{steps_over, steps_solve, steps_begin, steps_cross}
use Rattle.kinds.proofs.step.Goals as goal

pub returns-in-Over : goal.returns-in-Over
returns-in-Over c = steps_over _ _ _ _ (told c.args.stand c.of.ensures c.in-Over.is)

pub returns-in-Solve : goal.returns-in-Solve
returns-in-Solve c =
    let t = told c.args.stand c.of.ensures c.in-Solve.is in
    steps_solve _ _ _ _ _ _ t.0 t.1 c.solve_step.ensures

pub returns-in-Begin : goal.returns-in-Begin
returns-in-Begin c =
    let t = told c.args.stand c.of.ensures c.in-Begin.is in
    steps_begin _ _ _ _ _ _ t.0 t.1 t.2 c.begin_step.ensures

pub cross_step-requires : goal.cross_step-requires
cross_step-requires c =
    let t = told c.args.stand c.of.ensures c.in-Cross.is in
    record { steppable = c.requires; unended = t.unended; some = omega (arith, t.some) }

pub returns-in-Cross : goal.returns-in-Cross
returns-in-Cross c =
    let t = told c.args.stand c.of.ensures c.in-Cross.is in
    steps_cross _ _ _ _ _ _ t.unended t.solved t.some c.cross_step.ensures
