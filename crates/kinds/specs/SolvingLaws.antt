-- A pass of solving leads where its answer says. Assumes nothing.
use Rattle.std.specs.Prelude.{◌≡◌, refl, List, Float}
use Rattle.conjugate.specs.Solver.{Turn, halted, reached, moved}
use Rattle.conjugate.specs.Placed.{answer_of}
use Rattle.work.specs.declared.Plan.{Plan}
use Rattle.work.specs.declared.Stand.{Stand}
use Rattle.work.specs.Memory.{solved_step}
use Rattle.kinds.specs.Solving.{turned_stand, given_by}

pub solved_turned : (plan : Plan) (s : Stand) (f : List Float) (t : Turn) → (solved_step plan s f t).stand ≡ turned_stand plan s (answer_of t)
unfolding solved_step answer_of
solved_turned plan s f halted = refl
solved_turned plan s f (reached x r norm) = refl
solved_turned plan s f (moved u norm) = refl

pub solved_given : (plan : Plan) (s : Stand) (f : List Float) (t : Turn) → (solved_step plan s f t).gives ≡ given_by (answer_of t)
unfolding solved_step answer_of
solved_given plan s f halted = refl
solved_given plan s f (reached x r norm) = refl
solved_given plan s f (moved u norm) = refl
