-- `turned` meets its contract: each answer of a pass leads to the stand that the definition gives for it. Assumes nothing. It stands so that a refusal names the fact.
use Rattle.std.specs.Prelude.{◌+◌}
use Rattle.std.proofs.Common.{◌∙◌, ap}
use Rattle.work.specs.Memory.{solved_stand}
use Rattle.kinds.proofs.turned.Goals as goal

pub returns-in-Halted : goal.returns-in-Halted
returns-in-Halted c = rw c.in-Halted.is c.solved_stand.ensures

pub returns-in-Moved : goal.returns-in-Moved
returns-in-Moved c = rw c.in-Moved.is (c.solved_stand-in-Moved.ensures ∙ ap (λ e. solved_stand c.args.stand c.in-Moved.rs (c.args.stand.norms + 1) e) c.limit_end-end.ensures)
