-- The value that is put stands at its place in what was moved up. Assumes nothing.
use Rattle.std.proofs.Common.{ap, List, set}
use Rattle.std.specs.Prelude.{Float}
use Rattle.rows.proofs.row.Row.open_at.Goals as goal

pub returns-clause-values : goal.returns-clause-values
returns-clause-values c = ap (λ (l : List Float). set l c.args.p c.args.v) c.copy_within.ensures.after
