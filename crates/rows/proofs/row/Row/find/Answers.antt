use Rattle.laplace.specs.Row.{Finds}
use Rattle.laplace.proofs.LawsInsert.{position_from}
use Rattle.rows.proofs.row.Row.find.Goals as goal
use Rattle.rows.proofs.row.Row.find.Goals.{else-p-self-via-then-p-self+else-self-p, else-p-self-via-else-p-self}
use Rattle.std.proofs.Common.{arith}

pub returns-then-self-p : goal.returns-then-self-p
unfolding Finds
returns-then-self-p c = (position_from _ _ _ _ _ c.args.self.now.within.1 c.first_from.ensures c.unwrap_or-p.ensures, c.if-p-self.true, c.if-self-p.true)

pub returns : goal.returns
unfolding Finds
returns c = (
  position_from _ _ _ _ _ c.args.self.now.within.1 c.first_from.ensures c.unwrap_or-p.ensures,
  elim c.else-p-self.branch [ else-p-self-via-then-p-self+else-self-p w ↦ λ h g. w.if-self-p.false g | else-p-self-via-else-p-self w ↦ λ h g. omega (arith, w.if-p-self.false) ],
)
