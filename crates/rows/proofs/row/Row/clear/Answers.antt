use Rattle.std.proofs.Common.{rules}
use Rattle.rows.proofs.PutLaws.{fill_is}
use Rattle.rows.proofs.row.Row.clear.Goals as goal

pub returns-clause-values : goal.returns-clause-values
returns-clause-values c = fill_is _ _ _ _ (c.fill.ensures.after (λ y h. search rules)) c.args.self.now.within.0

pub returns-clause-cols : goal.returns-clause-cols
returns-clause-cols c = fill_is _ _ _ _ (c.fill-2.ensures.after (λ y h. search rules)) c.args.self.now.within.1
