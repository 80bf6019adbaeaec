-- Each call writes one stretch. Assumes nothing.
use Rattle.std.proofs.Common.{arith, ap, ◌∙◌, ◌+◌, ℕ, List}
use Rattle.std.specs.Prelude.{Float}
use lib.ListN.{length}
use lib.Seq.{length-take-le}
use Rattle.stretch.specs.Stretch.{splice}
use Rattle.rows.proofs.matrix.Builder.append.Goals as goal

pub put_behind-requires : goal.put_behind-requires
put_behind-requires c = omega (arith, c.requires.room, ap length c.entries.ensures.values, length-take-le _ _ c.args.row.now.within.0)

pub returns-clause-values : goal.returns-clause-values
returns-clause-values c = c.put_behind.ensures ∙ ap (λ (l : List Float). splice c.args.self.now.values.now c.args.self.now.count l) c.entries.ensures.values

pub returns-clause-cols : goal.returns-clause-cols
returns-clause-cols c = c.put_behind-2.ensures ∙ ap (λ (l : List ℕ). splice c.args.self.now.cols.now c.args.self.now.count l) c.entries.ensures.cols
