-- `fill` meets its contract: each call of the closure gives v. Assumes nothing.
use Rattle.std.proofs.Common.{ℕ, ◌+◌, ◌∙◌, refl, ap, rules, replicate}
use Rattle.stretch.proofs.LoopLaws.{filled_is, chained_is}
use Rattle.stretch.proofs.fill.Goals as goal

pub returns : goal.returns
returns g c =
    let args = c.args in
    filled_is _ _ args.at (args.at + args.n) args.n args.v refl c.requires
    (chained_is _ _ args.v (λ x j r. search rules) _ _ c.fill_with.ensures.ran.1 ∙ ap (λ (k : ℕ). replicate k args.v) (search rules))
