-- `format::faults::finite_fault` meets its contract: its test is `finite`.
-- Assumes nothing.
use borrow.Author.Rules.{rules}
use mathlib.Core.Bool.{Bool}
use mathlib.Core.Path.{◌≡◌, ap, ◌∙◌}
use lib.Ieee.{is_nan}
use Rattle.std.specs.Float.{float_is_finite}
use Rattle.refusal.specs.Refusal.{fault}
use Rattle.binary64.specs.Number.{pick}
use Rattle.format.proofs.Laws.{finite_is}
use Rattle.format.proofs.faults.finite_fault.Goals as goal

pub returns : goal.returns
returns c =
    let e : fault c.real_fault.result ≡ pick (is_nan c.args.x) 6 (pick (float_is_finite c.args.x) 0 7) = search rules in
    e ∙ ap (λ (t : Bool). pick (is_nan c.args.x) 6 (pick t 0 7)) (finite_is c.args.x)
