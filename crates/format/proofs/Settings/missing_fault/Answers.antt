-- `format::Settings::missing_fault` meets its contract: its test is that of `missing`.
-- Assumes nothing.
use borrow.Author.Rules.{rules}
use mathlib.Core.Path.{◌≡◌}
use mathlib.Core.Bool.{true, beq}
use Rattle.std.specs.Prelude.{is_some}
use Rattle.format.proofs.Laws.{none_missing}
use Rattle.format.proofs.Settings.missing_fault.Goals as goal

pub returns-then-is_some-3 : goal.returns-then-is_some-3
returns-then-is_some-3 c =
    let s = c.args.self in
    let together : beq (is_some s.x) (is_some s.y) ≡ true = search rules in
    none_missing s (search rules) (search rules) together
