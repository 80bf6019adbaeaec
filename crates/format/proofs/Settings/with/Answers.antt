-- `format::Settings::with` meets its contract: y of the start is added as y. The check finds the other settings by itself.
-- Assumes nothing.
use mathlib.Core.Path.{sym, ap}
use Rattle.format.specs.declared.Setting as code
use Rattle.format.specs.Setting.{said}
use Rattle.format.specs.Sheet.{adding}
use Rattle.format.proofs.Settings.with.Goals as goal

pub returns-in-StartY : goal.returns-in-StartY
unfolding adding
returns-in-StartY c = sym (ap (λ (o : code.Setting). adding c.args.self (said o)) c.in-StartY.is)
