-- `binary64::abs` meets its contract: what is at most 0 is taken from 0, and all else, NaN too, has no sign to clear. Assumes nothing.
use Rattle.std.proofs.lemmas.Float.{T_from_true}
use Rattle.binary64.proofs.LawsAbs.{abs_at_most, abs_else}
use Rattle.binary64.proofs.abs.Goals as goal

pub returns-then-x : goal.returns-then-x
returns-then-x c = abs_at_most _ (T_from_true _ c.before.well_formed.0.1) c.if-x.true

pub returns : goal.returns
returns c = abs_else _ c.if-x.false
