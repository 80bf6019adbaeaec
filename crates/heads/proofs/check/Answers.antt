-- `check` meets its contract: where the lists have the places, the head and the settings are put. Assumes nothing.
use Rattle.heads.proofs.Laws.{checked_put}
use Rattle.heads.proofs.check.Goals as goal

pub returns : goal.returns
returns c = checked_put _ _ _ c.in_ok-header.ensures c.placed.ensures c.if-not-fits.false c.put_head.ensures c.put_settings.ensures
