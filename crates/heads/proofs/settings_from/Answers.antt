-- `settings_from` meets its contract: each setting from its places. Assumes nothing.
use Rattle.heads.specs.Heads.{settings_from}
use Rattle.heads.proofs.settings_from.Goals as goal

pub returns : goal.returns
unfolding settings_from
returns c =
    rw (c.given-limit.ensures, c.given-tolerance.ensures, c.given-step.ensures, c.given-x.ensures, c.given-y.ensures, c.given-room.ensures, c.whole.ensures, c.whole-2.ensures, c.whole-3.ensures, c.real.ensures, c.whole-4.ensures, c.real-2.ensures, c.whole-5.ensures, c.real-3.ensures, c.whole-6.ensures, c.real-4.ensures, c.whole-7.ensures, c.whole-8.ensures)
