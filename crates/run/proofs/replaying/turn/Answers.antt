-- `turn` meets its contract: each front that is lent is as long as the call's numbers say, or all there is. Assumes nothing.
use borrow.Author.Rules.{rules}
use Rattle.image.specs.Replay.{lent_at}
use Rattle.image.proofs.ReplayLaws.{turned}
use Rattle.run.proofs.replaying.turn.Goals as goal

pub returns : goal.returns
returns c =
    turned (lent_at c.args.numbers.now 0) _ _ _ _ _ _ _ _ _ _ c.min-f.ensures c.min-w.ensures
    c.min-p.ensures (rw c.from-call.ensures at c.perform.ensures)
