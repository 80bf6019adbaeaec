-- `erase_norms` meets its contract: where there are no norms from k on, nothing is filled. Assumes nothing.
use Rattle.seek.proofs.LawsSeek.{no_norms_erased}
use Rattle.seek.proofs.erase_norms.Goals as goal

pub returns-else-k-stand : goal.returns-else-k-stand
returns-else-k-stand c = no_norms_erased c.args.laid.now.counted.plan c.args.stand _ _ c.if-k-stand.false
