-- `to_kept` meets its contract: the kept vectors are copied, and what came behind them is erased. Assumes nothing.
use Rattle.seek.proofs.LawsSeek.{kept_comes}
use Rattle.seek.proofs.to_kept.Goals as goal

pub returns : goal.returns
returns c = kept_comes _ _ _ _ _ c.at_kept-from.ensures c.at_x-to.ensures c.copy.ensures c.erase_gradients.ensures c.erase_norms.ensures c.erase_path.ensures c.pathless.ensures
