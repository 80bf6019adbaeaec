-- `put_first` meets its contract: two stores in a row are one write of two numbers. Assumes nothing.
use Rattle.work.proofs.Laws.{put_two}
use Rattle.pass.proofs.put_first.Goals as goal

pub returns : goal.returns
returns c = put_two _ _ _
