-- `to_started` meets its contract: the path is erased, and the first point from the field's end is put down; no norm is given. Assumes nothing.
use Rattle.seek.proofs.LawsSeek.{started_comes}
use Rattle.seek.proofs.to_started.Goals as goal

pub returns : goal.returns
returns c =
    started_comes _ _ _ _ _ _ _ _ _ _ _ c.at_norms-f.ensures c.at_field_end-s.ensures c.erase_path.ensures c.start_step-d.ensures c.deliver.ensures
