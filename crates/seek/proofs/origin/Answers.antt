-- `origin` meets its contract: what lies after the place where solving ended is sought from the start pass. Assumes nothing. It stands so that a refusal names the fact.
use Rattle.seek.proofs.LawsSeek.{started_origin}
use Rattle.seek.proofs.origin.Goals as goal

pub returns-then-at-target : goal.returns-then-at-target
returns-then-at-target c = started_origin _ _ _ _ c.if-stand-target.false (c.is_solved.ensures.yes c.if-not-is_solved.false) c.solved_at-at.ensures c.if-at-target.true
