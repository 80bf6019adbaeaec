use borrow.Author.Rules.{rules}
use Rattle.text.specs.PutLaws.{printed}
use Rattle.text.specs.TextLaws.{run_room}
use Rattle.text.proofs.put_run.Goals as goal

pub run-requires : goal.run-requires
run-requires c = run_room _ _ _ _ _ _ _ _ _ c.requires

pub returns : goal.returns
returns c = printed c.run.ensures.put (search rules) (run_room _ _ _ _ _ _ _ _ _ c.requires)
