use borrow.Author.Rules.{rules}
use Rattle.text.specs.PutLaws.{printed}
use Rattle.text.specs.TextLaws.{refused_room}
use Rattle.text.proofs.put_refused.Goals as goal

pub refused_by-requires : goal.refused_by-requires
refused_by-requires c = refused_room _ _ _ c.requires

pub returns : goal.returns
returns c = printed c.refused_by.ensures.put (search rules) (refused_room _ _ _ c.requires)
