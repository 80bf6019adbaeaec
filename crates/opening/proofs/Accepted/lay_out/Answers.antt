-- `Accepted::lay_out` meets its contract: what was loaded is a mesh in its places, and its assembly is the content's matrix and right side. Assumes nothing.
use Rattle.opening.proofs.LawsPlace.{read_of, assembles, lays_out}
use Rattle.opening.proofs.Accepted.lay_out.Goals as goal

pub assemble-requires : goal.assemble-requires
assemble-requires c = assembles _ _ (read_of c.args.self.now.is c.args.self.now.below) _ _ c.requires.1 _ _ c.load.ensures _ _ c.requires.0 c.places.ensures

pub returns : goal.returns
returns c =
    lays_out _ _ (read_of c.args.self.now.is c.args.self.now.below) _ _ c.requires.1 _ _ c.load.ensures _ _ c.requires.0 c.places.ensures _ _ _
    c.assemble.ensures
