-- `Mesh::corner` meets its contract: each corner of a mesh is a vertex. Assumes nothing.
use Rattle.mesh.proofs.Mesh.corner.Goals as goal

pub returns : goal.returns
returns c = record { is = c.corner.ensures.is; below = c.corner.ensures.below _ (record { at = c.args.self.now.whole.corners }) }
