use Rattle.std.proofs.Common.{rules}
use Rattle.laplace.specs.Mesh.{free, tag_of}
use Rattle.laplace.specs.Right.{all_free}
use Rattle.right.proofs.is_free.Goals as goal

pub returns : goal.returns
unfolding all_free free tag_of
returns c = search rules
