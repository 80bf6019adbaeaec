-- `begin` meets its contract: the product is that of the matrix with the zeros at x, and the rest is the residual loop. Assumes nothing.
use Rattle.std.proofs.Common.{rules}
use Rattle.conjugate.proofs.LawsPass.{begins}
use Rattle.conjugate.proofs.begin.Goals as goal

pub returns-clause-begun : goal.returns-clause-begun
returns-clause-begun c = begins _ _ _ _ (search rules) c.product.ensures.is c.residual.ensures.resides
