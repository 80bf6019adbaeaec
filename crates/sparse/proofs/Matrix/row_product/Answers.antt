-- `row_product` meets its contract: a row from the parts that are lent is element i of the product. Assumes nothing.
use Rattle.std.proofs.Common.{refl}
use Rattle.sparse.specs.Sparse.{row_product}
use Rattle.sparse.proofs.LawsProduct.{element_is}
use Rattle.sparse.proofs.Matrix.row_product.Goals as goal

pub returns : goal.returns
unfolding row_product
returns c = element_is _ _ _ _ _ c.args.i _ _ _ c.requires.0 refl refl c.rest.ensures
