-- `curvature` meets its contract: after i turns the sum is that of the first i products. Assumes nothing.
use Rattle.std.proofs.Common.{arith, sym, ◌∙◌}
use Rattle.sparse.specs.Sparse.{mat_vec}
use Rattle.sparse.specs.Matrix.{matrix_of}
use Rattle.conjugate.proofs.LawsPass.{length-product_of}
use Rattle.conjugate.proofs.LawsLoops.{curve_none, curve_step, curve_done}
use Rattle.conjugate.proofs.curvature.Goals as goal

pub loop-i-init : goal.loop-i-init
loop-i-init c = curve_none c.args.p.now (mat_vec (matrix_of c.args.a.now) c.args.p.now)

pub loop-i-preserved : goal.loop-i-preserved
loop-i-preserved c =
    curve_step c.args.p.now _ c.loop-i.i _ (omega arith) (length-product_of c.args.a.now c.args.p.now ∙ sym c.requires) c.row_product.ensures c.loop-i.invariant

pub returns : goal.returns
returns c =
    curve_done c.args.p.now _ c.loop-i.i (omega arith) (length-product_of c.args.a.now c.args.p.now ∙ sym c.requires) c.loop-i.invariant
