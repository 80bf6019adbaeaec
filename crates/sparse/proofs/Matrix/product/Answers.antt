-- `product` meets its contract: after i turns the first i rows are multiplied and summed. Assumes nothing.
use Rattle.std.proofs.Common.{rules, arith, refl}
use Rattle.sparse.proofs.LawsProduct.{rows_none, rows_step, rows_done}
use Rattle.sparse.proofs.Matrix.product.Goals as goal

pub loop-i-init : goal.loop-i-init
loop-i-init c = (refl, rows_none _ _ _ _ _ _ refl)

pub loop-i-preserved : goal.loop-i-preserved
loop-i-preserved c = (search rules, rows_step _ _ _ _ _ _ c.loop-i.invariant.1 (omega arith) refl c.row-y.ensures)

pub returns : goal.returns
returns c =
    let d = rows_done _ _ _ _ c.loop-i.invariant.1 (omega arith) c.requires.0 c.requires.1 in
    record { is = d.0; sum_is = d.1 }
