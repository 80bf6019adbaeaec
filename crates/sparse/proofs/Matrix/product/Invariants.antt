-- `product` meets its contract: after i turns the first i rows are multiplied and summed. Assumes nothing.
use Rattle.std.proofs.Common.{◌≡◌, length}
use Rattle.sparse.proofs.LawsProduct.{Rows}
use Rattle.sparse.proofs.Matrix.product.Given as goal

abbrev pub invariant-loop-i : goal.invariant-loop-i
invariant-loop-i l = (length l.out ≡ length l.initial.out) × Rows l.self.starts.now l.self.cols.now l.self.values.now l.x l.initial.out l.out l.i l.total l.from
