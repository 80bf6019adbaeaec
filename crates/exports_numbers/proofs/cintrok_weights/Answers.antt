-- `exports_numbers::cintrok_weights` meets its contract: the weights are what `get_barycentric_weights` ensures, and the stores are inside `out`, whose length the first test gives. Assumes nothing.
use Rattle.exports_numbers.proofs.Laws.{too_short, put_there}
use native.Mathlib.Omega.{arith}
use borrow.Author.Rules.{rules}
use lib.ListN.{length-set}
use Rattle.exports_numbers.proofs.cintrok_weights.Goals as goal

pub returns-then-out-lt3 : goal.returns-then-out-lt3
returns-then-out-lt3 c = too_short c.if-out-lt3.true

pub bounds-out-1 : goal.bounds-out-1
bounds-out-1 c = simp length-set (omega arith)

pub bounds-out-2 : goal.bounds-out-2
bounds-out-2 c = simp length-set (omega arith)

pub shape_of-out : goal.shape_of-out
shape_of-out c = simp length-set

pub returns : goal.returns
returns c = rw (← c.get_barycentric_weights-w.ensures) (put_there c.if-out-lt3.false)
