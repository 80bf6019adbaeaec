-- `direct` meets its contract: after i turns the first i elements are r + beta p. Assumes nothing.
use Rattle.conjugate.proofs.LawsLoops.{Directed}
use Rattle.conjugate.proofs.direct.Given as goal

abbrev pub invariant-loop-i : goal.invariant-loop-i
invariant-loop-i l = Directed l.r l.initial.p l.beta l.i l.p
