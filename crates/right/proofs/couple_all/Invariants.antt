use Rattle.laplace.proofs.LawsRight.{Coupling}
use Rattle.right.proofs.couple_all.Given as goal

abbrev pub invariant-loop-q : goal.invariant-loop-q
invariant-loop-q l = Coupling l.mesh l.initial.right l.right l.q-index
