-- `space_needed` meets its contract: where nothing refuses, the counts are in their ranges. Assumes nothing.
use native.Mathlib.Omega.{arith}
use lib.ListN.{length-set}
use Rattle.std.proofs.lemmas.Result.{err_from_is_err_and}
use Rattle.image.proofs.RefusalLaws.{refuses_some}
use Rattle.controls.proofs.Laws.{asked, needed_refused}
use Rattle.controls.proofs.space_needed.Goals as goal

pub returns-in_err-needed_fault : goal.returns-in_err-needed_fault
returns-in_err-needed_fault c =
    let p = err_from_is_err_and c.from_residual.result c.from_residual.ensures.1 in
    rw (p.1, p.2) (needed_refused _ _ _ _ _ _ c.in_err-needed_fault.ensures (refuses_some _))

pub invariant_of-space : goal.invariant_of-space
invariant_of-space c = let h = asked c.in_ok-needed_fault.ensures in record { n_most = h.vertices; t_most = h.triangles }

pub space-space-requires : goal.space-space-requires
space-space-requires c = let h = asked c.in_ok-needed_fault.ensures in (h.passes, h.points)

pub bounds-out-0 : goal.bounds-out-0
bounds-out-0 c = omega (arith, (asked c.in_ok-needed_fault.ensures).long)

pub bounds-out-1 : goal.bounds-out-1
bounds-out-1 c = simp length-set (omega (arith, (asked c.in_ok-needed_fault.ensures).long))

pub bounds-out-2 : goal.bounds-out-2
bounds-out-2 c = simp length-set (omega (arith, (asked c.in_ok-needed_fault.ensures).long))
