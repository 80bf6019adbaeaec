-- `length` meets its contract: each way out is one law of the length. Assumes nothing.
use mathlib.Core.Path.{refl}
use borrow.Author.Tests.{lt-leb}
use native.Mathlib.Omega.{arith}
use lib.ListN.{length}
use Rattle.std.proofs.lemmas.Bool.Decides.{nat_tests}
use Rattle.std.proofs.lemmas.Result.{err_from_is_err_and}
use Rattle.image.proofs.RefusalLaws.{refuses_some}
use Rattle.controls.proofs.Laws.{length-held, length-short, length_made}
use Rattle.controls.proofs.length.Goals as goal

pub returns-in_err-held_fault : goal.returns-in_err-held_fault
returns-in_err-held_fault c =
    let p = err_from_is_err_and c.from_residual.result c.from_residual.ensures.1 in
    rw (p.1, p.2) (length-held _ _ _ _ c.in_err-held_fault.ensures (refuses_some _))

pub returns-then-is_empty : goal.returns-then-is_empty
returns-then-is_empty c = length-short _ _ _ c.in_ok-held_fault.ensures refl (lt-leb 1 (length c.args.out.now) (grind (arith, nat_tests)))

pub returns : goal.returns
returns c = length_made _ _ _ c.in_ok-held_fault.ensures refl (grind (arith, nat_tests)) _ (rw (← c.run.ensures, ← c.points.ensures) c.length.ensures)
