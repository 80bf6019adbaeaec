-- `sheet::write_sheet` meets its contract: a content that is not refused is small, and where its sheet fits it is put down at the front.
-- Assumes nothing.
use native.Mathlib.Omega.{arith}
use mathlib.Core.Path.{refl}
use Rattle.sheet.specs.Write.{lent, Small}
use Rattle.format.specs.SheetLaws.{length-bytes_of}
use Rattle.std.proofs.lemmas.Result.{err_from_is_err_and}
use Rattle.sheet.proofs.Answers.{small, write_refused, write_short, write_done}
use Rattle.sheet.proofs.write_sheet.Goals as goal

pub returns-in_err-content_refusal : goal.returns-in_err-content_refusal
returns-in_err-content_refusal c =
    let p = err_from_is_err_and c.from_residual.result c.from_residual.ensures.1 in
    rw (p.1, p.2) (write_refused (lent c.args.content.now) _ _ _ c.in_err-content_refusal.ensures refl)

pub size_of-size-requires : goal.size_of-size-requires
size_of-size-requires c = small _ c.in_ok-content_refusal.ensures

pub returns-then-out-size : goal.returns-then-out-size
returns-then-out-size c = write_short (lent c.args.content.now) _ _ c.in_ok-content_refusal.ensures (omega (arith, c.size_of-size.ensures)) refl

pub put_sheet-requires : goal.put_sheet-requires
put_sheet-requires c =
    let d = lent c.args.content.now in
    let s : Small d = small d c.in_ok-content_refusal.ensures in
    let l = length-bytes_of d in
    record { pairs = omega arith; triples = omega arith; edges = omega arith; tagged = omega arith; room = omega (arith, c.size_of-size.ensures) }

pub returns : goal.returns
returns c = write_done (lent c.args.content.now) c.args.out.now _ _ c.in_ok-content_refusal.ensures c.size_of-size.ensures (omega arith) c.put_sheet.ensures
