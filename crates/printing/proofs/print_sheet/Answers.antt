-- `print_sheet` meets its contract: too many bytes, a sheet or a space that is refused, or the run at its last place. Assumes nothing.
use mathlib.Core.Path.{refl}
use Rattle.format.specs.Bytes.{Bytes}
use Rattle.image.specs.Calls.{buffers}
use Rattle.image.proofs.RefusalLaws.{refuses_some}
use Rattle.printing.proofs.LawsText.{long_prints}
use Rattle.printing.proofs.LawsLast.{as_places, refused_prints, run_prints}
use borrow.Author.Rules.{rules}
use Rattle.printing.proofs.print_sheet.Goals as goal

pub returns-then-sheet-gt-SHEET : goal.returns-then-sheet-gt-SHEET
returns-then-sheet-gt-SHEET c = long_prints _ _ c.if-sheet-gt-SHEET.true c.put_refusal.ensures

pub returns-in-Err : goal.returns-in-Err
returns-in-Err c =
    refused_prints _ (as_places (buffers c.args.floats.now c.args.words.now c.args.path.now) (search rules) (search rules) (search rules)) _ c.if-sheet-gt-SHEET.false _ _ c.in-Err.ensures (refuses_some _)
    c.put_refusal-in-Err.ensures

pub returns-in-Ok : goal.returns-in-Ok
returns-in-Ok c =
    let bytes : Bytes c.args.sheet.now = record { below = λ i. (c.shared_slice_known-1.given i).fits } in
    run_prints _ (as_places (buffers c.args.floats.now c.args.words.now c.args.path.now) (search rules) (search rules) (search rules)) _ c.if-sheet-gt-SHEET.false _ _ c.in-Ok.ensures bytes refl c.put_last.ensures
