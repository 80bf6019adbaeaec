-- `put_last` meets its contract: the advance is refused, or what it leads to is shown. Assumes nothing.
use mathlib.Core.Path.{refl}
use Rattle.image.proofs.RefusalLaws.{refuses_some}
use Rattle.printing.proofs.LawsText.{printed_as, last_refused, last_shown}
use Rattle.printing.proofs.put_last.Goals as goal

pub returns-in-Err : goal.returns-in-Err
returns-in-Err c =
    let done = c.in-Err.ensures in
    record { text = printed_as _ c.put_refusal.ensures (last_refused _ _ _ done.said (refuses_some _)); held = done.held }

pub returns-in-Ok : goal.returns-in-Ok
returns-in-Ok c =
    let done = c.in-Ok.ensures in
    record { text = printed_as _ c.put_shown.ensures (last_shown _ _ _ _ _ done.said refl done.left done.held); held = done.held }
