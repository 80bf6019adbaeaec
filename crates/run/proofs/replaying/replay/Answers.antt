-- `replay` meets its contract, by the theorem over lists of calls. Assumes nothing.
use mathlib.Core.Path.{refl}
use Rattle.std.proofs.lemmas.Result.{err_from_is_err_and}
use Rattle.format.specs.Bytes.{Bytes}
use Rattle.image.proofs.RefusalLaws.{refuses_some}
use Rattle.image.proofs.ReplayTheorem.{replayed-refused}
use Rattle.image.proofs.Theorem.{replay_open}
use borrow.Author.Rules.{rules}
use Rattle.run.proofs.replaying.replay.Goals as goal

pub returns-in_err-run : goal.returns-in_err-run
returns-in_err-run c =
    let p = err_from_is_err_and c.from_residual.result c.from_residual.ensures.1 in
    rw (p.1, p.2) (replayed-refused _ _ _ _ _ _ c.in_err-run.ensures (refuses_some _))

pub returns : goal.returns
returns c =
    let bytes : Bytes c.args.sheet.now = record { below = λ i. (c.shared_slice_known-1.given i).fits } in
    replay_open _ _ _ _ bytes _ _ _ _ _ c.in_ok-run.ensures refl c.make-last.ensures
