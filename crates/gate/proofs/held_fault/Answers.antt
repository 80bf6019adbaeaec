-- `gate::held_fault` meets its contract: each exit answers what the definition does where the tests before it passed. Assumes nothing.
use Rattle.std.proofs.lemmas.Result.{err_from_is_err_and}
use Rattle.gate.proofs.Laws.{held_counts, held-space, held_sound}
use Rattle.gate.proofs.held_fault.Goals as goal

pub returns-in_err-p : goal.returns-in_err-p
returns-in_err-p c =
    let p = err_from_is_err_and c.from_residual.result c.from_residual.ensures.1 in
    rw (p.1, p.2) (held_counts _ _ _ c.in_err-p.ensures.0)

pub returns-in_err-space_fault : goal.returns-in_err-space_fault
returns-in_err-space_fault c =
    let p = err_from_is_err_and c.from_residual-in_err-space_fault.result c.from_residual-in_err-space_fault.ensures.1 in
    rw (p.1, p.2) (held-space _ _ _ c.in_ok-p.ensures.1 c.in_ok-p.ensures.0 _ c.in_err-space_fault.ensures)

pub returns-then-sound : goal.returns-then-sound
returns-then-sound c =
    held_sound _ _ _ c.in_ok-p.ensures.1 c.in_ok-p.ensures.0 _ _ _ _ c.in_ok-space_fault.ensures c.stand_sound.ensures c.mark_sound.ensures c.words_sound.ensures c.if-sound.true

pub returns-else-sound : goal.returns-else-sound
returns-else-sound c =
    held_sound _ _ _ c.in_ok-p.ensures.1 c.in_ok-p.ensures.0 _ _ _ _ c.in_ok-space_fault.ensures c.stand_sound.ensures c.mark_sound.ensures c.words_sound.ensures c.if-sound.false
