-- `advancing::advance` meets its contract: the place sought is the definition's, the dry count is the gain, so the sum of the passes fits where it is made. Assumes nothing.
use native.Mathlib.Omega.{arith}
use Rattle.image.specs.Calls.{buffers}
use Rattle.image.proofs.ExitLaws.{admitted, refused_early, advance_refused, advance_rises, advance_fits, advance_done, counts_of}
use borrow.Author.Rules.{rules}
use Rattle.advancing.proofs.advance.Goals as goal

pub returns-in_err-held_fault : goal.returns-in_err-held_fault
returns-in_err-held_fault c = refused_early _ _ _ _ _ c.from_residual.ensures.1 c.in_err-held_fault.ensures

pub overflow_add-place : goal.overflow_add-place
overflow_add-place c =
    let a = c.args in
    let i = admitted a.run (buffers a.floats.now a.words.now a.path.now) c.in_ok-held_fault.ensures in
    omega (arith, i.place_in, i.ready.t_most, i.ready.limit-most)

pub farthest-requires : goal.farthest-requires
farthest-requires c =
    let a = c.args in
    let i = admitted a.run (buffers a.floats.now a.words.now a.path.now) c.in_ok-held_fault.ensures in
    (i.ready.t_most, i.ready.limit-most)

pub passes_fault-late-requires : goal.passes_fault-late-requires
passes_fault-late-requires c =
    let a = c.args in
    let i = admitted a.run (buffers a.floats.now a.words.now a.path.now) c.in_ok-held_fault.ensures in
    let e : _ = c.min-target.ensures in
    let f : _ = c.farthest.ensures in
    let h : _ = i.place_in in
    (counts_of _ _ i c.min-target.result (omega arith) (omega arith), omega arith)

pub returns-in_err-late : goal.returns-in_err-late
returns-in_err-late c =
    let a = c.args in
    advance_refused a.run (buffers a.floats.now a.words.now a.path.now) c.in_ok-held_fault.ensures a.k c.min-target.result (omega (arith, c.min-target.ensures, c.farthest.ensures))
    _ _ c.from_residual-in_err-late.ensures.1 c.in_err-late.ensures

pub seek-stand-requires : goal.seek-stand-requires
seek-stand-requires c =
    let a = c.args in
    let i = admitted a.run (buffers a.floats.now a.words.now a.path.now) c.in_ok-held_fault.ensures in
    (i, omega (arith, c.min-target.ensures, c.farthest.ensures))

pub overflow_sub-gain : goal.overflow_sub-gain
overflow_sub-gain c =
    let a = c.args in
    advance_rises a.run (buffers a.floats.now a.words.now a.path.now) c.in_ok-held_fault.ensures a.k c.min-target.result (omega (arith, c.min-target.ensures, c.farthest.ensures))
    _ _ _ c.seek-stand.ensures

pub overflow_add-run : goal.overflow_add-run
overflow_add-run c =
    let a = c.args in
    let h : _ = advance_fits a.run (buffers a.floats.now a.words.now a.path.now) c.in_ok-held_fault.ensures a.k c.min-target.result (omega (arith, c.min-target.ensures, c.farthest.ensures))
    _ _ _ c.seek-stand.ensures c.in_ok-late.ensures in
    omega arith

pub returns : goal.returns
returns c =
    let a = c.args in
    advance_done a.run (buffers a.floats.now a.words.now a.path.now) c.in_ok-held_fault.ensures a.k c.min-target.result (omega (arith, c.min-target.ensures, c.farthest.ensures))
    _ _ _ c.seek-stand.ensures _ c.moved-ahead.ensures c.in_ok-late.ensures
