-- `go_in` meets its contract: the copies are of the floats' front, and each phase goes on from the front that the one before it leaves. Assumes nothing.
use mathlib.Core.Path.{◌∙◌}
use native.Mathlib.Omega.{arith}
use Rattle.dry.proofs.LawsSolving.{solved_none}
use Rattle.dry.proofs.LawsPhases.{lent_at, followed_all}
use borrow.Author.Rules.{rules}
use Rattle.dry.proofs.go_in.Goals as goal

pub solve-s-requires : goal.solve-s-requires
solve-s-requires c =
    let q = c.requires in
    (q.0, solved_none c.args.laid.now.counted.plan _ _ _ q.0.ready q.0.standing q.1 (omega (arith, q.0.floats_fit)) _ (c.copy_from_slice.ensures.after ∙ lent_at _ _ _ _ c.at_x-x.ensures), omega (arith, c.copy_from_slice.ensures.len, q.2))

pub returns : goal.returns
returns c =
    let so = c.solve-s in
    followed_all c.args.laid.now.counted.plan _ c.args.floats.now c.args.stand c.args.k so.result so.new.copies c.requires.0 so.ensures.0 so.ensures.1 c.settle.new.scratch (search rules) c.settle.ensures _ c.follow.ensures
