-- What the columns and values ahead add to the entries so far is what all add to those at entry. Assumes nothing.
use Rattle.std.proofs.Common.{rules}
use mathlib.Core.Logic.{inl, inr}
use Rattle.laplace.proofs.LawsRow.{place_none, place_building, place_below, place_again, place_done}
use Rattle.rows.proofs.row.Row.place_three.Goals as goal

pub loop-j-init : goal.loop-j-init
loop-j-init c = record { same = search rules; placing = place_none _ _ _ _ c.requires.0 _ _ c.requires.1 _ _ (search rules) (search rules) }

pub place-requires : goal.place-requires
place-requires c =
    let p = c.loop-j.invariant.placing in
    let s = c.in-Some.ensures.steps in
    (place_building _ _ _ _ c.requires.0 _ _ _ _ _ _ _ p, place_below _ _ _ _ c.requires.0 _ _ _ _ _ _ _ p _ _ _ _ s.0 s.1)

pub loop-j-preserved : goal.loop-j-preserved
loop-j-preserved c =
    let s = c.in-Some.ensures.steps in
    record { same = search rules; placing = place_again _ _ _ _ c.requires.0 _ _ _ _ _ _ _ c.loop-j.invariant.placing _ _ _ _ s.0 s.1 _ _ _ c.place.ensures.written }

pub returns : goal.returns
returns c =
    record { same = c.loop-j.invariant.same; written = place_done _ _ _ _ c.requires.0 _ _ _ _ _ _ _ c.loop-j.invariant.placing (elim c.in-None.ensures.steps [ inl u ↦ inl u.1.0 | inr u ↦ inr u.1.0 ]) }
