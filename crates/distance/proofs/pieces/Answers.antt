-- `distance::pieces` meets its contract: where the square tells that the root makes one, two or three pieces it is so, and elsewhere its callees do it. Assumes nothing.
-- The check finds `returns` alone. It stands so that a refusal names the fact.
use mathlib.Core.Path.{sym, ap, ◌∙◌}
use Rattle.std.proofs.lemmas.Float.{T_from_true}
use lib.Ieee.{Float}
use Rattle.binary64.specs.Arith.{◌⊘◌}
use Rattle.binary64.specs.Number.{ceil_count}
use native.Mathlib.Omega.{arith}
use Rattle.binary64.proofs.Pieces.{Spacing, spacing, short-one, second, third, between_squares}
use Rattle.distance.proofs.pieces.Goals as goal
use Rattle.distance.proofs.pieces.Goals.{Then-spacing}

spaced : (c : Then-spacing) → Spacing c.args.spacing
spaced c = spacing _ _ _ c.if-spacing.true (omega arith) (omega arith) (omega arith)

pub returns-then-x-spacing : goal.returns-then-x-spacing
returns-then-x-spacing c = let s = c.before.before in short-one _ _ _ (T_from_true _ s.well_formed.0.1) (T_from_true _ s.well_formed.1.0.1) (spaced c.before) c.if-x-spacing.true (omega arith) (omega arith)

pub returns-then-lies : goal.returns-then-lies
returns-then-lies c =
    let t = c.before.before.before in
    between_squares 1 _ _ _ _ (T_from_true _ c.before.before.before.before.well_formed.0.1) (spaced t) (second _ _ (omega arith) (omega arith) (omega arith)) (sym c.lies.ensures ∙ c.if-lies.true)

pub returns-then-lies-2 : goal.returns-then-lies-2
returns-then-lies-2 c =
    let t = c.before.before.before.before.before in
    between_squares 2 _ _ _ _ (T_from_true _ c.before.before.before.before.before.before.well_formed.0.1) (spaced t) (third _ _ (omega arith) (omega arith) (omega arith)) (sym c.lies-then-spacing.ensures ∙ c.if-lies-2.true)

pub returns : goal.returns
returns c = c.ceil_count.ensures ∙ ap (λ (d : Float). ceil_count (d ⊘ c.args.spacing)) c.sqrt.ensures
