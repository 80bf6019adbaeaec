-- By cases on whether the triangle of the corner is skipped. Assumes nothing.
use Rattle.std.proofs.Common.{rules}
use Rattle.laplace.proofs.LawsCorners.{below_half}
use Rattle.laplace.proofs.LawsRow.{written_skipped, written-corner}
use Rattle.rows.proofs.row.Row.add_corner.Goals as goal

pub stiff-requires : goal.stiff-requires
stiff-requires c = let mesh = c.requires.0.mesh in below_half _ _ _ mesh.vertices (c.triangle-q.ensures.below _ mesh.corners)

pub place_three-requires : goal.place_three-requires
place_three-requires c = (c.requires.0, c.triangle-q.ensures.below _ c.requires.0.mesh.corners)

pub returns-in-Some : goal.returns-in-Some
returns-in-Some c =
    record { same = c.place_three.ensures.same; written = written-corner _ _ _ _ c.requires.0 _ _ _ c.triangle-q.ensures.is c.stiff.ensures _ c.in-Some.is _ _ _ _ c.side-side.ensures c.place_three.ensures.written }

pub returns-in_default : goal.returns-in_default
returns-in_default c = record { same = search rules; written = written_skipped _ _ _ _ c.requires.0 _ _ _ c.triangle-q.ensures.is c.stiff.ensures c.in_default.is }
