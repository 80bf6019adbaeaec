-- Where each part of the floats that a run shows starts, and how many places it has: none at 0 for counts that no sheet has. Definitions only. Assumes nothing.
use Rattle.std.specs.Prelude.{ℕ, ◌*◌, ◌&&◌, leb, List, Float}
use Rattle.binary64.specs.Number.{pick}
use Rattle.format.specs.Content.{max_vertices, max_triangles}
use Rattle.work.specs.declared.Plan.{Plan}
use Rattle.work.specs.declared.Run.{Run}
use Rattle.work.specs.Layout.{at_x, at_gradients, at_norms}
use Rattle.image.specs.Parts.{field_of, norms_of, gradients_of}
use Rattle.showing.specs.declared.parts.Part.{Part}
use Rattle.showing.specs.declared.parts.Shown.{Shown}
use Rattle.showing.specs.declared.parts.Shown.TheVariants.{Field, Norms, Gradients}

-- for counts that a sheet may have
abbrev pub place_of : Shown → Run → Part
place_of Field r = record { at = at_x r.plan.n r.plan.t; count = r.plan.n }
place_of Norms r = record { at = at_norms r.plan.n r.plan.t; count = r.stand.norms }
place_of Gradients r = record { at = at_gradients r.plan.n r.plan.t; count = 2 * r.plan.t }

abbrev pub counted_or_0 : Plan → ℕ → ℕ
counted_or_0 p k = pick (leb p.n max_vertices && leb p.t max_triangles) k 0

unfoldable pub part_of : Shown → Run → Part
part_of s r = record { at = counted_or_0 r.plan (place_of s r).at; count = counted_or_0 r.plan (place_of s r).count }

-- what stands there
abbrev pub shown_of : Shown → Run → List Float → List Float
shown_of Field = field_of
shown_of Norms = norms_of
shown_of Gradients = gradients_of
