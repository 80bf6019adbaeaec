-- The start that is found on a field which stands in two buffers is the one that is found there. Assumes nothing.
use Rattle.std.specs.Prelude.{◌≡◌, List, ℕ, Float, Option, Some, None}
use Rattle.plane.specs.declared.Point.{Point}
use Rattle.mesh.specs.Work.{MeshAt, Linked}
use Rattle.mesh.specs.declared.field.Field.{Field}
use Rattle.mesh.specs.Stands.{FieldStands}
use Rattle.pde.specs.StandsLaws.{containing_stands, pick_start_stands}
use Rattle.work.specs.Kinds.{found_in}
use Rattle.kinds.specs.Found.{found_on}

pub found_stands : {floats : List Float} {words : List ℕ} {at : MeshAt} {f : Field} (u : ℕ) → Linked words at → FieldStands floats words at u f → (given : Option Point) → found_on f given ≡ found_in floats words at u given
found_stands u l s (Some p) = containing_stands u l s p
found_stands u l s None = pick_start_stands u l s
