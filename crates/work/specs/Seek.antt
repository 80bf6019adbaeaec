-- What the way to another place asks of the record and the buffers. Definitions only. Assumes nothing.
use Rattle.std.specs.Prelude.{◌≡◌, List, [], ℕ, ◌+◌, ◌≤◌, Float, Option}
use Rattle.model.specs.Space.{farthest}
use Rattle.work.specs.declared.Plan.{Plan}
use Rattle.work.specs.declared.Stand.{Stand}
use Rattle.work.specs.Memory.{work, begun_again, to_zero}
use Rattle.work.specs.Ready.{Ready, Standing, Roomy, MarkKeeping}
use Rattle.work.specs.declared.Kept.{Kept}

-- the filled places of the norms and the path lie within the buffers
pub record Erasable (plan : Plan) (s : Stand) (floats path : List Float) : Type 0 where
  pub norms_least : 1 ≤ s.norms
  pub norms_most : s.norms ≤ plan.limit + 1
  pub points_most : s.walk.points ≤ plan.room
  pub roomy : Roomy plan floats path

-- the floats of place 0, which no path bears on; r is r·r, m the floats before, m' after it
pub record Rewinds (plan : Plan) (words : List ℕ) (s : Stand) (m : List Float) (r : Float) (m' : List Float) : Type 0 where
  pub sum : r ≡ (begun_again plan words m).rs
  pub floats : m' ≡ (to_zero plan words (work m [] s)).floats

-- all that the way to a place asks
pub record Seeks (plan : Plan) (words : List ℕ) (s : Stand) (mark : Option Kept) (target : ℕ) (floats path : List Float) : Type 0 where
  pub ready : Ready plan words
  pub standing : Standing plan s
  pub roomy : Roomy plan floats path
  pub keeping : MarkKeeping plan mark
  pub near : target ≤ farthest plan.t plan.limit
