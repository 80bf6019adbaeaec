-- What is known of a record and buffers that no call is refused on for what they hold: the plan's counts, the space, and every index and count in its range. Assumes nothing.
use Rattle.std.specs.Prelude.{ℕ, ◌+◌, ◌*◌, ◌≤◌, ◌<◌, ◌≡◌, ◌⊎◌, Option, Some, None}
use Rattle.model.specs.Space.{factor, farthest}
use Rattle.work.specs.declared.Plan.{Plan}
use Rattle.work.specs.declared.Stand.{Stand}
use Rattle.work.specs.declared.Run.{Run}
use Rattle.work.specs.Ready.{Ready, Standing, MarkKeeping, Roomy}
use Rattle.image.specs.Calls.{Buffers}
use Rattle.work.specs.declared.Kept.{Kept}

-- ---- the counts of a place and of a mark

abbrev pub PlaceIn : Plan → ℕ → Type 0
PlaceIn p k = k ≤ farthest p.t p.limit

abbrev pub MarkIn : Plan → Option Kept → Type 0
MarkIn p None = Unit
MarkIn p (Some k) = PlaceIn p k.place × (1 ≤ k.norms) × (k.norms ≤ p.limit + 1)

-- both ends and the crossings of a place
pub record EndsIn (p : Plan) (s : Stand) : Type 0 where
  pub field_end : s.end ≤ 3
  pub path_end_lem : s.walk.end ≤ 9
  pub crossings_most : s.crossings ≤ factor * p.t

-- also of a record without points
abbrev pub TriangleIn : Plan → ℕ → Type 0
TriangleIn p k = (k ≡ 0) ⊎ (k < p.t)

-- ---- all of it

pub record Accepted (r : Run) (b : Buffers) : Type 0 where
  pub ready : Ready r.plan b.words
  pub standing : Standing r.plan r.stand
  pub place_in : PlaceIn r.plan r.stand.place
  pub triangle_in : TriangleIn r.plan r.stand.walk.triangle
  pub ends_in : EndsIn r.plan r.stand
  pub roomy : Roomy r.plan b.floats b.path
  pub keeping : MarkKeeping r.plan r.mark
  pub mark_in : MarkIn r.plan r.mark
