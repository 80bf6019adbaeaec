-- Every range of document 01's section Sheet, as one record on a content. Definitions only. Assumes nothing.
use Rattle.std.specs.Prelude.{ℕ, Option, Some, None, is_some, ◌*◌, ◌≤◌, ◌<◌, ◌≡◌, true, ◌⊎◌, T, length, get_or, Float}
use Rattle.std.specs.Float.{nan, binary64}
use Rattle.std.specs.Float.Ieee.{fits, lt, le}
use Rattle.binary64.specs.Constants.{plus_zero}
use Rattle.format.specs.Content.{Content, vertex_count, triangle_count, max_vertices, max_triangles, max_tag, max_limit, max_room, no_neighbour, least_coordinate, greatest_coordinate}
use Rattle.format.specs.Refusal.{finite}

-- a comparison with a NaN is false, so a coordinate is none
pub record Coordinate (x : Float) : Type 0 where
  pub least : le least_coordinate x ≡ true
  pub greatest : le x greatest_coordinate ≡ true

-- a tolerance
pub record Finite (x : Float) : Type 0 where
  pub is : finite x ≡ true

pub record Step (x : Float) : Type 0 where
  pub is : finite x ≡ true
  pub above : lt plus_zero x ≡ true

pub record Between (low high v : ℕ) : Type 0 where
  pub least : low ≤ v
  pub greatest : v ≤ high

-- what a setting says is so where it is given
abbrev pub IfGiven : {A : Type 0} → (A → Type 0) → Option A → Type 0
IfGiven P None = Unit {0}
IfGiven P (Some x) = P x

pub record InRange (c : Content) : Type 0 where
  -- 1: n vertices, 0 to 4,096
  pub pairs : length c.vertices ≡ 2 * vertex_count c
  pub vertices : vertex_count c ≤ max_vertices
  pub coordinates : (i : ℕ) → i < length c.vertices → Coordinate (get_or c.vertices i nan)
  -- 2: T triangles, 0 to 8,192
  pub triples : length c.triangles ≡ 3 * triangle_count c
  pub triangles : triangle_count c ≤ max_triangles
  pub corners : (i : ℕ) → i < length c.triangles → get_or c.triangles i 0 < vertex_count c
  -- 3: 3T neighbours
  pub edges : length c.neighbours ≡ 3 * triangle_count c
  pub neighbours : (i : ℕ) → i < length c.neighbours → (get_or c.neighbours i 0 ≡ no_neighbour) ⊎ (get_or c.neighbours i 0 < triangle_count c)
  -- 4: n tags
  pub tagged : length c.tags ≡ vertex_count c
  pub tags : (i : ℕ) → i < length c.tags → get_or c.tags i 0 ≤ max_tag
  -- 5: settings
  pub limit : IfGiven (Between 0 max_limit) c.settings.limit
  pub tolerance : IfGiven Finite c.settings.tolerance
  pub step : IfGiven Step c.settings.step
  pub x : IfGiven Coordinate c.settings.x
  pub y : IfGiven Coordinate c.settings.y
  pub room : IfGiven (Between 1 max_room) c.settings.room
  pub step_given : is_some c.settings.step ≡ true
  pub room_given : is_some c.settings.room ≡ true
  pub start_together : is_some c.settings.x ≡ is_some c.settings.y

-- Every float is a binary64 number in its one form, as every f64 of a program is.
abbrev pub Double : Float → Type 0
Double x = T (fits binary64 x)

pub record Doubles (c : Content) : Type 0 where
  pub vertices : (i : ℕ) → i < length c.vertices → Double (get_or c.vertices i nan)
  pub tolerance : IfGiven Double c.settings.tolerance
  pub step : IfGiven Double c.settings.step
  pub x : IfGiven Double c.settings.x
  pub y : IfGiven Double c.settings.y
