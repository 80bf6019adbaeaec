-- What a sheet says (document 01, section Sheet): the flat lists of its numbers and its settings, its limits, and what an absent setting means. Definitions only.
-- Assumes nothing.
use Rattle.std.specs.Prelude.{ℕ, Option, Some, None, ◌+◌, ◌-◌, ◌*◌, ◌/◌, ◌^◌, List, length, get_or, Float}
use Rattle.std.specs.Float.{binary64}
use Rattle.std.specs.Float.Ieee.{of_bits, neg}
use Rattle.binary64.specs.Constants.{plus_zero}
use Rattle.plane.specs.Plane.{point}
use Rattle.plane.specs.declared.Point.{Point}
use Rattle.format.specs.declared.Settings.{Settings}

-- vertices: x and y of each, in turn. triangles: the three vertex numbers of each. neighbours: one for each edge, the numbers of triangles as u32; −1 is the u32 with its bits.
pub record Content : Type 0 where
  pub vertices : List Float
  pub triangles : List ℕ
  pub neighbours : List ℕ
  pub tags : List ℕ
  pub settings : Settings

-- how many vertices and triangles there are
abbrev pub vertex_count : Content → ℕ
vertex_count c = length c.vertices / 2

abbrev pub triangle_count : Content → ℕ
triangle_count c = length c.triangles / 3

-- ---- items: vertex i, corner e of triangle t, the neighbour over its edge e, the tag of vertex i

abbrev pub vertex_of : Content → ℕ → Point
vertex_of c i = point (get_or c.vertices (2 * i) plus_zero) (get_or c.vertices (2 * i + 1) plus_zero)

abbrev pub corner_of : Content → ℕ → ℕ → ℕ
corner_of c t e = get_or c.triangles (3 * t + e) 0

abbrev pub neighbour_of : Content → ℕ → ℕ → ℕ
neighbour_of c t e = get_or c.neighbours (3 * t + e) 0

abbrev pub tag_of : Content → ℕ → ℕ
tag_of c i = get_or c.tags i 0

-- ---- limits

abbrev pub max_vertices : ℕ
max_vertices = 4096

abbrev pub max_triangles : ℕ
max_triangles = 8192

abbrev pub max_settings : ℕ
max_settings = 6

-- the greatest tag
abbrev pub max_tag : ℕ
max_tag = 2

abbrev pub max_limit : ℕ
max_limit = 100000

abbrev pub max_room : ℕ
max_room = 1000000

-- −1 as a u32
abbrev pub no_neighbour : ℕ
no_neighbour = 2 ^ 32 - 1

-- a coordinate is from −1,048,576 to 1,048,576
abbrev pub greatest_coordinate : Float
greatest_coordinate = of_bits binary64 0x4130_0000_0000_0000

abbrev pub least_coordinate : Float
least_coordinate = neg greatest_coordinate

-- ---- what an absent setting means

abbrev pub default_limit : ℕ
default_limit = 1000

-- 1e-8
abbrev pub default_tolerance : Float
default_tolerance = of_bits binary64 0x3e45_798e_e230_8c3a

abbrev pub whole_or : ℕ → Option ℕ → ℕ
whole_or d None = d
whole_or d (Some v) = v

abbrev pub real_or : Float → Option Float → Float
real_or d None = d
real_or d (Some x) = x
