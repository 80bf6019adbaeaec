-- A mesh by its flat lists, as the sheet and the run's work hold them: vertices x, y; triangles three corners each; neighbours one for each edge; a tag for each vertex.
-- Edge e joins corner e and corner (e + 1) mod 3 (document 01, Sheet). Definitions only. Assumes nothing.
use Rattle.std.specs.Prelude.{ℕ, ◌+◌, ◌*◌, ◌/◌, ◌%◌, Bool, not, List, [], ◌∷◌, eqb, get_or, length, Option, Some, None, Float}
use Rattle.std.specs.Float.{nan}
use Rattle.binary64.specs.Constants.{plus_zero, one}
use Rattle.binary64.specs.Number.{pick}
use Rattle.plane.specs.declared.Point.{Point}
use Rattle.plane.specs.Plane.{point}

unfoldable pub vertex : List Float → ℕ → Point
vertex vs i = point (get_or vs (2 * i) nan) (get_or vs (2 * i + 1) nan)

-- the vertex number at corner e of triangle t, and the word of its edge e's neighbour
unfoldable pub corner : List ℕ → ℕ → ℕ → ℕ
corner ts t e = get_or ts (3 * t + e) 0

-- its three corners: the vertex numbers, the vertices, and the values of a field at them
abbrev pub triangle : List ℕ → ℕ → List ℕ
triangle ts t = corner ts t 0 ∷ corner ts t 1 ∷ corner ts t 2 ∷ []

abbrev pub corners : List Float → List ℕ → ℕ → List Point
corners vs ts t = vertex vs (corner ts t 0) ∷ vertex vs (corner ts t 1) ∷ vertex vs (corner ts t 2) ∷ []

abbrev pub values : List Float → List ℕ → ℕ → List Float
values us ts t = get_or us (corner ts t 0) nan ∷ get_or us (corner ts t 1) nan ∷ get_or us (corner ts t 2) nan ∷ []

unfoldable pub neighbour : List ℕ → ℕ → ℕ → ℕ
neighbour ns t e = get_or ns (3 * t + e) 0

-- −1, as the word of an i32's bits
abbrev pub no_neighbour : ℕ
no_neighbour = 4294967295

-- the triangle that a neighbour's word names
abbrev pub triangle_of : ℕ → Option ℕ
triangle_of w = pick (eqb w no_neighbour) None (Some w)

abbrev pub triangle_count : List ℕ → ℕ
triangle_count ts = length ts / 3

-- the corner at an edge's far end
abbrev pub onward : ℕ → ℕ
onward e = (e + 1) % 3

unfoldable pub tag_of : List ℕ → ℕ → ℕ
tag_of tags i = get_or tags i 0

-- A vertex is free where its tag is 0, and held otherwise.
unfoldable pub free : List ℕ → ℕ → Bool
unfolding tag_of
free tags i = eqb (tag_of tags i) 0

abbrev pub held : List ℕ → ℕ → Bool
held tags i = not (free tags i)

-- The value at which a tag holds a vertex: outer (1) at 1, inner (2) at 0.
unfoldable pub held_value : ℕ → Float
held_value t = pick (eqb t 1) one plus_zero
