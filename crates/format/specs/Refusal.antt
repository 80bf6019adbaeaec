-- What refuses a sheet's content, by document 01's numbers (Length, writer, program: the table and its Order). A refusal is its number, 0 is none. Definitions only.
-- Assumes nothing.
use Rattle.std.specs.Prelude.{ℕ, Option, Some, None, is_some, zero, suc, ◌*◌, Bool, true, false, ◌&&◌, List, [], ◌∷◌, ◌++◌, leb, ltb, eqb, length, Float}
use Rattle.std.specs.Bool.{beq}
use Rattle.std.specs.Float.{nan, inf, fin}
use Rattle.std.specs.Float.Ieee.{is_nan, lt, le}
use Rattle.binary64.specs.Constants.{plus_zero}
use Rattle.binary64.specs.Number.{pick}
use Rattle.format.specs.declared.Settings.{Settings}
use Rattle.format.specs.Setting.{Setting, Limit, Tolerance, Step, StartX, StartY, Room, Unknown, NotANumber}
use Rattle.format.specs.Content.{Content, vertex_count, triangle_count, max_vertices, max_triangles, max_tag, max_limit, max_room, no_neighbour, least_coordinate, greatest_coordinate}

-- the first refusal of two, in this order
infixr 30 ◌then◌
abbrev pub ◌then◌ : ℕ → ℕ → ℕ
◌then◌ zero k = k
◌then◌ (suc j) k = suc j

-- the first refusal among a list's elements, each in turn
unfoldable pub each {ℓ} : {A : Type ℓ} → (A → ℕ) → List A → ℕ
each f [] = 0
each f (x ∷ xs) = f x then each f xs

-- ---- counts

-- a count of section 1, 2 or 5 over its limit
abbrev pub over : ℕ → ℕ → ℕ
over limit k = pick (leb k limit) 0 2

-- a count that is not the one expected
abbrev pub unlike : ℕ → ℕ → ℕ
unlike expected k = pick (eqb k expected) 0 3

-- ---- one number

-- a vertex number, of n vertices
abbrev pub vertex_fault : ℕ → ℕ → ℕ
vertex_fault n x = pick (ltb x n) 0 4

-- a neighbour: −1, or a triangle number, of T triangles
abbrev pub neighbour_fault : ℕ → ℕ → ℕ
neighbour_fault T x = pick (eqb x no_neighbour) 0 (pick (ltb x T) 0 4)

abbrev pub tag_fault : ℕ → ℕ
tag_fault x = pick (leb x max_tag) 0 4

-- a whole number outside its range
abbrev pub whole_fault : ℕ → ℕ → ℕ → ℕ
whole_fault low high v = pick (leb low v && leb v high) 0 7

-- a NaN; then a number that is not as it should be, infinite or outside its range
abbrev pub real_fault : (Float → Bool) → Float → ℕ
real_fault good x = pick (is_nan x) 6 (pick (good x) 0 7)

unfoldable pub finite : Float → Bool
finite nan = false
finite (inf s) = false
finite (fin s m e) = true

unfoldable pub coordinate : Float → Bool
coordinate x = le least_coordinate x && le x greatest_coordinate

-- finite and above 0; neither zero is
unfoldable pub positive : Float → Bool
positive x = finite x && lt plus_zero x

abbrev pub coordinate_fault : Float → ℕ
coordinate_fault x = real_fault coordinate x

-- ---- settings

unfoldable pub setting_fault : Setting → ℕ
setting_fault (Limit v) = whole_fault 0 max_limit v
setting_fault (Tolerance x) = real_fault finite x
setting_fault (Step x) = real_fault positive x
setting_fault (StartX x) = coordinate_fault x
setting_fault (StartY x) = coordinate_fault x
setting_fault (Room v) = whole_fault 1 max_room v
setting_fault Unknown = 5
setting_fault NotANumber = 6

-- the settings that are present, by rising kind
abbrev pub given : {A : Type 0} → (A → Setting) → Option A → List Setting
given make None = []
given make (Some x) = make x ∷ []

unfoldable pub present : Settings → List Setting
present s =
    given Limit s.limit
    ++ (given Tolerance s.tolerance
    ++ (given Step s.step
    ++ (given StartX s.x
    ++ (given StartY s.y
    ++ given Room s.room))))

-- a step, a room or half a start is missing
unfoldable pub missing : Settings → ℕ
missing s = pick (is_some s.step && is_some s.room && beq (is_some s.x) (is_some s.y)) 0 5

-- ---- content, in the reader's order

-- Lists that do not agree are refused where the reader would refuse the count of their section: after 2, by 3. So are vertices that are no pairs and triangles that are no triples.
unfoldable pub refusal_of : Content → ℕ
refusal_of c =
    let n = vertex_count c in
    let T = triangle_count c in
    over max_vertices n
    then unlike (2 * n) (length c.vertices)
    then each coordinate_fault c.vertices
    then over max_triangles T
    then unlike (3 * T) (length c.triangles)
    then each (vertex_fault n) c.triangles
    then unlike (3 * T) (length c.neighbours)
    then each (neighbour_fault T) c.neighbours
    then unlike n (length c.tags)
    then each tag_fault c.tags
    then each setting_fault (present c.settings)
    then missing c.settings
