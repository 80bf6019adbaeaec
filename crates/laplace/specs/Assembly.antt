-- The matrix and the right side of mesh/laplace.rs: the stiffness of the linear triangle (the P1 element), pushed triangle by triangle, and document 01's rule for repeats.
-- Every operation rounds once, in the order written here. Definitions only. Assumes nothing.
use Rattle.std.specs.Prelude.{ℕ, zero, suc, ◌&&◌, List, [], ◌∷◌, ◌++◌, eqb, leb, ltb, get_or, set, replicate, Float}
use Rattle.std.specs.Float.{nan}
use Rattle.std.specs.Float.Ieee.{lt}
use Rattle.binary64.specs.Arith.{◌⊕◌, ◌⊖◌, ◌⊗◌, ◌⊘◌}
use Rattle.binary64.specs.Constants.{plus_zero, one, half}
use Rattle.binary64.specs.Number.{pick, abs_of}
use Rattle.sparse.specs.Sparse.{Entry, entry}
use Rattle.mesh.specs.declared.Slope.{Slope}
pub use Rattle.mesh.specs.Element.{slope, area2}
use Rattle.laplace.specs.Mesh.{vertex, tag_of, free, held}

-- ---- the linear triangle

-- the stiffness of two corners; inv is 1 / |area2|
abbrev pub stiffness : Float → Slope → Slope → Float
stiffness inv s t = (s.b ⊗ t.b ⊕ s.c ⊗ t.c) ⊗ inv ⊗ half

-- ---- what is pushed

pub record Push : Type 0 where
  pub row : ℕ
  pub col : ℕ
  pub value : Float

abbrev pub push : ℕ → ℕ → Float → Push
push i j v = record { row = i; col = j; value = v }

-- a triangle's nine, row by row; a pair of corners has one value for both its places
abbrev pub nine : ℕ → ℕ → ℕ → Float → Float → Float → Float → Float → Float → List Push
nine i j k ii ij ik jj jk kk = push i i ii ∷ push i j ij ∷ push i k ik ∷ push j i ij ∷ push j j jj ∷ push j k jk ∷ push k i ik ∷ push k j jk ∷ push k k kk ∷ []

abbrev pub stiff : ℕ → ℕ → ℕ → Slope → Slope → Slope → Float → List Push
stiff i j k si sj sk inv =
    nine i j k (stiffness inv si si) (stiffness inv si sj) (stiffness inv si sk) (stiffness inv sj sj) (stiffness inv sj sk) (stiffness inv sk sk)

-- those of one triangle: none where twice its area is below `flat` in magnitude
unfoldable pub triangle_pushes : Float → List Float → ℕ → ℕ → ℕ → List Push
triangle_pushes flat vs i j k =
    let si = slope (vertex vs j) (vertex vs k) in
    let sj = slope (vertex vs k) (vertex vs i) in
    let sk = slope (vertex vs i) (vertex vs j) in
    let area = abs_of (area2 si sj) in
    pick (lt area flat) [] (stiff i j k si sj sk (one ⊘ area))

-- those of all triangles, in order; what is left of a list that does not come in threes pushes nothing
unfoldable pub pushes : Float → List Float → List ℕ → List Push
pushes flat vs [] = []
pushes flat vs (i ∷ []) = []
pushes flat vs (i ∷ j ∷ []) = []
pushes flat vs (i ∷ j ∷ k ∷ ts) = triangle_pushes flat vs i j k ++ pushes flat vs ts

-- ---- the matrix

-- Columns rise; a repeat is added on the right of the sum it finds; the first of a place is taken as it is.
unfoldable pub insert : ℕ → Float → List Entry → List Entry
insert j v [] = entry j v ∷ []
insert j v (e ∷ es) = pick (ltb e.col j) (e ∷ insert j v es) (pick (eqb e.col j) (entry j (e.value ⊕ v) ∷ es) (entry j v ∷ e ∷ es))

-- the pushes of row i to free columns, inserted in push order
unfoldable pub inserted : List ℕ → ℕ → List Push → List Entry → List Entry
inserted tags i [] es = es
inserted tags i (p ∷ ps) es = inserted tags i ps (pick (eqb p.row i && free tags p.col) (insert p.col p.value es) es)

-- A held row is the lone entry (i, 1).
unfoldable pub row : List ℕ → List Push → ℕ → List Entry
row tags ps i = pick (free tags i) (inserted tags i ps []) (entry i one ∷ [])

-- the first n rows
unfoldable pub rows : List ℕ → List Push → ℕ → List (List Entry)
unfolding row
rows tags ps zero = []
rows tags ps (suc i) = rows tags ps i ++ (row tags ps i ∷ [])

-- ---- the right side

-- vertex i coupled by v to the held vertex h
abbrev pub lowered : (ℕ → Float) → List ℕ → ℕ → ℕ → Float → List Float → List Float
lowered value tags i h v rhs = set rhs i (get_or rhs i nan ⊖ v ⊗ value (tag_of tags h))

-- A push of a free vertex with a held one counts once of its two places: where the row is not above the column.
abbrev pub coupled : (ℕ → Float) → List ℕ → Push → List Float → List Float
coupled value tags p rhs =
    pick (leb p.row p.col)
    (pick (held tags p.row && free tags p.col) (lowered value tags p.col p.row p.value rhs)
    (pick (free tags p.row && held tags p.col) (lowered value tags p.row p.col p.value rhs) rhs))
    rhs

unfoldable pub all_coupled : (ℕ → Float) → List ℕ → List Push → List Float → List Float
all_coupled value tags [] rhs = rhs
all_coupled value tags (p ∷ ps) rhs = all_coupled value tags ps (coupled value tags p rhs)

-- held vertices have their value
unfoldable pub settled : (ℕ → Float) → List ℕ → List Float → List Float
settled value [] rhs = rhs
settled value (t ∷ ts) [] = []
settled value (t ∷ ts) (y ∷ ys) = pick (eqb t 0) y (value t) ∷ settled value ts ys

unfoldable pub right_side : (ℕ → Float) → List ℕ → List Push → ℕ → List Float
unfolding all_coupled settled
right_side value tags ps n = settled value tags (all_coupled value tags ps (replicate n plus_zero))
