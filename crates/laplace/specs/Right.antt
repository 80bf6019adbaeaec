-- The pushes of a triangle by its stiffness, as the right side takes them. Definitions only. Assumes nothing.
use Rattle.std.specs.Prelude.{ℕ, List, [], ◌∷◌, get_or, Bool, ◌&&◌, eqb, Float, Option, Some, None}
use Rattle.binary64.specs.Number.{pick}
use Rattle.laplace.specs.declared.element.Stiff.{Stiff}
use Rattle.laplace.specs.Mesh.{free, held_value}
use Rattle.laplace.specs.Assembly.{Push, push, nine, coupled}

-- one push, with the values at which tags hold a vertex
unfoldable pub coupled_by : List ℕ → Push → List Float → List Float
coupled_by tags p rhs = coupled held_value tags p rhs

-- those of one corner, which is vertex v
unfoldable pub side_pushes : ℕ → List ℕ → List Float → List Push
side_pushes v [] s = []
side_pushes v (j ∷ q) [] = []
side_pushes v (j ∷ q) (x ∷ s) = push v j x ∷ side_pushes v q s

unfoldable pub stiff_pushes : List ℕ → Option Stiff → List Push
stiff_pushes q None = []
stiff_pushes q (Some s) = nine (get_or q 0 0) (get_or q 1 0) (get_or q 2 0) s.ii s.ij s.ik s.jj s.jk s.kk

-- its corners are free, so that it couples nothing
unfoldable pub all_free : List ℕ → List ℕ → Bool
all_free tags q = free tags (get_or q 0 0) && free tags (get_or q 1 0) && free tags (get_or q 2 0)

-- the value at which a tag holds a vertex, none where the vertex is free
unfoldable pub held_at : ℕ → Option Float
held_at t = pick (eqb t 0) None (Some (held_value t))

-- the number y of a vertex with a tag, once held vertices have their value
unfoldable pub settled_value : ℕ → Float → Float
settled_value t y = pick (eqb t 0) y (held_value t)
