-- The stiffness of a linear triangle by its corners, as the code holds it. Definitions only. Assumes nothing.
use Rattle.std.specs.Prelude.{ℕ, ◌+◌, ◌*◌, List, [], ◌∷◌, get_or, Float, Option, Some, None}
use Rattle.std.specs.Float.Ieee.{lt}
use Rattle.binary64.specs.Arith.{◌⊘◌}
use Rattle.binary64.specs.Constants.{one}
use Rattle.binary64.specs.Number.{abs_of, pick}
use Rattle.plane.specs.declared.Point.{Point}
use Rattle.laplace.specs.declared.element.Stiff.{Stiff}
use Rattle.laplace.specs.Mesh.{vertex}
use Rattle.laplace.specs.Assembly.{slope, area2, stiffness}

-- none where it is skipped, since twice its area is below `flat` in magnitude
unfoldable pub stiff_of : Float → Point → Point → Point → Option Stiff
stiff_of flat a b c =
    let si = slope b c in
    let sj = slope c a in
    let sk = slope a b in
    let area = abs_of (area2 si sj) in
    let inv = one ⊘ area in
    pick (lt area flat) None (Some (record { ii = stiffness inv si si; ij = stiffness inv si sj; ik = stiffness inv si sk; jj = stiffness inv sj sj; jk = stiffness inv sj sk; kk = stiffness inv sk sk }))

-- triangle q of a list of corners
unfoldable pub triangle_of : List ℕ → ℕ → List ℕ
triangle_of ts q = get_or ts (3 * q) 0 ∷ get_or ts (3 * q + 1) 0 ∷ get_or ts (3 * q + 2) 0 ∷ []

-- its stiffness in a mesh
unfoldable pub stiff_in : Float → List Float → List ℕ → Option Stiff
unfolding stiff_of
stiff_in flat vs q = stiff_of flat (vertex vs (get_or q 0 0)) (vertex vs (get_or q 1 0)) (vertex vs (get_or q 2 0))
