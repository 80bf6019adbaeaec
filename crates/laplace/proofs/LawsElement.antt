-- Triangles of a mesh, and a triangle's pushes by its stiffness. Assumes nothing.
use Prim.Native.Nat.{ℕ, zero, suc, ◌+◌, ◌*◌, ◌/◌, ◌<◌}
use native.Mathlib.Omega.{arith}
use mathlib.Core.Path.{◌≡◌, refl, sym, ap, ◌∙◌}
use mathlib.Core.Bool.{Bool, true, false}
use mathlib.Core.List.{List, [], ◌∷◌, ◌++◌}
use lib.Ieee.{Float, lt}
use lib.ListN.{length, get_or, take, drop}
use lib.Seq.{drop-cons, drop-drop}
use Rattle.std.specs.Simd.{first_chunks}
use Rattle.std.specs.Prelude.{Some, None}
use Rattle.binary64.specs.Number.{pick}
use Rattle.laplace.specs.declared.element.Stiff.{Stiff}
use Rattle.laplace.specs.Assembly.{nine, triangle_pushes}
use Rattle.laplace.specs.Matrix.{AllBelow}
use Rattle.laplace.specs.Element.{stiff_in, triangle_of}
use Rattle.laplace.specs.Right.{stiff_pushes}
use Rattle.laplace.proofs.LawsCorners.{below_at}

-- a triangle of the mesh
pub triangle-within : (n : ℕ) (ts : List ℕ) (q : ℕ) → AllBelow n ts → 3 * q + 2 < length ts → AllBelow n (triangle_of ts q)
unfolding triangle_of AllBelow
triangle-within n ts q b h = (below_at n ts (3 * q) b (omega arith), (below_at n ts (3 * q + 1) b (omega arith), (below_at n ts (3 * q + 2) b h, tt)))

-- as the list's front
pub triangle_off : (ts : List ℕ) (q : ℕ) → 3 * q + 2 < length ts → drop (3 * q) ts ≡ triangle_of ts q ++ drop (3 * (q + 1)) ts
unfolding triangle_of
triangle_off ts q h =
    let a : suc (3 * q) ≡ 3 * q + 1 = omega arith in
    let b : suc (3 * q + 1) ≡ 3 * q + 2 = omega arith in
    let c : suc (3 * q + 2) ≡ 3 * (q + 1) = omega arith in
    drop-cons ts (3 * q) 0 (omega arith)
    ∙ ap (λ (x : List ℕ). get_or ts (3 * q) 0 ∷ x)
    (ap (λ (x : ℕ). drop x ts) a ∙ drop-cons ts (3 * q + 1) 0 (omega arith)
    ∙ ap (λ (x : List ℕ). get_or ts (3 * q + 1) 0 ∷ x)
    (ap (λ (x : ℕ). drop x ts) b ∙ drop-cons ts (3 * q + 2) 0 h ∙ ap (λ (x : ℕ). get_or ts (3 * q + 2) 0 ∷ drop x ts) c))

-- and as one of its chunks; `piece` of sheet is the same law, since no crate below both has laws of lists
chunk_is : (w k i : ℕ) (s d : List ℕ) → i < k → get_or (first_chunks w k s) i d ≡ take w (drop (w * i) s)
chunk_is w zero i s d h = absurd (omega arith)
chunk_is w (suc k) zero s d h = let z : w * 0 ≡ 0 = omega arith in ap (λ (n : ℕ). take w (drop n s)) (sym z)
chunk_is w (suc k) (suc i) s d h =
    let e : w + w * i ≡ w * suc i = omega arith in
    chunk_is w k i (drop w s) d (omega arith) ∙ ap (take w) (drop-drop (w * i) w s ∙ ap (λ (n : ℕ). drop n s) e)

pub triangle_is : (ts : List ℕ) (rows : List (List ℕ)) (q : ℕ) → rows ≡ first_chunks 3 (length ts / 3) ts → 3 * q + 2 < length ts → get_or rows q [] ≡ triangle_of ts q
unfolding triangle_of
triangle_is ts rows q e h = ap (λ (x : List (List ℕ)). get_or x q []) e ∙ chunk_is 3 (length ts / 3) q ts [] (omega arith) ∙ ap (take 3) (triangle_off ts q h)

-- a triangle's pushes by its stiffness
pub triangle_pushes_lem : (flat : Float) (vs : List Float) (q : List ℕ) → triangle_pushes flat vs (get_or q 0 0) (get_or q 1 0) (get_or q 2 0) ≡ stiff_pushes q (stiff_in flat vs q)
unfolding triangle_pushes stiff_in stiff_pushes
triangle_pushes_lem flat vs q = go (lt _ flat) _
  where
    go : (b : Bool) (s : Stiff) → pick b [] (nine (get_or q 0 0) (get_or q 1 0) (get_or q 2 0) s.ii s.ij s.ik s.jj s.jk s.kk) ≡ stiff_pushes q (pick b None (Some s))
    go true s = refl
    go false s = refl
