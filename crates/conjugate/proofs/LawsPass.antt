-- What the loops of a pass and of place 0 come to together. Assumes nothing.
use Rattle.std.specs.Prelude.{◌≡◌, refl, length, replicate, Bool, true, false, Float}
use Rattle.std.specs.Float.Ieee.{lt}
use Rattle.std.proofs.Common.{ap, ◌∙◌}
use mathlib.Core.List.{List, zip_with}
use Rattle.binary64.specs.Arith.{◌⊘◌}
use Rattle.binary64.specs.Constants.{plus_zero}
use Rattle.binary64.specs.Number.{pick, abs_of}
use Rattle.binary64.specs.Root.{root}
use Rattle.stretch.specs.Vec.{dot, plus}
use Rattle.sparse.specs.declared.Matrix.{Matrix}
use Rattle.sparse.specs.Sparse.{Entry, mat_vec}
use Rattle.sparse.specs.Matrix.{rows, matrix_of}
use Rattle.sparse.specs.ByRowsLaws.{length-first_rows, length-product}
use Rattle.conjugate.specs.declared.Pass.{Pass}
use Rattle.conjugate.specs.declared.Pass.TheVariants.{Halted, Reached, Moved}
use Rattle.conjugate.specs.Solver.{Solve, halted, reached, moved, pass, begun}
use Rattle.conjugate.specs.SolverLaws.{next_x, next_r, next_sum, next_of, pass_halted, pass_reached, pass-moved}
use Rattle.conjugate.specs.Passes.{solve, answer_of, Passes, Begins, Stepped, Resides, Settled}

-- ---- a pass: x, r and p at entry, x' and r' moved, p' moved

module _ (a : List (List Entry)) (x r p : List Float) (tiny tolerance rs pap : Float) (pap-is : pap ≡ dot p (mat_vec a p)) where
  pub halts : lt (abs_of pap) tiny ≡ true → Passes a tiny tolerance (solve x r p rs) x r p Halted
  unfolding answer_of
  halts h =
      let t : pass tiny a tolerance (solve x r p rs) ≡ halted = pass_halted tiny a tolerance (solve x r p rs) (rw pap-is at h) in
      rw t (record { said = refl; x_is = refl; r_is = refl; p_is = refl })

  module _ (q x' r' : List Float) (next : Float) (q-is : q ≡ mat_vec a p) (st : Stepped x r p q (rs ⊘ pap) x' r' next) where
    x-is : x' ≡ next_x a (solve x r p rs)
    x-is = rw pap-is at st.x_is

    r-is : r' ≡ next_r a (solve x r p rs)
    r-is = rw (pap-is, q-is) at st.r_is

    next_is : next ≡ next_sum a (solve x r p rs)
    next_is = rw (pap-is, q-is) at st.sum_is

    module _ (goes_on : lt (abs_of pap) tiny ≡ false) where
      pub reaches : lt (root next) tolerance ≡ true → Passes a tiny tolerance (solve x r p rs) x' r' p (Reached (root next))
      unfolding answer_of
      reaches k =
          let s : Solve = solve x r p rs in
          let e = ap root next_is in
          let t : pass tiny a tolerance s ≡ reached (next_x a s) (next_r a s) (root (next_sum a s)) = pass_reached tiny a tolerance s (rw pap-is at goes_on) (rw next_is at k) in
          rw t (record { said = ap Reached e; x_is = x-is; r_is = r-is; p_is = refl })

      pub moves : lt (root next) tolerance ≡ false → Passes a tiny tolerance (solve x r p rs) x' r' (zip_with (plus (next ⊘ rs)) r' p) (Moved next (root next))
      unfolding answer_of
      moves k =
          let s : Solve = solve x r p rs in
          let e = ap root next_is in
          let t : pass tiny a tolerance s ≡ moved (next_of a s) (root (next_sum a s)) = pass-moved tiny a tolerance s (rw pap-is at goes_on) (rw next_is at k) in
          rw t (record { said = cc (next_is, e); x_is = x-is; r_is = r-is; p_is = rw (r-is, next_is) })

      by_norm : (t : Bool) → lt (root next) tolerance ≡ t → Passes a tiny tolerance (solve x r p rs) x' r' (pick t p (zip_with (plus (next ⊘ rs)) r' p)) (pick t (Reached (root next)) (Moved next (root next)))
      by_norm true k = reaches k
      by_norm false k = moves k

      pub settles : {p' : List Float} {answer : Pass} → Settled r' p next (next ⊘ rs) tolerance p' answer → Passes a tiny tolerance (solve x r p rs) x' r' p' answer
      settles d = rw (d.said, d.p_is) (by_norm (lt (root next) tolerance) refl)

-- ---- place 0

pub begins : (a : List (List Entry)) (b x q : List Float) {r p : List Float} {sum : Float} → x ≡ replicate (length b) plus_zero → q ≡ mat_vec a x → Resides b q r p sum → Begins (begun a b) x r p sum
unfolding begun
begins a b x q {r} {p} {sum} ex eq d =
    let q-is : q ≡ mat_vec a (replicate (length b) plus_zero) = eq ∙ ap (mat_vec a) ex in
    record { said = rw q-is at d.sum_is; x_is = ex; r_is = rw q-is at d.r_is; p_is = rw q-is at d.p_is }

-- ---- the product

pub length-product_of : (m : Matrix) (x : List Float) → length (mat_vec (matrix_of m) x) ≡ rows m
length-product_of m x = length-product m.starts.now m.cols.now m.values.now (rows m) x

pub length-matrix_of : (m : Matrix) → length (matrix_of m) ≡ rows m
length-matrix_of m = length-first_rows m.starts.now m.cols.now m.values.now (rows m)
