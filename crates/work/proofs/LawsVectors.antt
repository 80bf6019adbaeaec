-- The vectors of place 0, begun behind the matrix's values, are those of the whole floats. Assumes nothing.
use Prim.Native.Nat.{ℕ, ◌+◌, ◌-◌, ◌*◌, ◌≤◌}
use mathlib.Core.Path.{◌≡◌, sym, ap, ◌∙◌}
use mathlib.Core.Logic.{inl}
use mathlib.Core.List.{List, ◌++◌}
use native.Mathlib.Omega.{arith}
use lib.ListN.{length, drop, take, length-drop}
use Rattle.std.proofs.lemmas.List.{take-append-drop, drop-drop, take_at, length-take-le}
use lib.Ieee.{Float}
use Rattle.stretch.specs.Stretch.{part, splice}
use Rattle.stretch.specs.StretchLaws.{length_part, part_of_take, splice_is}
use Rattle.conjugate.specs.Placed as Solving
use Rattle.conjugate.specs.Placed.{row_of, start_of}
use Rattle.conjugate.specs.PlacedLaws.{Adjoin, begun_in}
use Rattle.conjugate.specs.Solver.{Solve, begun}
use Rattle.conjugate.specs.SolverLaws.{Long, begun_long}
use Rattle.work.specs.Layout.{at_right, at_values, at_x, at_gradients, matrix_at, vectors_at}
use Rattle.sparse.specs.Sparse.{Entry}
use Rattle.sparse.specs.Stored.{Sound, matrix}
use Rattle.sparse.specs.ProductLaws.{matrix_kept, length-rows_of}

-- sound rows, the vectors and the right side lie one behind the other in floats that reach past the vectors
pub starts : {words : List ℕ} (n t l : ℕ) → Sound words (matrix_at n t) → at_gradients n t ≤ l → Solving.Starts words l (matrix_at n t) (vectors_at n t) (at_right n t)
starts n t l sound h =
    let row : Solving.InRow l (vectors_at n t) n = record { r_after = omega arith; p_after = omega arith; product_after = omega arith; ends = omega arith } in
    record {
      laid = record { sound = sound; in_row = row; values_fit = omega arith; values_outside = inl (omega arith) };
      reads = record { in_row = row; right_fits = omega arith; right_outside = inl (omega arith) };
    }

-- the vectors are begun at the front of what stands behind the matrix's values
module _ (n t : ℕ) (words : List ℕ) where
  abbrev begun_by : List Float → Solve
  begun_by s = start_of words s (matrix_at n t) (at_right n t)

  pub begun_behind : (front behind new right : List Float) (rows : List (List Entry)) (sum : Float) {k : ℕ} → k ≡ n → rows ≡ matrix words front (matrix_at n t) → right ≡ part front (at_right n t) n → length new ≡ 4 * n
      → Solving.Begun (take (4 * n) behind) new k (row_of k) (begun rows right) sum → Solving.Begun (take (4 * n) behind) (take (4 * n) (new ++ drop (4 * n) behind)) n (row_of n) (begun_by front) sum
  begun_behind front behind new right rows sum ek er eb long g =
      let e : take (4 * n) (new ++ drop (4 * n) behind) ≡ new = take_at new (drop (4 * n) behind) (4 * n) long in
      rw (e, ← er, ← eb) (rw ek at g)

  -- and so of the whole buffer
  module _ (s front behind behind' : List Float) (b : Solving.Starts words (length s) (matrix_at n t) (vectors_at n t) (at_right n t)) (ef : front ≡ take (at_x n t) s) (eb : behind ≡ drop (at_x n t) s) where
    same_begun : begun_by front ≡ begun_by s
    same_begun =
        let kept : part front (at_values n t) (9 * t + n) ≡ part s (at_values n t) (9 * t + n) = rw ef (part_of_take s (at_x n t) (at_values n t) (9 * t + n) (omega arith)) in
        let right : part front (at_right n t) n ≡ part s (at_right n t) n = rw ef (part_of_take s (at_x n t) (at_right n t) n (omega arith)) in
        let rows : matrix words front (matrix_at n t) ≡ matrix words s (matrix_at n t) = matrix_kept words s front (matrix_at n t) b.laid.sound kept in
        rw (rows, right)

    begun_long' : Long n (begun_by s)
    begun_long' = begun_long n (matrix words s (matrix_at n t)) (part s (at_right n t) n) (length-rows_of words s (matrix_at n t) n) (length_part s (at_right n t) n b.reads.right_fits)

    pub begun_whole : (sum : Float) → length behind' ≡ length behind → Solving.Begun (take (4 * n) behind) (take (4 * n) behind') n (row_of n) (begun_by front) sum → drop (4 * n) behind' ≡ drop (4 * n) behind
        → Solving.Begun s (front ++ behind') n (vectors_at n t) (begun_by s) sum
    unfolding part
    begun_whole sum el g ek =
        let ends : at_x n t + 4 * n ≤ length s = omega (arith, b.laid.in_row.ends) in
        let lb : length behind ≡ length s - at_x n t = ap length eb ∙ length-drop (at_x n t) s in
        let long : length (take (4 * n) behind') ≡ 4 * n = length-take-le (4 * n) behind' (omega arith) in
        let after : drop (4 * n) behind ≡ drop (at_x n t + 4 * n) s = ap (drop (4 * n)) eb ∙ drop-drop (4 * n) (at_x n t) s in
        let put : front ++ behind' ≡ splice s (at_x n t) (take (4 * n) behind') =
        ap (λ (l : List Float). front ++ l) (sym (take-append-drop (4 * n) behind')) ∙ rw (ef, ek, after) (sym (splice_is s (take (4 * n) behind') (at_x n t) (4 * n) long ends)) in
        let next : Adjoin (vectors_at n t) n = record { r_at = omega arith; p_at = omega arith; product_at = omega arith } in
        begun_in s (take (4 * n) behind) n (vectors_at n t) b.laid.in_row next (ap (take (4 * n)) eb) (begun_by s) begun_long' (rw same_begun at g) put
