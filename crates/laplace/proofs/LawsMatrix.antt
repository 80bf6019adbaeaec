-- A row put behind those before it, and all rows. Assumes nothing.
use Prim.Native.Nat.{ℕ, suc, ◌+◌, ◌≤◌, ◌<◌}
use native.Mathlib.Numerals.{add-one}
use native.Mathlib.Omega.{arith}
use mathlib.Core.Path.{◌≡◌, refl, sym, ap, ◌∙◌}
use mathlib.Core.List.{List, [], ◌∷◌, ◌++◌}
use lib.Ieee.{Float}
use lib.ListN.{length, set, take, replicate, length-replicate}
use Rattle.binary64.specs.Constants.{plus_zero}
use Rattle.stretch.specs.Stretch.{splice}
use Rattle.stretch.specs.StretchLaws.{length-splice, splice_nil, splice-one, splice-append, splice_snoc, splice-splice-same, splice-replicate}
use Rattle.sparse.specs.Sparse.{Entry, entries}
use Rattle.laplace.specs.declared.element.Elements.{Elements}
use Rattle.laplace.specs.Assembly.{rows}
use Rattle.laplace.specs.Matrix.{row_rising, row_below, pushes_below, count, count-append, few_entries}
use Rattle.laplace.specs.Elements.{AreElements, pushes_of}
use Rattle.laplace.specs.Placed.{values_in, columns_in, values_of, columns_of, starts_from}
use Rattle.laplace.specs.Row.{Written, Tidy, Building}
use Rattle.laplace.specs.Rows.{row_of, rows_of, room_of, Ready, RowPut, RowsPut}
use Rattle.laplace.proofs.LawsInsert.{take-splice_front, length_values, length_columns}
use Rattle.laplace.proofs.LawsRow.{tidy_none, building_on}
use Rattle.laplace.proofs.LawsPlaced.{length-values_of, length-columns_of, length_starts, length-rows, values_snoc, columns_snoc, starts_snoc}

module _ {A : Type 0} where
  -- a row that is written to and cleared again
  cleared : (n k : ℕ) (z : A) (l new : List A) → l ≡ replicate n z → length new ≡ k → splice (splice l 0 new) 0 (replicate k z) ≡ l
  cleared n k z l new e h = splice-splice-same l 0 new (replicate k z) (h ∙ sym (length-replicate k z)) ∙ rw e (splice-replicate n z 0 k)

-- ---- one row

module _ (m : Elements) (v : List Float) (c starts cols : List ℕ) (values : List Float) (y : Ready m v c starts cols values) where
  pub row_starts : Building m v c 0
  unfolding entries
  row_starts =
      record {
        mesh = y.mesh;
        values_long = ap length y.row_clear ∙ length-replicate (length m.tags.now) plus_zero;
        cols_long = ap length y.columns_clear ∙ length-replicate (length m.tags.now) 0;
        within = omega arith;
        tidy = tidy_none (length m.tags.now);
      }

  module _ (r before : ℕ) (h : r < length m.tags.now) (g : before + length (row_of m r) ≤ room_of m) (v' : List Float) (c' : List ℕ) (k : ℕ) (a : Written v c v' c' k (row_of m r)) where
    tidy_row : Tidy (length m.tags.now) (row_of m r)
    tidy_row =
        record {
          rising = row_rising m.tags.now (pushes_of m) r;
          below = row_below (length m.tags.now) m.tags.now (pushes_of m) r h (pushes_below (length m.tags.now) m.flat m.vertices.now m.triangles.now y.mesh.corners);
        }

    built : Building m v' c' k
    built = building_on m v c 0 row_starts v' c' k (row_of m r) a tidy_row

    values_are : length (values_in (row_of m r)) ≡ k
    values_are = length_values (row_of m r) ∙ sym a.count

    columns_are : length (columns_in (row_of m r)) ≡ k
    columns_are = length_columns (row_of m r) ∙ sym a.count

    -- the row is clear again
    pub row_cleared : (splice v' 0 (replicate k plus_zero) ≡ v) × (splice c' 0 (replicate k 0) ≡ c)
    row_cleared = (
      rw a.values (cleared (length m.tags.now) k plus_zero v (values_in (row_of m r)) y.row_clear values_are),
      rw a.columns (cleared (length m.tags.now) k 0 c (columns_in (row_of m r)) y.columns_clear columns_are),
    )

    pub row_put : RowPut starts cols values (set starts (r + 1) (before + k)) (splice cols before (take k c')) (splice values before (take k v')) r before (before + k) (row_of m r)
    row_put =
        let b = row_starts in
        let tv : take k v' ≡ values_in (row_of m r) = ap (λ (x : List Float). take k x) a.values ∙ take-splice_front v (values_in (row_of m r)) k values_are (omega (arith, b.values_long, built.within)) in
        let tc : take k c' ≡ columns_in (row_of m r) = ap (λ (x : List ℕ). take k x) a.columns ∙ take-splice_front c (columns_in (row_of m r)) k columns_are (omega (arith, b.cols_long, built.within)) in
        rw (tv, tc, a.count) record { total = refl; start = refl; columns = refl; entries = refl }

-- ---- all rows

module _ (m : Elements) (mesh : AreElements m) where
  -- the first i rows have few entries
  pub rows_few : (i : ℕ) → i ≤ length m.tags.now → count (rows_of m i) ≤ room_of m
  rows_few i h = omega (arith, few_entries m.tags.now m.flat m.vertices.now m.triangles.now i)

  count_next : (i : ℕ) → count (rows_of m (suc i)) ≡ count (rows_of m i) + length (row_of m i)
  unfolding rows count
  count_next i = omega (arith, count-append (rows_of m i) (row_of m i ∷ []))

  pub rows_none : (starts cols : List ℕ) (values : List Float) → RowsPut starts cols values (set starts 0 0) cols values 0 (rows_of m 0)
  unfolding rows count values_of columns_of starts_from
  rows_none starts cols values = record { total = refl; start = sym (splice-one starts 0 0); columns = sym (splice_nil cols 0); entries = sym (splice_nil values 0) }

  module _ (starts cols : List ℕ) (values : List Float) (i : ℕ) (h : i < length m.tags.now) (s₁ c₁ : List ℕ) (v₁ : List Float) (k : ℕ) (p : RowsPut starts cols values s₁ c₁ v₁ k (rows_of m i)) where
    pub rows_room : k + length (row_of m i) ≤ room_of m
    rows_room = omega (arith, p.total, count_next i, rows_few (suc i) (omega arith))

    pub rows_again : (s₂ c₂ : List ℕ) (v₂ : List Float) (e : ℕ) → RowPut s₁ c₁ v₁ s₂ c₂ v₂ i k e (row_of m i) → RowsPut starts cols values s₂ c₂ v₂ e (rows_of m (i + 1))
    unfolding rows
    rows_again s₂ c₂ v₂ e q =
        let rs = rows_of m i in
        let es = row_of m i in
        let v = values_of rs in
        let c = columns_of rs in
        let s = starts_from 0 rs in
        let x = 0 + count rs + length es in
        let lv : 0 + length v ≡ k = omega (arith, length-values_of rs, p.total) in
        let lc : 0 + length c ≡ k = omega (arith, length-columns_of rs, p.total) in
        let ls : 0 + length s ≡ i + 1 = omega (arith, length_starts 0 rs, length-rows m.tags.now (pushes_of m) i) in
        let xe : k + length es ≡ x = omega (arith, p.total) in
        let fv : v₂ ≡ splice values 0 (v ++ values_in es) =
        q.entries ∙ ap (λ (l : List Float). splice l k (values_in es)) p.entries ∙ ap (λ (j : ℕ). splice (splice values 0 v) j (values_in es)) (sym lv) ∙ sym (splice-append values 0 v (values_in es)) in
        let fc : c₂ ≡ splice cols 0 (c ++ columns_in es) =
        q.columns ∙ ap (λ (l : List ℕ). splice l k (columns_in es)) p.columns ∙ ap (λ (j : ℕ). splice (splice cols 0 c) j (columns_in es)) (sym lc) ∙ sym (splice-append cols 0 c (columns_in es)) in
        let fs : s₂ ≡ splice starts 0 (s ++ (x ∷ [])) =
        q.start ∙ ap (λ (l : List ℕ). set l (i + 1) (k + length es)) p.start ∙ ap (λ (j : ℕ). set (splice starts 0 s) (i + 1) j) xe
        ∙ ap (λ (j : ℕ). set (splice starts 0 s) j x) (sym ls) ∙ sym (splice_snoc starts 0 s x) in
        rw (add-one i) record {
          total = q.total ∙ ap (λ (j : ℕ). j + length es) p.total ∙ sym (count_next i);
          start = fs ∙ ap (λ (l : List ℕ). splice starts 0 l) (sym (starts_snoc 0 rs es));
          columns = fc ∙ ap (λ (l : List ℕ). splice cols 0 l) (sym (columns_snoc rs es));
          entries = fv ∙ ap (λ (l : List Float). splice values 0 l) (sym (values_snoc rs es));
        }

-- the matrix has room still
pub ready_on : (m : Elements) (v : List Float) (c starts cols : List ℕ) (values : List Float) → Ready m v c starts cols values
    → (s₁ c₁ : List ℕ) (v₁ : List Float) (k : ℕ) (rs : List (List Entry)) → RowsPut starts cols values s₁ c₁ v₁ k rs → (v' : List Float) (c' : List ℕ) → v' ≡ v → c' ≡ c → Ready m v' c' s₁ c₁ v₁
ready_on m v c starts cols values y s₁ c₁ v₁ k rs p v' c' ev ec =
    record {
      mesh = y.mesh;
      row_clear = ev ∙ y.row_clear;
      columns_clear = ec ∙ y.columns_clear;
      starts_long = ap length p.start ∙ length-splice starts 0 (starts_from 0 rs) ∙ y.starts_long;
      cols_long = ap length p.columns ∙ length-splice cols 0 (columns_of rs) ∙ y.cols_long;
      values_long = ap length p.entries ∙ length-splice values 0 (values_of rs) ∙ y.values_long;
    }
