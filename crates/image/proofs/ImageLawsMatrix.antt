-- Rows read back: the matrix that is read where the row starts, the columns and the values of a list of rows stand is that list of rows.
-- Assumes nothing.
use Prim.Native.Nat.{ℕ, zero, suc, ◌+◌, ◌-◌, ◌≤◌, ◌<◌}
use Rattle.std.specs.Prelude.{◌≡◌, take, Float}
use Rattle.std.proofs.Math.Path.{refl}
use Rattle.std.proofs.Common.{sym, ap, ◌∙◌, zero-add, length-append, take-suc}
use mathlib.Core.List.{List, [], ◌∷◌, map, map-append}
use native.Mathlib.Omega.{arith}
use Rattle.std.proofs.Math.ListN.{length, get_or}
use Rattle.std.proofs.lemmas.List.{length-map}
use Rattle.std.proofs.Math.Seq.{take-length}
use Rattle.stretch.specs.Stretch.{part, flat, off}
use Rattle.stretch.specs.StretchLaws.{part_part, get_d_part}
use Rattle.stretch.specs.SegmentLaws.{part_seg, seg_fits, off_suc}
use Rattle.sparse.specs.Sparse.{Entry, entries}
use Rattle.sparse.specs.Stored.{row_at, rows_of, CsrAt}
use Rattle.laplace.specs.Matrix.{count}
use Rattle.laplace.specs.Placed.{values_in, columns_in, values_of, columns_of, starts_from}

-- ---- values, columns and starts by the entries of all rows

abbrev col : Entry → ℕ
col e = e.col

abbrev value : Entry → Float
value e = e.value

values_in_lem : (es : List Entry) → values_in es ≡ map value es
unfolding values_in
values_in_lem [] = refl
values_in_lem (e ∷ es) = rw (values_in_lem es)

columns_in_lem : (es : List Entry) → columns_in es ≡ map col es
unfolding columns_in
columns_in_lem [] = refl
columns_in_lem (e ∷ es) = rw (columns_in_lem es)

pub values_flat : (rs : List (List Entry)) → values_of rs ≡ map (λ e. e.value) (flat rs)
unfolding values_of flat
values_flat [] = refl
values_flat (es ∷ rs) = rw (values_in_lem es, values_flat rs) (sym (map-append value es (flat rs)))

pub columns_flat : (rs : List (List Entry)) → columns_of rs ≡ map (λ e. e.col) (flat rs)
unfolding columns_of flat
columns_flat [] = refl
columns_flat (es ∷ rs) = rw (columns_in_lem es, columns_flat rs) (sym (map-append col es (flat rs)))

pub length_values : (rs : List (List Entry)) → length (values_of rs) ≡ length (flat rs)
length_values rs = ap (λ (l : List Float). length l) (values_flat rs) ∙ length-map (flat rs) value

pub length_columns : (rs : List (List Entry)) → length (columns_of rs) ≡ length (flat rs)
length_columns rs = ap (λ (l : List ℕ). length l) (columns_flat rs) ∙ length-map (flat rs) col

pub length_starts : (b : ℕ) (rs : List (List Entry)) → length (starts_from b rs) ≡ length rs + 1
unfolding starts_from
length_starts b [] = refl
length_starts b (es ∷ rs) = let h : length (starts_from (b + length es) rs) ≡ length rs + 1 = length_starts (b + length es) rs in omega arith

pub length-flat-count : (rs : List (List Entry)) → length (flat rs) ≡ count rs
unfolding flat count
length-flat-count [] = refl
length-flat-count (es ∷ rs) = rw (length-append, length-flat-count rs)

-- row i starts where the rows before it end
starts_at : (b : ℕ) (rs : List (List Entry)) (i : ℕ) → i ≤ length rs → get_or (starts_from b rs) i 0 ≡ b + off rs i
unfolding starts_from off
starts_at b [] zero h = omega arith
starts_at b [] (suc i) h = absurd (omega arith)
starts_at b (es ∷ rs) zero h = omega arith
starts_at b (es ∷ rs) (suc i) h = starts_at (b + length es) rs i (omega arith) ∙ omega arith

-- ---- one row

part_map : {A B : Type 0} (f : A → B) (l : List A) (at n : ℕ) → part (map f l) at n ≡ map f (part l at n)
unfolding part
part_map f l zero zero = refl
part_map f [] zero (suc n) = refl
part_map {A} {B} f (x ∷ xs) zero (suc n) = ap (λ (r : List B). f x ∷ r) (part_map f xs zero n)
part_map f [] (suc at) zero = refl
part_map f [] (suc at) (suc n) = refl
part_map f (x ∷ xs) (suc at) n = part_map f xs at n

-- of all entries, those of row i
part_row : {B : Type 0} (f : Entry → B) (rs : List (List Entry)) (i : ℕ) → i < length rs
    → part (map f (flat rs)) (off rs i) (length (get_or rs i [])) ≡ map f (get_or rs i [])
part_row f rs i h =
    part_map f (flat rs) (off rs i) (length (get_or rs i []))
    ∙ ap (λ (l : List Entry). map f l) (part_seg rs i (off rs i) (length (get_or rs i [])) refl h refl)

entries-map : (es : List Entry) → entries (map col es) (map value es) ≡ es
unfolding entries
entries-map [] = refl
entries-map (e ∷ es) = ap (λ (r : List Entry). e ∷ r) (entries-map es)

-- ---- the rows

module _ (words : List ℕ) (floats : List Float) (m : CsrAt) (rs : List (List Entry)) (starts : part words m.starts (length rs + 1) ≡ starts_from 0 rs)
    (cols : part words m.cols (length (flat rs)) ≡ columns_of rs) (vals : part floats m.vals (length (flat rs)) ≡ values_of rs) where
  start_is : (i : ℕ) → i ≤ length rs → get_or words (m.starts + i) 0 ≡ off rs i
  start_is i h =
      sym (get_d_part words m.starts (length rs + 1) i 0 (omega arith)) ∙ ap (λ (l : List ℕ). get_or l i 0) starts ∙ starts_at 0 rs i h ∙ zero-add (off rs i)

  end_is : (i : ℕ) → i < length rs → get_or words (m.starts + i + 1) 0 ≡ off rs i + length (get_or rs i [])
  end_is i h =
      let e : m.starts + i + 1 ≡ m.starts + suc i = omega arith in
      ap (λ (k : ℕ). get_or words k 0) e ∙ start_is (suc i) h ∙ off_suc rs i

  columns_is : (i : ℕ) → i < length rs → part words (m.cols + off rs i) (length (get_or rs i [])) ≡ map col (get_or rs i [])
  columns_is i h =
      sym (part_part words m.cols (length (flat rs)) (off rs i) (length (get_or rs i [])) (seg_fits rs i))
      ∙ ap (λ (l : List ℕ). part l (off rs i) (length (get_or rs i []))) (cols ∙ columns_flat rs) ∙ part_row col rs i h

  values_is : (i : ℕ) → i < length rs → part floats (m.vals + off rs i) (length (get_or rs i [])) ≡ map value (get_or rs i [])
  values_is i h =
      sym (part_part floats m.vals (length (flat rs)) (off rs i) (length (get_or rs i [])) (seg_fits rs i))
      ∙ ap (λ (l : List Float). part l (off rs i) (length (get_or rs i []))) (vals ∙ values_flat rs) ∙ part_row value rs i h

  row_is : (i : ℕ) → i < length rs → row_at words floats m i ≡ get_or rs i []
  unfolding row_at
  row_is i h =
      let s : get_or words (m.starts + i) 0 ≡ off rs i = start_is i (omega arith) in
      let e : get_or words (m.starts + i + 1) 0 ≡ off rs i + length (get_or rs i []) = end_is i h in
      let k : off rs i + length (get_or rs i []) - off rs i ≡ length (get_or rs i []) = omega arith in
      rw (s, e, k, columns_is i h, values_is i h) (entries-map (get_or rs i []))

  rows_are : (k : ℕ) → k ≤ length rs → rows_of words floats m k ≡ take k rs
  unfolding rows_of
  rows_are zero h = refl
  rows_are (suc k) h = rw (rows_are k (omega arith), row_is k h) (sym (take-suc rs k [] h))

  pub read_back : rows_of words floats m (length rs) ≡ rs
  read_back = rows_are (length rs) (omega arith) ∙ take-length rs
