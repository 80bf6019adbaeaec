-- Lengths of a product, and a matrix read again from a buffer that has its values as before. Assumes nothing.
use Rattle.std.specs.Prelude.{◌≡◌, refl, List, [], ◌∷◌, ℕ, zero, suc, ◌+◌, ◌-◌, ◌≤◌, length, Float}
use Rattle.std.proofs.Common.{sym, ap, ◌∙◌, add-one, arith, length-append}
use Rattle.stretch.specs.Stretch.{part}
use Rattle.stretch.specs.StretchLaws.{part_part}
use Rattle.sparse.specs.Sparse.{Entry, mat_vec}
use Rattle.sparse.specs.Stored.{CsrAt, start, end, row_at, rows_of, matrix, Sound}

pub length-mat_vec : (rs : List (List Entry)) (x : List Float) → length (mat_vec rs x) ≡ length rs
unfolding mat_vec
length-mat_vec [] x = refl
length-mat_vec (r ∷ rs) x = ap suc (length-mat_vec rs x)

pub length-rows_of : (w : List ℕ) (s : List Float) (m : CsrAt) (i : ℕ) → length (rows_of w s m i) ≡ i
unfolding rows_of
length-rows_of w s m zero = refl
length-rows_of w s m (suc i) = rw (length-append, length-rows_of w s m i) (add-one i)

pub length-rows : (w : List ℕ) (s : List Float) (m : CsrAt) (i : ℕ) (x : List Float) → length (mat_vec (rows_of w s m i) x) ≡ i
length-rows w s m i x = length-mat_vec (rows_of w s m i) x ∙ length-rows_of w s m i

pub length_product : (w : List ℕ) (s : List Float) (m : CsrAt) (x : List Float) → length (mat_vec (matrix w s m) x) ≡ m.rows
length_product w s m x = length-rows w s m m.rows x

-- ---- a matrix whose values stand as before is read as before

rows_kept : (w : List ℕ) (s l : List Float) (m : CsrAt) → Sound w m → part l m.vals m.count ≡ part s m.vals m.count → (i : ℕ) → i ≤ m.rows → rows_of w l m i ≡ rows_of w s m i
unfolding rows_of row_at
rows_kept w s l m so e zero h = refl
rows_kept w s l m so e (suc i) h =
    let r = so.rising.at i (omega arith) in
    let f : ℕ = start w m i in
    let k : ℕ = end w m i - start w m i in
    let keeps : part l (m.vals + f) k ≡ part s (m.vals + f) k =
    sym (part_part l m.vals m.count f k (omega arith)) ∙ ap (λ (q : List Float). part q f k) e ∙ part_part s m.vals m.count f k (omega arith) in
    rw (rows_kept w s l m so e i (omega arith), keeps)

pub matrix_kept : (w : List ℕ) (s l : List Float) (m : CsrAt) → Sound w m → part l m.vals m.count ≡ part s m.vals m.count → matrix w l m ≡ matrix w s m
matrix_kept w s l m so e = rows_kept w s l m so e m.rows (omega arith)
