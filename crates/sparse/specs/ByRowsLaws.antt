-- Compressed rows as parts of two buffers: the same matrix, and sound where that is; and their product as a write. Assumes nothing.
use Rattle.std.specs.Prelude.{◌≡◌, refl, ℕ, zero, suc, ◌+◌, ◌-◌, ◌≤◌, ◌<◌, List, length, get_or, Float}
use Rattle.std.proofs.Common.{sym, ap, ◌∙◌, add-one, arith, length-append}
use Rattle.stretch.specs.Stretch.{part, splice, Wrote}
use Rattle.stretch.specs.StretchLaws.{length_part, get_d_part, part_part}
use Rattle.sparse.specs.Sparse.{mat_vec}
use Rattle.sparse.specs.Stored.{CsrAt, start, end, matrix, Sound}
use Rattle.sparse.specs.Stored as Stored
use Rattle.sparse.specs.ByRows.{IsByRows, row_at, first_rows}
use Rattle.sparse.specs.ProductLaws.{length-mat_vec}
use Rattle.sparse.specs.declared.Matrix.{Matrix}
use Rattle.sparse.specs.Matrix.{matrix_of, rows, Multiplied}

pub length-first_rows : (starts cols : List ℕ) (values : List Float) (i : ℕ) → length (first_rows starts cols values i) ≡ i
unfolding first_rows
length-first_rows starts cols values zero = refl
length-first_rows starts cols values (suc i) = rw (length-append, length-first_rows starts cols values i) (add-one i)

pub length-product : (starts cols : List ℕ) (values : List Float) (i : ℕ) (x : List Float) → length (mat_vec (first_rows starts cols values i) x) ≡ i
length-product starts cols values i x = length-mat_vec (first_rows starts cols values i) x ∙ length-first_rows starts cols values i

-- the product, put at a place of a buffer, as a write of its stretch
pub wrote_product : {m : Matrix} {s l x out : List Float} {at : ℕ} {sum : Float} → at + rows m ≤ length s → l ≡ splice s at out → Multiplied m x out sum
    → Wrote s l at (rows m) (mat_vec (matrix_of m) x)
wrote_product {m} {s} {l} {x} {out} {at} fits put d =
    record { is = put ∙ ap (λ (new : List Float). splice s at new) d.is; long = length-product m.starts.now m.cols.now m.values.now (rows m) x; fits = fits }

-- ---- the parts of the two buffers

module _ (words : List ℕ) (floats : List Float) (m : CsrAt) (sound : Sound words m) (fit : m.vals + m.count ≤ length floats) where
  start_is : (i : ℕ) → i ≤ m.rows → get_or (part words m.starts (m.rows + 1)) i 0 ≡ start words m i
  start_is i h = get_d_part words m.starts (m.rows + 1) i 0 (omega arith)

  end_is : (i : ℕ) → i < m.rows → get_or (part words m.starts (m.rows + 1)) (i + 1) 0 ≡ end words m i
  end_is i h =
      let o : m.starts + (i + 1) ≡ m.starts + i + 1 = omega arith in
      get_d_part words m.starts (m.rows + 1) (i + 1) 0 (omega arith) ∙ ap (λ (q : ℕ). get_or words q 0) o

  row_of_parts : (i : ℕ) → i < m.rows → row_at (part words m.starts (m.rows + 1)) (part words m.cols m.count) (part floats m.vals m.count) i ≡ Stored.row_at words floats m i
  unfolding row_at Stored.row_at
  row_of_parts i h =
      let r = sound.rising.at i h in
      let f : ℕ = start words m i in
      let k : ℕ = end words m i - start words m i in
      rw (start_is i (omega arith), end_is i h, part_part words m.cols m.count f k (omega arith), part_part floats m.vals m.count f k (omega arith))

  rows_of_parts : (k : ℕ) → k ≤ m.rows → first_rows (part words m.starts (m.rows + 1)) (part words m.cols m.count) (part floats m.vals m.count) k ≡ Stored.rows_of words floats m k
  unfolding first_rows Stored.rows_of
  rows_of_parts zero h = refl
  rows_of_parts (suc k) h = rw (rows_of_parts k (omega arith), row_of_parts k (omega arith))

  starts_long : length (part words m.starts (m.rows + 1)) ≡ m.rows + 1
  starts_long = length_part words m.starts (m.rows + 1) (let s = sound.starts_fit in omega arith)

  -- the matrix of slices that are these parts is the stored matrix
  pub matrix_of_parts : {ss cs : List ℕ} {vs : List Float} → ss ≡ part words m.starts (m.rows + 1) → cs ≡ part words m.cols m.count → vs ≡ part floats m.vals m.count
      → first_rows ss cs vs (length ss - 1) ≡ matrix words floats m
  matrix_of_parts {ss} {cs} {vs} es ec ev =
      let n : length ss - 1 ≡ m.rows = let l = ap length es ∙ starts_long in omega arith in
      rw (n, es, ec, ev) (rows_of_parts m.rows (omega arith))

  -- and they are compressed rows
  pub by_rows_of_parts : {ss cs : List ℕ} {vs : List Float} → ss ≡ part words m.starts (m.rows + 1) → cs ≡ part words m.cols m.count → vs ≡ part floats m.vals m.count
      → IsByRows ss cs vs
  by_rows_of_parts es ec ev =
      let ls : length (part words m.starts (m.rows + 1)) ≡ m.rows + 1 = starts_long in
      let lc : length (part words m.cols m.count) ≡ m.count = length_part words m.cols m.count sound.columns_fit in
      let lv : length (part floats m.vals m.count) ≡ m.count = length_part floats m.vals m.count fit in
      let rise : (i : ℕ) → i < m.rows → (get_or (part words m.starts (m.rows + 1)) i 0 ≤ get_or (part words m.starts (m.rows + 1)) (i + 1) 0) × (get_or (part words m.starts (m.rows + 1)) (i + 1) 0 ≤ m.count) =
      λ i h. let r = sound.rising.at i h in let s = start_is i (omega arith) in let e = end_is i h in (omega arith, omega arith) in
      rw (es, ec, ev) (record {
        started = omega arith;
        rising = λ i h. (rise i (omega arith)).0;
        ends = λ i h. rw lc (rise i (omega arith)).1;
        row = record { as_many = lc ∙ sym lv; below = λ j h. let b = sound.below.at j (omega arith) in let g = get_d_part words m.cols m.count j 0 (omega arith) in omega arith };
      })

  -- the product of such slices with a vector of the same buffer, put at a place of it
  pub wrote_product_of_parts : {k : Matrix} {l out : List Float} {at : ℕ} {sum : Float} (p : ℕ) → k.starts.now ≡ part words m.starts (m.rows + 1) → k.cols.now ≡ part words m.cols m.count → k.values.now ≡ part floats m.vals m.count
      → at + m.rows ≤ length floats → l ≡ splice floats at out → Multiplied k (part floats p m.rows) out sum → Wrote floats l at m.rows (mat_vec (matrix words floats m) (part floats p m.rows))
  wrote_product_of_parts {k} {l} {out} {at} {sum} p es ec ev fits put d =
      let n : rows k ≡ m.rows = let long = ap length es ∙ starts_long in omega arith in
      let w = wrote_product {m = k} {s = floats} {at = at} (omega arith) put d in
      rw (matrix_of_parts es ec ev, n) at w
