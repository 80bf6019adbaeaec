-- The product by rows: one element, and the loop that writes them all. Assumes nothing.
use Rattle.std.specs.Prelude.{◌≡◌, ◌⊎◌, refl, ℕ, zero, suc, ◌+◌, ◌-◌, ◌≤◌, ◌<◌, List, [], ◌∷◌, ◌++◌, length, take, get_or, set, Float}
use Rattle.std.specs.Float.{nan}
use Rattle.std.proofs.Common.{sym, ap, ◌∙◌, inl, inr, ⊎_elim, add-one, arith, get_or-append-add, take-suc, length-take-le}
use Rattle.std.proofs.Math.Seq.{take_all}
use lib.ListN.{get_or-append}
use Rattle.binary64.specs.Arith.{◌⊕◌, ◌⊗◌}
use Rattle.binary64.specs.Constants.{plus_zero}
use Rattle.stretch.specs.Stretch.{part, splice}
use Rattle.stretch.specs.StretchLaws.{splice_nil, splice_snoc, splice_all}
use Rattle.stretch.specs.Vec.{dot, dot_from}
use Rattle.stretch.proofs.VecLaws.{dot_snoc}
use Rattle.sparse.specs.Sparse.{Entry, row_product, mat_vec, entries}
use Rattle.sparse.specs.ByRows.{row_at, first_rows}
use Rattle.sparse.specs.ByRowsLaws.{length-product}

mat_vec_snoc : (rs : List (List Entry)) (r : List Entry) (x : List Float) → mat_vec (rs ++ (r ∷ [])) x ≡ mat_vec rs x ++ (row_product r x ∷ [])
unfolding mat_vec
mat_vec_snoc [] r x = refl
mat_vec_snoc (q ∷ rs) r x = ap (λ (l : List Float). row_product q x ∷ l) (mat_vec_snoc rs r x)

le_or_last : (i k : ℕ) → i ≤ k → (i < k) ⊎ (i ≡ k)
le_or_last i zero h = inr (omega arith)
le_or_last zero (suc k) h = inl (omega arith)
le_or_last (suc i) (suc k) h = ⊎_elim (λ l. inl (omega arith)) (λ e. inr (omega arith)) (le_or_last i k (omega arith))

module _ (starts cols : List ℕ) (values x : List Float) where
  mat_vec_none : mat_vec (first_rows starts cols values 0) x ≡ []
  unfolding first_rows mat_vec
  mat_vec_none = refl

  mat_vec_suc : (i : ℕ) → mat_vec (first_rows starts cols values (suc i)) x ≡ mat_vec (first_rows starts cols values i) x ++ (row_product (row_at starts cols values i) x ∷ [])
  unfolding first_rows
  mat_vec_suc i = mat_vec_snoc (first_rows starts cols values i) (row_at starts cols values i) x

  -- a row from where it starts and ends
  row_is : (i from to : ℕ) (y : Float) → from ≡ get_or starts i 0 → to ≡ get_or starts (i + 1) 0
      → y ≡ row_product (entries (part cols from (to - from)) (part values from (to - from))) x → y ≡ row_product (row_at starts cols values i) x
  unfolding row_at
  row_is i from to y f t e = e ∙ rw (f, t)

  -- element i of the product is that of row i
  mat_vec-at : (k i : ℕ) → i < k → get_or (mat_vec (first_rows starts cols values k) x) i nan ≡ row_product (row_at starts cols values i) x
  mat_vec-at zero i h = absurd (omega arith)
  mat_vec-at (suc k) i h =
      let done : List Float = mat_vec (first_rows starts cols values k) x in
      let new : List Float = row_product (row_at starts cols values k) x ∷ [] in
      let e : length done ≡ k = length-product starts cols values k x in
      let end_is : length done + 0 ≡ k = omega arith in
      rw mat_vec_suc (⊎_elim
      (λ (l : i < k). get_or-append done new nan i (omega arith) ∙ mat_vec-at k i l)
      (λ (j : i ≡ k). ap (λ (o : ℕ). get_or (done ++ new) o nan) (j ∙ sym end_is) ∙ get_or-append-add done new 0 nan ∙ ap (λ (o : ℕ). row_product (row_at starts cols values o) x) (sym j))
      (le_or_last i k (omega arith)))

  pub element_is : (k i from to : ℕ) (y : Float) → i < k → from ≡ get_or starts i 0 → to ≡ get_or starts (i + 1) 0
      → y ≡ row_product (entries (part cols from (to - from)) (part values from (to - from))) x → y ≡ get_or (mat_vec (first_rows starts cols values k) x) i nan
  element_is k i from to y h f t e = row_is i from to y f t e ∙ sym (mat_vec-at k i h)

  -- ---- the loop over the rows: `old` is what the product is written over

  -- the product of the first i rows, what it sums to with x, and where row i starts
  pub record Rows (old out : List Float) (i : ℕ) (sum : Float) (from : ℕ) : Type 0 where
    pub is : out ≡ splice old 0 (mat_vec (first_rows starts cols values i) x)
    pub sum_is : sum ≡ dot (take i x) (mat_vec (first_rows starts cols values i) x)
    pub from_is : from ≡ get_or starts i 0

  pub rows_none : (old : List Float) (from : ℕ) → from ≡ get_or starts 0 0 → Rows old old 0 plus_zero from
  unfolding dot dot_from
  rows_none old from e = record { is = rw (mat_vec_none, splice_nil); sum_is = refl; from_is = e }

  pub rows_step : {old out : List Float} {i from : ℕ} {sum : Float} (to : ℕ) (y : Float) → Rows old out i sum from → i < length x → to ≡ get_or starts (i + 1) 0
      → y ≡ row_product (entries (part cols from (to - from)) (part values from (to - from))) x → Rows old (set out i y) (i + 1) (sum ⊕ get_or x i nan ⊗ y) to
  rows_step {old} {out} {i} {from} {sum} to y so_far h t ey =
      let done : List Float = mat_vec (first_rows starts cols values i) x in
      let v : Float = row_product (row_at starts cols values i) x in
      let row : y ≡ v = row_is i from to y so_far.from_is t ey in
      let long : length done ≡ i = length-product starts cols values i x in
      let front : length (take i x) ≡ i = length-take-le i x (omega arith) in
      let seam : 0 + length done ≡ i = omega arith in
      let stored : set out i y ≡ splice old 0 (done ++ (v ∷ [])) = cc (so_far.is, row, splice_snoc old 0 done v, seam) in
      let summed : sum ⊕ get_or x i nan ⊗ y ≡ dot (take i x ++ (get_or x i nan ∷ [])) (done ++ (v ∷ [])) = cc (so_far.sum_is, row, dot_snoc (take i x) done (get_or x i nan) v (front ∙ sym long)) in
      record { is = rw (add-one i, mat_vec_suc) stored; sum_is = rw (add-one i, mat_vec_suc, take-suc x i nan h) summed; from_is = t }

  pub rows_done : {old out : List Float} {i k from : ℕ} {sum : Float} → Rows old out i sum from → i ≡ k → length x ≡ k → length old ≡ k
      → (out ≡ mat_vec (first_rows starts cols values k) x) × (sum ≡ dot x (mat_vec (first_rows starts cols values k) x))
  rows_done {old} {out} {i} {k} {from} {sum} so_far e long room =
      let q : List Float = mat_vec (first_rows starts cols values k) x in
      let many : length q ≡ length old = length-product starts cols values k x ∙ sym room in
      let all : take k x ≡ x = take_all k x (omega arith) in
      (rw e at so_far.is ∙ splice_all old q many, rw (e, all) at so_far.sum_is)
