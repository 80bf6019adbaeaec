-- Laws of rows laid one after the other, and of a stretch that passes through a clear buffer. Assumes nothing.
use Prim.Native.Nat.{ℕ, zero, suc, ◌+◌, ◌-◌, ◌≤◌}
use native.Mathlib.Nat.{add-zero}
use native.Mathlib.Omega.{arith}
use mathlib.Core.Path.{◌≡◌, refl, sym, ap, ◌∙◌}
use mathlib.Core.Logic.{◌⊎◌, ⊎_elim}
use mathlib.Core.List.{List, [], ◌∷◌, ◌++◌, append_assoc, append-nil}
use lib.ListN.{length, get_or, replicate, length-append, length-replicate, replicate-append-replicate}
use Rattle.stretch.specs.Stretch.{part, splice}
use Rattle.stretch.specs.StretchLaws.{part_part, part_replicate, part_splice-same, splice_part, splice_comm, splice-splice-same, splice-front-all}
use Rattle.sparse.specs.Sparse.{Entry}
use Rattle.laplace.specs.Assembly.{Push, rows}
use Rattle.laplace.specs.Matrix.{count}
use Rattle.laplace.specs.Placed.{values_in, columns_in, values_of, columns_of, starts_from, padded}
use Rattle.laplace.proofs.LawsInsert.{length_values, length_columns}

-- ---- rows laid one after the other

pub length-values_of : (rs : List (List Entry)) → length (values_of rs) ≡ count rs
unfolding values_of count
length-values_of [] = refl
length-values_of (es ∷ rs) = rw (length-append, length_values es, length-values_of rs)

pub length-columns_of : (rs : List (List Entry)) → length (columns_of rs) ≡ count rs
unfolding columns_of count
length-columns_of [] = refl
length-columns_of (es ∷ rs) = rw (length-append, length_columns es, length-columns_of rs)

pub length_starts : (c : ℕ) (rs : List (List Entry)) → length (starts_from c rs) ≡ suc (length rs)
unfolding starts_from
length_starts c [] = refl
length_starts c (es ∷ rs) = ap suc (length_starts (c + length es) rs)

pub starts_head : (c : ℕ) (rs : List (List Entry)) → get_or (starts_from c rs) 0 0 ≡ c
unfolding starts_from
starts_head c [] = refl
starts_head c (es ∷ rs) = refl

pub length-rows : (tags : List ℕ) (ps : List Push) (i : ℕ) → length (rows tags ps i) ≡ i
unfolding rows
length-rows tags ps zero = refl
length-rows tags ps (suc i) = simp length-append (omega (arith, length-rows tags ps i))

-- one row more
pub values_snoc : (rs : List (List Entry)) (es : List Entry) → values_of (rs ++ (es ∷ [])) ≡ values_of rs ++ values_in es
unfolding values_of
values_snoc [] es = append-nil (values_in es)
values_snoc (r ∷ rs) es = rw (values_snoc rs es) (sym (append_assoc (values_in r) (values_of rs) (values_in es)))

pub columns_snoc : (rs : List (List Entry)) (es : List Entry) → columns_of (rs ++ (es ∷ [])) ≡ columns_of rs ++ columns_in es
unfolding columns_of
columns_snoc [] es = append-nil (columns_in es)
columns_snoc (r ∷ rs) es = rw (columns_snoc rs es) (sym (append_assoc (columns_in r) (columns_of rs) (columns_in es)))

pub starts_snoc : (c : ℕ) (rs : List (List Entry)) (es : List Entry) → starts_from c (rs ++ (es ∷ [])) ≡ starts_from c rs ++ ((c + count rs + length es) ∷ [])
unfolding starts_from count
starts_snoc c [] es = rw add-zero
starts_snoc c (r ∷ rs) es =
    let e : c + length r + count rs + length es ≡ c + (length r + count rs) + length es = omega arith in
    ap (λ (l : List ℕ). c ∷ l) (starts_snoc (c + length r) rs es ∙ ap (λ (x : ℕ). starts_from (c + length r) rs ++ (x ∷ [])) e)

module _ {ℓ} {A : Type ℓ} where
  -- ---- a stretch written to a clear buffer, copied from there, and cleared

  apart : (l : List A) (a b : ℕ) (u v : List A) → (a + length u ≤ b) ⊎ (b + length v ≤ a) → splice (splice l a u) b v ≡ splice (splice l b v) a u
  apart l a b u v = ⊎_elim (λ (h : a + length u ≤ b). splice_comm l a b u v h) (λ (h : b + length v ≤ a). sym (splice_comm l b a v u h))

  pub clear_again : (l : List A) (at n k : ℕ) (z : A) → k ≤ n → part l at n ≡ replicate n z → splice l at (replicate k z) ≡ l
  clear_again l at n k z h e =
      let p : replicate k z ≡ part l at k =
      sym (part_replicate n z 0 k (omega arith)) ∙ ap (λ (x : List A). part x 0 k) (sym e) ∙ part_part l at n 0 k (omega arith) ∙ ap (λ (i : ℕ). part l i k) (add-zero at) in
      rw p (splice_part l at k)

  pub passed_through : (l : List A) (at n k b : ℕ) (v : List A) (z : A) → length v ≡ k → k ≤ n → at + n ≤ length l → part l at n ≡ replicate n z → (at + k ≤ b) ⊎ (b + k ≤ at)
      → splice (splice (splice l at v) b (part (splice l at v) at k)) at (replicate k z) ≡ splice l b v
  passed_through l at n k b v z e h f c d =
      let lz : length (replicate k z) ≡ k = length-replicate k z in
      let p : part (splice l at v) at k ≡ v = part_splice-same l at v k e (omega arith) in
      let dv : (at + length v ≤ b) ⊎ (b + length v ≤ at) = rw e d in
      let dz : (at + length (replicate k z) ≤ b) ⊎ (b + length v ≤ at) = rw (lz, e) d in
      rw (p, apart l at b v v dv, splice-splice-same (splice l b v) at v (replicate k z) (e ∙ sym lz), ← (apart l at b (replicate k z) v dz), clear_again l at n k z h c)

  -- ---- a list written to a clear stretch

  pub padded_on : (m : ℕ) (z : A) (v : List A) → length v ≤ m → splice (replicate m z) 0 v ≡ padded m z v
  unfolding padded
  padded_on m z v h =
      let k = length v in
      let e : k + (m - k) ≡ m = omega arith in
      let r : replicate m z ≡ replicate k z ++ replicate (m - k) z = ap (λ (x : ℕ). replicate x z) (sym e) ∙ sym (replicate-append-replicate k (m - k) z) in
      ap (λ (x : List A). splice x 0 v) r ∙ splice-front-all (replicate k z) (replicate (m - k) z) v (sym (length-replicate k z))

  pub length-padded : (m : ℕ) (z : A) (v : List A) → length v ≤ m → length (padded m z v) ≡ m
  unfolding padded
  length-padded m z v h = simp (length-append, length-replicate) (omega arith)
