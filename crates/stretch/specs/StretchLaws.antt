-- Laws of `part` and `splice`, for any type of elements. `splice` never changes the length, so most of its laws have no side condition.
-- In order: parts; splices, of what they are made, and of their elements; a splice under take, drop and ++; a part of a splice; a splice of a splice; stores; writes.
-- Assumes nothing.
use Rattle.std.specs.Prelude.{◌≡◌, ◌⊎◌, get_or, set, replicate}
use Rattle.std.proofs.Math.Path.{refl, sym, ap}
use Rattle.std.proofs.Common.{◌∙◌, inl, inr, ⊎_elim, add-zero, length-take, take-suc, drop-cons, get_or-take, get_or-drop, take-add}
use mathlib.Core.List.{List, [], ◌∷◌, ◌++◌}
use Prim.Native.Nat.{ℕ, zero, suc, ◌+◌, ◌-◌, ◌≤◌, ◌<◌}
use Rattle.std.proofs.Math.Nat.{zero-add, suc-add}
use native.Mathlib.Omega.{arith}
use Rattle.std.proofs.Math.ListN.{length, take, drop, length-drop, take-append-drop}
use Rattle.std.proofs.Math.Seq.{take-take, drop-drop, take_all, take-append-le, drop-append-add}
use Rattle.std.proofs.lemmas.List.{drop-append-le}
use Rattle.stretch.specs.Stretch.{part, splice, Wrote, Readable}

le_or_lt : (m n : ℕ) → (m ≤ n) ⊎ (n < m)
le_or_lt zero n = inl (omega arith)
le_or_lt (suc m) zero = inr (omega arith)
le_or_lt (suc m) (suc n) = ⊎_elim (λ h. inl (omega arith)) (λ h. inr (omega arith)) (le_or_lt m n)

module _ {ℓ} {A : Type ℓ} where
  -- ---- part

  pub length_part : (l : List A) (at n : ℕ) → at + n ≤ length l → length (part l at n) ≡ n
  unfolding part
  length_part l at n h = simp (length-take, length-drop) (omega arith)

  pub part_zero : (l : List A) (at : ℕ) → part l at 0 ≡ []
  unfolding part
  part_zero l at = refl

  pub part_all : (l : List A) (n : ℕ) → length l ≤ n → part l 0 n ≡ l
  unfolding part
  part_all l n h = take_all n l h

  -- a part from the start on, as a call is lent the front of a buffer
  pub part_take : (l : List A) (n : ℕ) → part l 0 n ≡ take n l
  unfolding part
  part_take l n = refl

  -- what `&l[at..end]` lends
  pub part_lent : (l : List A) (at end n : ℕ) → end ≡ at + n → take (end - at) (drop at l) ≡ part l at n
  unfolding part
  part_lent l at end n h = let e : end - at ≡ n = omega arith in rw e

  pub get_d_part : (l : List A) (at n i : ℕ) (d : A) → i < n → get_or (part l at n) i d ≡ get_or l (at + i) d
  unfolding part
  get_d_part l at n i d h = rw (get_or-take, get_or-drop)

  -- one element more, at its end and at its start
  pub part_suc : (l : List A) (at n : ℕ) (d : A) → at + n < length l → part l at (suc n) ≡ part l at n ++ (get_or l (at + n) d ∷ [])
  unfolding part
  part_suc l at n d h =
      let k : n < length (drop at l) = simp length-drop (omega arith) in
      rw (take-suc (drop at l) n d k, get_or-drop)

  pub part_cons : (l : List A) (at n : ℕ) (d : A) → at < length l → part l at (suc n) ≡ get_or l at d ∷ part l (suc at) n
  unfolding part
  part_cons l at n d h = rw (drop-cons l at d h)

  pub part_add : (l : List A) (at n m : ℕ) → part l at (n + m) ≡ part l at n ++ part l (at + n) m
  unfolding part
  part_add l at n m = rw (take-add n m (drop at l), drop-drop)

  -- a part of a front, of a rest, of a part
  pub part_of_take : (l : List A) (n at m : ℕ) → at + m ≤ n → part (take n l) at m ≡ part l at m
  unfolding part
  part_of_take l n zero m h = take-take m n l (omega arith)
  part_of_take l zero (suc at) m h = absurd (omega arith)
  part_of_take [] (suc n) (suc at) m h = refl
  part_of_take (x ∷ xs) (suc n) (suc at) m h = part_of_take xs n at m (omega arith)

  pub part_of_drop : (l : List A) (k at m : ℕ) → part (drop k l) at m ≡ part l (k + at) m
  unfolding part
  part_of_drop l k at m = rw drop-drop

  pub part_part : (l : List A) (a n at m : ℕ) → at + m ≤ n → part (part l a n) at m ≡ part l (a + at) m
  unfolding part
  part_part l a n at m h = part_of_take (drop a l) n at m h ∙ part_of_drop l a at m

  -- before and after a seam
  pub part_front : (l t : List A) (at n : ℕ) → at + n ≤ length l → part (l ++ t) at n ≡ part l at n
  unfolding part
  part_front l t at n h =
      let k : n ≤ length (drop at l) = simp length-drop (omega arith) in
      let j : at ≤ length l = omega arith in
      rw (drop-append-le at l t j, take-append-le n (drop at l) t k)

  pub part_rest : (l t : List A) (o n : ℕ) → part (l ++ t) (length l + o) n ≡ part t o n
  unfolding part
  part_rest l t o n = rw drop-append-add

  pub part_replicate : (k : ℕ) (v : A) (at n : ℕ) → at + n ≤ k → part (replicate k v) at n ≡ replicate n v
  unfolding part
  part_replicate k v zero zero h = refl
  part_replicate zero v zero (suc n) h = absurd (omega arith)
  part_replicate (suc k) v zero (suc n) h = ap (λ (r : List A). v ∷ r) (part_replicate k v zero n (omega arith))
  part_replicate zero v (suc at) n h = absurd (omega arith)
  part_replicate (suc k) v (suc at) n h = part_replicate k v at n (omega arith)

  -- ---- splice

  pub length-splice : (l : List A) (at : ℕ) (new : List A) → length (splice l at new) ≡ length l
  unfolding splice
  length-splice [] at new = refl
  length-splice (x ∷ xs) zero [] = refl
  length-splice (x ∷ xs) zero (y ∷ ys) = ap suc (length-splice xs zero ys)
  length-splice (x ∷ xs) (suc at) new = ap suc (length-splice xs at new)

  pub splice_nil : (l : List A) (at : ℕ) → splice l at [] ≡ l
  unfolding splice
  splice_nil [] at = refl
  splice_nil (x ∷ xs) zero = refl
  splice_nil (x ∷ xs) (suc at) = ap (λ (r : List A). x ∷ r) (splice_nil xs at)

  -- a splice of one element is a store
  pub splice-one : (l : List A) (at : ℕ) (v : A) → splice l at (v ∷ []) ≡ set l at v
  unfolding splice
  splice-one [] at v = refl
  splice-one (x ∷ xs) zero v = ap (λ (r : List A). v ∷ r) (splice_nil xs zero)
  splice-one (x ∷ xs) (suc at) v = ap (λ (r : List A). x ∷ r) (splice-one xs at v)

  -- two stretches in a row
  pub splice-append : (l : List A) (at : ℕ) (a b : List A) → splice l at (a ++ b) ≡ splice (splice l at a) (at + length a) b
  unfolding splice
  splice-append [] at a b = refl
  splice-append (x ∷ xs) zero [] b = refl
  splice-append (x ∷ xs) zero (y ∷ ys) b = rw (zero-add, splice-append xs zero ys b, zero-add)
  splice-append (x ∷ xs) (suc at) a b = rw (suc-add, splice-append xs at a b)

  -- one element more: a store right after the stretch, or right before it
  pub splice_snoc : (l : List A) (at : ℕ) (new : List A) (v : A) → splice l at (new ++ (v ∷ [])) ≡ set (splice l at new) (at + length new) v
  splice_snoc l at new v = splice-append l at new (v ∷ []) ∙ splice-one (splice l at new) (at + length new) v

  pub splice_cons : (l : List A) (at : ℕ) (v : A) (new : List A) → splice l at (v ∷ new) ≡ set (splice l (suc at) new) at v
  unfolding splice
  splice_cons [] at v new = refl
  splice_cons (x ∷ xs) zero v new = refl
  splice_cons (x ∷ xs) (suc at) v new = ap (λ (r : List A). x ∷ r) (splice_cons xs at v new)

  -- where the stretch fits: what stands before it, the new stretch, and what stands after it
  pub splice_is : (l new : List A) (at n : ℕ) → length new ≡ n → at + n ≤ length l → splice l at new ≡ take at l ++ (new ++ drop (at + n) l)
  unfolding splice
  splice_is l [] zero zero e h = splice_nil l zero
  splice_is l [] zero (suc n) e h = absurd (omega arith)
  splice_is l (y ∷ ys) zero zero e h = absurd (omega arith)
  splice_is [] (y ∷ ys) zero (suc n) e h = absurd (omega arith)
  splice_is (x ∷ xs) (y ∷ ys) zero (suc n) e h =
      rw (zero-add, splice_is xs ys zero n (omega arith) (omega arith), zero-add)
  splice_is [] new (suc at) n e h = absurd (omega arith)
  splice_is (x ∷ xs) new (suc at) n e h = rw (suc-add, splice_is xs new at n e (omega arith))

  -- the whole list, and a front of it, replaced
  pub splice-front-all : (l t new : List A) → length new ≡ length l → splice (l ++ t) 0 new ≡ new ++ t
  unfolding splice
  splice-front-all [] t [] e = splice_nil t 0
  splice-front-all [] t (y ∷ ys) e = absurd (omega arith)
  splice-front-all (x ∷ xs) t [] e = absurd (omega arith)
  splice-front-all (x ∷ xs) t (y ∷ ys) e = ap (λ (r : List A). y ∷ r) (splice-front-all xs t ys (omega arith))

  pub splice_all : (l new : List A) → length new ≡ length l → splice l 0 new ≡ new
  unfolding splice
  splice_all [] [] e = refl
  splice_all [] (y ∷ ys) e = absurd (omega arith)
  splice_all (x ∷ xs) [] e = absurd (omega arith)
  splice_all (x ∷ xs) (y ∷ ys) e = ap (λ (r : List A). y ∷ r) (splice_all xs ys (omega arith))

  -- putting back what is there changes nothing
  pub splice_part : (l : List A) (at n : ℕ) → splice l at (part l at n) ≡ l
  unfolding splice part
  splice_part [] at n = refl
  splice_part (x ∷ xs) zero zero = refl
  splice_part (x ∷ xs) zero (suc n) = ap (λ (r : List A). x ∷ r) (splice_part xs zero n)
  splice_part (x ∷ xs) (suc at) n = ap (λ (r : List A). x ∷ r) (splice_part xs at n)

  -- ---- an element of a splice

  pub get_or-splice-before : (l : List A) (at : ℕ) (new : List A) (k : ℕ) (d : A) → k < at → get_or (splice l at new) k d ≡ get_or l k d
  unfolding splice
  get_or-splice-before [] at new k d h = refl
  get_or-splice-before (x ∷ xs) zero new k d h = absurd (omega arith)
  get_or-splice-before (x ∷ xs) (suc at) new zero d h = refl
  get_or-splice-before (x ∷ xs) (suc at) new (suc k) d h = get_or-splice-before xs at new k d (omega arith)

  pub get_or-splice-after : (l : List A) (at : ℕ) (new : List A) (k : ℕ) (d : A) → at + length new ≤ k → get_or (splice l at new) k d ≡ get_or l k d
  unfolding splice
  get_or-splice-after [] at new k d h = refl
  get_or-splice-after (x ∷ xs) zero [] k d h = refl
  get_or-splice-after (x ∷ xs) zero (y ∷ ys) zero d h = absurd (omega arith)
  get_or-splice-after (x ∷ xs) zero (y ∷ ys) (suc k) d h = get_or-splice-after xs zero ys k d (omega arith)
  get_or-splice-after (x ∷ xs) (suc at) new zero d h = refl
  get_or-splice-after (x ∷ xs) (suc at) new (suc k) d h = get_or-splice-after xs at new k d (omega arith)

  pub get_or-splice-at : (l : List A) (at : ℕ) (new : List A) (i : ℕ) (d : A) → i < length new → at + i < length l → get_or (splice l at new) (at + i) d ≡ get_or new i d
  unfolding splice
  get_or-splice-at [] at new i d h k = absurd (omega arith)
  get_or-splice-at (x ∷ xs) zero [] i d h k = absurd (omega arith)
  get_or-splice-at (x ∷ xs) zero (y ∷ ys) zero d h k = refl
  get_or-splice-at (x ∷ xs) zero (y ∷ ys) (suc i) d h k = rw zero-add (rw zero-add at (get_or-splice-at xs zero ys i d (omega arith) (omega arith)))
  get_or-splice-at (x ∷ xs) (suc at) new i d h k = rw suc-add (get_or-splice-at xs at new i d h (omega arith))

  -- an element ahead of, or apart from, a stretch that is written as far as `new` goes
  pub get_or-splice-ahead : (l : List A) (at : ℕ) (new : List A) (u n i : ℕ) (d : A) → length new ≡ i → i < n → Readable at u n → get_or (splice l at new) (u + i) d ≡ get_or l (u + i) d
  get_or-splice-ahead l at new u n i d e h r =
      ⊎_elim (λ k. get_or-splice-after l at new (u + i) d (omega arith)) (λ k. let b : u + n ≤ at = r k in get_or-splice-before l at new (u + i) d (omega arith)) (le_or_lt at u)

  -- ---- a splice under take, drop and ++

  pub take-splice : (l : List A) (at : ℕ) (new : List A) (n : ℕ) → take n (splice l at new) ≡ splice (take n l) at new
  unfolding splice
  take-splice l at new zero = refl
  take-splice [] at new (suc n) = refl
  take-splice (x ∷ xs) zero [] (suc n) = refl
  take-splice (x ∷ xs) zero (y ∷ ys) (suc n) = ap (λ (r : List A). y ∷ r) (take-splice xs zero ys n)
  take-splice (x ∷ xs) (suc at) new (suc n) = ap (λ (r : List A). x ∷ r) (take-splice xs at new n)

  pub take-splice-before : (l : List A) (at : ℕ) (new : List A) (n : ℕ) → n ≤ at → take n (splice l at new) ≡ take n l
  unfolding splice
  take-splice-before l at new zero h = refl
  take-splice-before [] at new (suc n) h = refl
  take-splice-before (x ∷ xs) zero new (suc n) h = absurd (omega arith)
  take-splice-before (x ∷ xs) (suc at) new (suc n) h = ap (λ (r : List A). x ∷ r) (take-splice-before xs at new n (omega arith))

  -- up to the end of the stretch
  pub take-splice_to : (l : List A) (at : ℕ) (new : List A) (n : ℕ) → length new ≡ n → at + n ≤ length l → take (at + n) (splice l at new) ≡ take at l ++ new
  unfolding splice
  take-splice_to l zero [] zero e h = refl
  take-splice_to l zero [] (suc n) e h = absurd (omega arith)
  take-splice_to l zero (y ∷ ys) zero e h = absurd (omega arith)
  take-splice_to [] zero (y ∷ ys) (suc n) e h = absurd (omega arith)
  take-splice_to (x ∷ xs) zero (y ∷ ys) (suc n) e h =
      rw zero-add (ap (λ (r : List A). y ∷ r) (rw zero-add at (take-splice_to xs zero ys n (omega arith) (omega arith))))
  take-splice_to [] (suc at) new n e h = absurd (omega arith)
  take-splice_to (x ∷ xs) (suc at) new n e h = rw suc-add (ap (λ (r : List A). x ∷ r) (take-splice_to xs at new n e (omega arith)))

  pub drop-splice : (l : List A) (k o : ℕ) (new : List A) → drop k (splice l (k + o) new) ≡ splice (drop k l) o new
  unfolding splice
  drop-splice l zero o new = rw zero-add
  drop-splice [] (suc k) o new = refl
  drop-splice (x ∷ xs) (suc k) o new = rw suc-add (drop-splice xs k o new)

  pub drop-splice-after : (l : List A) (at : ℕ) (new : List A) (k : ℕ) → at + length new ≤ k → drop k (splice l at new) ≡ drop k l
  unfolding splice
  drop-splice-after [] at new k h = refl
  drop-splice-after (x ∷ xs) zero [] k h = refl
  drop-splice-after (x ∷ xs) zero (y ∷ ys) zero h = absurd (omega arith)
  drop-splice-after (x ∷ xs) zero (y ∷ ys) (suc k) h = drop-splice-after xs zero ys k (omega arith)
  drop-splice-after (x ∷ xs) (suc at) new zero h = absurd (omega arith)
  drop-splice-after (x ∷ xs) (suc at) new (suc k) h = drop-splice-after xs at new k (omega arith)

  -- before and after a seam: what a call does to the front that it is lent, it does to the buffer
  pub splice_front : (l t : List A) (at : ℕ) (new : List A) → at + length new ≤ length l → splice (l ++ t) at new ≡ splice l at new ++ t
  unfolding splice
  splice_front [] t zero [] h = splice_nil t zero
  splice_front [] t zero (y ∷ ys) h = absurd (omega arith)
  splice_front [] t (suc at) new h = absurd (omega arith)
  splice_front (x ∷ xs) t zero [] h = refl
  splice_front (x ∷ xs) t zero (y ∷ ys) h = ap (λ (r : List A). y ∷ r) (splice_front xs t zero ys (omega arith))
  splice_front (x ∷ xs) t (suc at) new h = ap (λ (r : List A). x ∷ r) (splice_front xs t at new (omega arith))

  pub splice_rest : (l t : List A) (o : ℕ) (new : List A) → splice (l ++ t) (length l + o) new ≡ l ++ splice t o new
  unfolding splice
  splice_rest [] t o new = rw zero-add
  splice_rest (x ∷ xs) t o new = rw (suc-add, splice_rest xs t o new)

  -- ---- a part of a splice

  pub part_splice-before : (l : List A) (at : ℕ) (new : List A) (b n : ℕ) → b + n ≤ at → part (splice l at new) b n ≡ part l b n
  unfolding part splice
  part_splice-before l at new zero n h = take-splice-before l at new n (omega arith)
  part_splice-before [] at new (suc b) n h = refl
  part_splice-before (x ∷ xs) zero new (suc b) n h = absurd (omega arith)
  part_splice-before (x ∷ xs) (suc at) new (suc b) n h = part_splice-before xs at new b n (omega arith)

  pub part_splice-after : (l : List A) (at : ℕ) (new : List A) (b n : ℕ) → at + length new ≤ b → part (splice l at new) b n ≡ part l b n
  unfolding part
  part_splice-after l at new b n h = ap (λ (r : List A). take n r) (drop-splice-after l at new b h)

  -- around the stretch
  pub part_splice_around : (l : List A) (b o n : ℕ) (new : List A) → part (splice l (b + o) new) b n ≡ splice (part l b n) o new
  unfolding part
  part_splice_around l b o n new = rw drop-splice (take-splice (drop b l) o new n)

  -- the stretch itself, and a part of it
  pub part_splice-same : (l : List A) (at : ℕ) (new : List A) (n : ℕ) → length new ≡ n → at + n ≤ length l → part (splice l at new) at n ≡ new
  part_splice-same l at new n e h =
      let k : length (part l at n) ≡ n = length_part l at n h in
      rw add-zero at (part_splice_around l at 0 n new) ∙ splice_all (part l at n) new (omega arith)

  pub part_splice_in : (l : List A) (at : ℕ) (new : List A) (j m : ℕ) → j + m ≤ length new → at + length new ≤ length l → part (splice l at new) (at + j) m ≡ part new j m
  part_splice_in l at new j m h k =
      sym (part_part (splice l at new) at (length new) j m h) ∙ ap (λ (r : List A). part r j m) (part_splice-same l at new (length new) refl k)

  -- ---- a splice of a splice

  -- a later write that covers an earlier one
  pub splice-splice-over : (l : List A) (at b : ℕ) (a v : List A) → b ≤ at → at + length a ≤ b + length v → splice (splice l at a) b v ≡ splice l b v
  unfolding splice
  splice-splice-over [] at b a v h k = refl
  splice-splice-over (x ∷ xs) zero zero [] v h k = refl
  splice-splice-over (x ∷ xs) zero zero (y ∷ ys) [] h k = absurd (omega arith)
  splice-splice-over (x ∷ xs) zero zero (y ∷ ys) (z ∷ zs) h k = ap (λ (r : List A). z ∷ r) (splice-splice-over xs zero zero ys zs h (omega arith))
  splice-splice-over (x ∷ xs) (suc at) zero a [] h k = absurd (omega arith)
  splice-splice-over (x ∷ xs) (suc at) zero a (z ∷ zs) h k = ap (λ (r : List A). z ∷ r) (splice-splice-over xs at zero a zs (omega arith) (omega arith))
  splice-splice-over (x ∷ xs) zero (suc b) a v h k = absurd (omega arith)
  splice-splice-over (x ∷ xs) (suc at) (suc b) a v h k = ap (λ (r : List A). x ∷ r) (splice-splice-over xs at b a v (omega arith) (omega arith))

  -- the same stretch written twice: the second write stands
  pub splice-splice-same : (l : List A) (at : ℕ) (a b : List A) → length a ≡ length b → splice (splice l at a) at b ≡ splice l at b
  splice-splice-same l at a b e = splice-splice-over l at at a b (omega arith) (omega arith)

  -- a later write within an earlier one
  pub splice-splice_in : (l : List A) (at : ℕ) (a : List A) (j : ℕ) (b : List A) → j + length b ≤ length a → splice (splice l at a) (at + j) b ≡ splice l at (splice a j b)
  unfolding splice
  splice-splice_in [] at a j b h = refl
  splice-splice_in (x ∷ xs) zero [] zero [] h = refl
  splice-splice_in (x ∷ xs) zero [] zero (z ∷ zs) h = absurd (omega arith)
  splice-splice_in (x ∷ xs) zero [] (suc j) b h = absurd (omega arith)
  splice-splice_in (x ∷ xs) zero (y ∷ ys) zero [] h = refl
  splice-splice_in (x ∷ xs) zero (y ∷ ys) zero (z ∷ zs) h = ap (λ (r : List A). z ∷ r) (splice-splice_in xs zero ys zero zs (omega arith))
  splice-splice_in (x ∷ xs) zero (y ∷ ys) (suc j) b h =
      rw zero-add (ap (λ (r : List A). y ∷ r) (rw zero-add at (splice-splice_in xs zero ys j b (omega arith))))
  splice-splice_in (x ∷ xs) (suc at) a j b h = rw (suc-add, splice-splice_in xs at a j b h)

  -- stretches that are apart may be written in either order
  pub splice_comm : (l : List A) (a b : ℕ) (u v : List A) → a + length u ≤ b → splice (splice l a u) b v ≡ splice (splice l b v) a u
  unfolding splice
  splice_comm [] a b u v h = refl
  splice_comm (x ∷ xs) zero b [] v h = simp splice_nil
  splice_comm (x ∷ xs) zero zero (y ∷ ys) v h = absurd (omega arith)
  splice_comm (x ∷ xs) zero (suc b) (y ∷ ys) v h = ap (λ (r : List A). y ∷ r) (splice_comm xs zero b ys v (omega arith))
  splice_comm (x ∷ xs) (suc a) zero u v h = absurd (omega arith)
  splice_comm (x ∷ xs) (suc a) (suc b) u v h = ap (λ (r : List A). x ∷ r) (splice_comm xs a b u v (omega arith))

  -- ---- a store before, after and within a stretch that was written, and a part after a store

  pub set-splice-before : (l : List A) (at : ℕ) (new : List A) (i : ℕ) (v : A) → i < at → set (splice l at new) i v ≡ splice (set l i v) at new
  set-splice-before l at new i v h =
      sym (splice-one (splice l at new) i v) ∙ sym (splice_comm l i at (v ∷ []) new (omega arith)) ∙ ap (λ (r : List A). splice r at new) (splice-one l i v)

  pub set-splice-after : (l : List A) (at : ℕ) (new : List A) (i : ℕ) (v : A) → at + length new ≤ i → set (splice l at new) i v ≡ splice (set l i v) at new
  set-splice-after l at new i v h =
      sym (splice-one (splice l at new) i v) ∙ splice_comm l at i new (v ∷ []) h ∙ ap (λ (r : List A). splice r at new) (splice-one l i v)

  pub set-splice_in : (l : List A) (at : ℕ) (new : List A) (j : ℕ) (v : A) → j < length new → set (splice l at new) (at + j) v ≡ splice l at (set new j v)
  set-splice_in l at new j v h =
      sym (splice-one (splice l at new) (at + j) v) ∙ splice-splice_in l at new j (v ∷ []) (omega arith) ∙ ap (λ (r : List A). splice l at r) (splice-one new j v)

  pub part_set-before : (l : List A) (i : ℕ) (v : A) (b n : ℕ) → b + n ≤ i → part (set l i v) b n ≡ part l b n
  part_set-before l i v b n h = rw (← (splice-one l i v)) (part_splice-before l i (v ∷ []) b n h)

  pub part_set-after : (l : List A) (i : ℕ) (v : A) (b n : ℕ) → i < b → part (set l i v) b n ≡ part l b n
  part_set-after l i v b n h = rw (← (splice-one l i v)) (part_splice-after l i (v ∷ []) b n (omega arith))

  pub part_set_in : (l : List A) (b j n : ℕ) (v : A) → part (set l (b + j) v) b n ≡ set (part l b n) j v
  part_set_in l b j n v = rw (← (splice-one l (b + j) v)) (part_splice_around l b j n (v ∷ []) ∙ splice-one (part l b n) j v)

  -- what is a value over and over stays so where that value is written
  pub splice-replicate : (k : ℕ) (v : A) (at n : ℕ) → splice (replicate k v) at (replicate n v) ≡ replicate k v
  unfolding splice
  splice-replicate zero v at n = refl
  splice-replicate (suc k) v zero zero = refl
  splice-replicate (suc k) v zero (suc n) = ap (λ (r : List A). v ∷ r) (splice-replicate k v zero n)
  splice-replicate (suc k) v (suc at) n = ap (λ (r : List A). v ∷ r) (splice-replicate k v at n)

  -- two lists are equal by three parts: before a stretch, the stretch, after it
  pub ext_parts : (l s : List A) (at n : ℕ) → take at l ≡ take at s → part l at n ≡ part s at n → drop (at + n) l ≡ drop (at + n) s → l ≡ s
  unfolding part
  ext_parts l s at n a b c =
      let d : drop at l ≡ drop at s = sym (take-append-drop n (drop at l)) ∙ cc (b, c, drop-drop n at l, drop-drop n at s) ∙ take-append-drop n (drop at s) in
      sym (take-append-drop at l) ∙ cc (a, d) ∙ take-append-drop at s

  -- ---- a write

  pub got : {l l' new : List A} {at n : ℕ} → Wrote l l' at n new → part l' at n ≡ new
  got {l} {l'} {new} {at} {n} w = rw w.is (part_splice-same l at new n w.long w.fits)

  pub kept_before : {l l' new : List A} {at n : ℕ} → Wrote l l' at n new → (b k : ℕ) → b + k ≤ at → part l' b k ≡ part l b k
  kept_before {l} {l'} {new} {at} w b k h = rw w.is (part_splice-before l at new b k h)

  pub kept_after : {l l' new : List A} {at n : ℕ} → Wrote l l' at n new → (b k : ℕ) → at + n ≤ b → part l' b k ≡ part l b k
  kept_after {l} {l'} {new} {at} w b k h = rw w.is (part_splice-after l at new b k (omega arith))

  pub as_long : {l l' new : List A} {at n : ℕ} → Wrote l l' at n new → length l' ≡ length l
  as_long {l} {l'} {new} {at} w = rw w.is (length-splice l at new)
