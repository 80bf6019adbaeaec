-- A loop that goes up and writes one stretch of a buffer, for any type of elements: before its first turn, and a turn; and a stretch that the library replaces. s is the buffer at entry, l as it is now.
-- Assumes nothing.
use Rattle.std.specs.Prelude.{◌≡◌, refl, List, [], ◌∷◌, ◌++◌, ℕ, ◌+◌, ◌-◌, ◌≤◌, ◌<◌, length, take, drop, get_or, set, replicate}
use lib.Seq.{paste}
use Rattle.std.specs.List.{FoldsTo}
use Rattle.std.proofs.Common.{sym, ap, subst, ◌∙◌, add-one, append_assoc, arith}
use Rattle.std.proofs.lemmas.List.{length-replicate, replicate-append-replicate}
use Rattle.std.proofs.Math.Seq.{drop-drop}
use Rattle.stretch.specs.Stretch.{part, splice, Copies}
use Rattle.stretch.specs.StretchLaws.{length_part, part_zero, part_suc, splice_nil, splice_snoc, splice_is, get_or-splice-ahead}

module _ {ℓ} {A : Type ℓ} where
  -- any such loop: `new` is what it has written
  pub write_none : (s : List A) (at : ℕ) → s ≡ splice s at []
  write_none s at = sym (splice_nil s at)

  pub write_step : (s l : List A) (at i : ℕ) (new : List A) (v : A) → length new ≡ i → l ≡ splice s at new → set l (at + i) v ≡ splice s at (new ++ (v ∷ []))
  write_step s l at i new v e p = rw (p, ← e) (sym (splice_snoc s at new v))

  -- one value over and over
  pub fill_step : (s l : List A) (at i : ℕ) (v : A) → l ≡ splice s at (replicate i v) → set l (at + i) v ≡ splice s at (replicate (i + 1) v)
  fill_step s l at i v p =
      write_step s l at i (replicate i v) v (length-replicate i v) p ∙ ap (λ (r : List A). splice s at r) (replicate-append-replicate i 1 v)

  -- a stretch of the same buffer; d is what a read past the end gives
  pub copy_none : (s : List A) (src at : ℕ) → s ≡ splice s at (part s src 0)
  copy_none s src at = rw part_zero (write_none s at)

  pub copy_step : (s l : List A) (src at n i : ℕ) (d : A) → Copies (length s) src at n → i < n → l ≡ splice s at (part s src i)
      → set l (at + i) (get_or l (src + i) d) ≡ splice s at (part s src (i + 1))
  copy_step s l src at n i d c h p =
      let e : length (part s src i) ≡ i = length_part s src i (omega arith) in
      let f : src + i < length s = omega arith in
      let g : get_or l (src + i) d ≡ get_or s (src + i) d =
      ap (λ (r : List A). get_or r (src + i) d) p ∙ get_or-splice-ahead s at (part s src i) src n i d e h c.read in
      rw (g, add-one, part_suc s src i d) (write_step s l at i (part s src i) (get_or s (src + i) d) e p)

  -- ---- a stretch that the library replaces

  -- what stands before a stretch, the stretch as it is replaced, and what stands after it
  pub replaced_is : (s : List A) (at n : ℕ) (new : List A) → length new ≡ n → at + n ≤ length s → (take at s ++ new) ++ drop (at + n) s ≡ splice s at new
  replaced_is s at n new e h = append_assoc (take at s) new (drop (at + n) s) ∙ sym (splice_is s new at n e h)

  -- the elements from src up to `end`, as std's `copy_within` leaves them from `at` on
  pub pasted_is : (s : List A) (src end at n : ℕ) → end ≡ src + n → end ≤ length s → at + n ≤ length s → paste s at (drop src s) (end - src) ≡ splice s at (part s src n)
  unfolding part
  pasted_is s src end at n e h k =
      let d : end - src ≡ n = omega arith in
      rw d (replaced_is s at n (part s src n) (length_part s src n (omega arith)) k)

  -- a stretch up to `end` that is v over and over
  pub filled_is : (s p : List A) (at end n : ℕ) (v : A) → end ≡ at + n → end ≤ length s → p ≡ replicate n v → take at s ++ (p ++ drop (end - at) (drop at s)) ≡ splice s at (replicate n v)
  filled_is s p at end n v d h e =
      let m : end - at ≡ n = omega arith in
      rw (e, m, drop-drop) (sym (splice_is s (replicate n v) at n (length-replicate n v) (omega arith)))

-- what a chain of calls gave that each give v and leave what they are called on as it was
pub chained_is : {P A : Type 0} (R : P → A → P → Type 0) (f : P) (v : A) → ((x : A) (j : P) → R f x j → (x ≡ v) × (j ≡ f)) → (xs : List A) (last : P) → FoldsTo R f xs last → xs ≡ replicate (length xs) v
chained_is R f v h [] last d = refl
chained_is R f v h (x ∷ xs) last d =
    let t = h x d.0 d.1 in
    let rest : FoldsTo R f xs last = subst (λ j. FoldsTo R j xs last) t.1 d.2 in
    rw t.0 (ap (λ (ys : List _). v ∷ ys) (chained_is R f v h xs last rest))
