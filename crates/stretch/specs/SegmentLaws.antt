-- Laws of a list that is several segments in a row: a read, a write or a store at a segment is one of that segment, and the other segments stay.
-- Each law takes the place as a number with the equation that says which segment it is in.
-- Assumes nothing.
use Rattle.std.specs.Prelude.{◌≡◌, take, get_or, set}
use Rattle.std.proofs.Math.Path.{refl, ap}
use Rattle.std.proofs.Common.{sym, ◌∙◌, get_or-append-add, drop-drop}
use mathlib.Core.List.{List, [], ◌∷◌, ◌++◌, append_assoc, append-nil}
use Prim.Native.Nat.{ℕ, zero, suc, ◌+◌, ◌≤◌, ◌<◌}
use Rattle.std.proofs.Math.Nat.{zero-add, add-zero, add_assoc}
use native.Mathlib.Omega.{arith}
use Rattle.std.proofs.Math.ListN.{length, drop, length-append, take-append-drop, get_or-append}
use Rattle.stretch.specs.Stretch.{part, splice, flat, off}
use Rattle.stretch.specs.StretchLaws.{part_all, part_front, part_rest, splice_all, splice-one, splice_is, splice_front, splice-front-all, splice_rest}

module _ {ℓ} {A : Type ℓ} where
  -- ---- the row of segments

  pub flat_append : (ss ts : List (List A)) → flat (ss ++ ts) ≡ flat ss ++ flat ts
  unfolding flat
  flat_append [] ts = refl
  flat_append (s ∷ ss) ts = rw (flat_append ss ts) (sym (append_assoc s (flat ss) (flat ts)))

  -- with the places behind them as a last segment
  pub flat_snoc : (ss : List (List A)) (s : List A) → flat (ss ++ (s ∷ [])) ≡ flat ss ++ s
  unfolding flat
  flat_snoc ss s = rw (flat_append, append-nil)

  pub length-flat : (ss : List (List A)) → length (flat ss) ≡ off ss (length ss)
  unfolding flat off
  length-flat [] = refl
  length-flat (s ∷ ss) = rw (length-append, length-flat ss)

  pub off_suc : (ss : List (List A)) (i : ℕ) → off ss (suc i) ≡ off ss i + length (get_or ss i [])
  unfolding off
  off_suc [] zero = rw add-zero
  off_suc [] (suc i) = rw add-zero
  off_suc (s ∷ ss) zero = rw (add-zero, zero-add)
  off_suc (s ∷ ss) (suc i) = rw (off_suc ss i, add_assoc)

  -- a segment starts behind those before it
  pub off_take : (ss : List (List A)) (i : ℕ) → off ss i ≡ length (flat (take i ss))
  unfolding flat off
  off_take ss zero = refl
  off_take [] (suc i) = refl
  off_take (s ∷ ss) (suc i) = rw (length-append, off_take ss i)

  -- a segment that is replaced by one as long moves no other
  pub off_set : (ss : List (List A)) (i : ℕ) (s : List A) (k : ℕ) → length s ≡ length (get_or ss i []) → off (set ss i s) k ≡ off ss k
  unfolding off
  off_set [] i s k e = refl
  off_set (x ∷ xs) i s zero e = refl
  off_set (x ∷ xs) zero s (suc k) e = rw e
  off_set (x ∷ xs) (suc i) s (suc k) e = rw (off_set xs i s k e)

  pub seg_fits : (ss : List (List A)) (i : ℕ) → off ss i + length (get_or ss i []) ≤ length (flat ss)
  unfolding flat off
  seg_fits [] zero = omega arith
  seg_fits [] (suc i) = omega arith
  seg_fits (s ∷ ss) zero = rw length-append (omega arith)
  seg_fits (s ∷ ss) (suc i) = let h : off ss i + length (get_or ss i []) ≤ length (flat ss) = seg_fits ss i in rw length-append (omega arith)

  -- ---- within a segment

  part_off : (ss : List (List A)) (i j n : ℕ) → i < length ss → j + n ≤ length (get_or ss i []) → part (flat ss) (off ss i + j) n ≡ part (get_or ss i []) j n
  unfolding flat off
  part_off [] i j n h k = absurd (omega arith)
  part_off (s ∷ ss) zero j n h k = rw zero-add (part_front s (flat ss) j n k)
  part_off (s ∷ ss) (suc i) j n h k = rw add_assoc (part_rest s (flat ss) (off ss i + j) n ∙ part_off ss i j n (omega arith) k)

  pub part_within : (ss : List (List A)) (i j at n : ℕ) → at ≡ off ss i + j → i < length ss → j + n ≤ length (get_or ss i []) → part (flat ss) at n ≡ part (get_or ss i []) j n
  part_within ss i j at n p h k = rw p (part_off ss i j n h k)

  splice_off : (ss : List (List A)) (i j : ℕ) (new : List A) → i < length ss → j + length new ≤ length (get_or ss i [])
      → splice (flat ss) (off ss i + j) new ≡ flat (set ss i (splice (get_or ss i []) j new))
  unfolding flat off
  splice_off [] i j new h k = absurd (omega arith)
  splice_off (s ∷ ss) zero j new h k = rw zero-add (splice_front s (flat ss) j new k)
  splice_off (s ∷ ss) (suc i) j new h k =
      rw add_assoc (splice_rest s (flat ss) (off ss i + j) new ∙ ap (λ (r : List A). s ++ r) (splice_off ss i j new (omega arith) k))

  pub splice-within : (ss : List (List A)) (i j at : ℕ) (new : List A) → at ≡ off ss i + j → i < length ss → j + length new ≤ length (get_or ss i [])
      → splice (flat ss) at new ≡ flat (set ss i (splice (get_or ss i []) j new))
  splice-within ss i j at new p h k = rw p (splice_off ss i j new h k)

  get_or_off : (ss : List (List A)) (i j : ℕ) (d : A) → i < length ss → j < length (get_or ss i []) → get_or (flat ss) (off ss i + j) d ≡ get_or (get_or ss i []) j d
  unfolding flat off
  get_or_off [] i j d h k = absurd (omega arith)
  get_or_off (s ∷ ss) zero j d h k = rw zero-add (get_or-append s (flat ss) d j k)
  get_or_off (s ∷ ss) (suc i) j d h k = rw add_assoc (get_or-append-add s (flat ss) (off ss i + j) d ∙ get_or_off ss i j d (omega arith) k)

  pub get_or_seg : (ss : List (List A)) (i j at : ℕ) (d : A) → at ≡ off ss i + j → i < length ss → j < length (get_or ss i []) → get_or (flat ss) at d ≡ get_or (get_or ss i []) j d
  get_or_seg ss i j at d p h k = rw p (get_or_off ss i j d h k)

  pub set_seg : (ss : List (List A)) (i j at : ℕ) (v : A) → at ≡ off ss i + j → i < length ss → j < length (get_or ss i [])
      → set (flat ss) at v ≡ flat (set ss i (set (get_or ss i []) j v))
  set_seg ss i j at v p h k =
      sym (splice-one (flat ss) at v) ∙ splice-within ss i j at (v ∷ []) p h (omega arith) ∙ ap (λ (r : List A). flat (set ss i r)) (splice-one (get_or ss i []) j v)

  -- ---- a whole segment

  pub part_seg : (ss : List (List A)) (i at n : ℕ) → at ≡ off ss i → i < length ss → n ≡ length (get_or ss i []) → part (flat ss) at n ≡ get_or ss i []
  part_seg ss i at n p h e = part_within ss i 0 at n (omega arith) h (omega arith) ∙ part_all (get_or ss i []) n (omega arith)

  pub splice_seg : (ss : List (List A)) (i at : ℕ) (new : List A) → at ≡ off ss i → i < length ss → length new ≡ length (get_or ss i [])
      → splice (flat ss) at new ≡ flat (set ss i new)
  splice_seg ss i at new p h e =
      splice-within ss i 0 at new (omega arith) h (omega arith) ∙ ap (λ (r : List A). flat (set ss i r)) (splice_all (get_or ss i []) new e)

  -- ---- several segments in a row: a stretch of the list of segments

  flat_parts : (ss : List (List A)) (i k : ℕ) → flat ss ≡ flat (take i ss) ++ (flat (part ss i k) ++ flat (drop (i + k) ss))
  unfolding part
  flat_parts ss i k =
      rw (← (flat_append (part ss i k) (drop (i + k) ss)), ← (flat_append (take i ss) (part ss i k ++ drop (i + k) ss)), ← (drop-drop k i ss), take-append-drop, take-append-drop)

  pub part_segs : (ss : List (List A)) (i k at n : ℕ) → at ≡ off ss i → n ≡ length (flat (part ss i k)) → part (flat ss) at n ≡ flat (part ss i k)
  part_segs ss i k at n p e =
      let a = flat (take i ss) in
      let m = flat (part ss i k) in
      let r = flat (drop (i + k) ss) in
      let q : at ≡ length a + 0 = rw add-zero (p ∙ off_take ss i) in
      rw (flat_parts ss i k, q, part_rest a (m ++ r) 0 n) (part_front m r 0 n (omega arith) ∙ part_all m n (omega arith))

  pub splice_segs : (ss : List (List A)) (i at : ℕ) (news : List (List A)) → at ≡ off ss i → i + length news ≤ length ss
      → length (flat news) ≡ length (flat (part ss i (length news))) → splice (flat ss) at (flat news) ≡ flat (splice ss i news)
  splice_segs ss i at news p h e =
      let k = length news in
      let a = flat (take i ss) in
      let m = flat (part ss i k) in
      let r = flat (drop (i + k) ss) in
      let q : at ≡ length a + 0 = rw add-zero (p ∙ off_take ss i) in
      let f : flat (splice ss i news) ≡ a ++ (flat news ++ r) =
      ap (λ (t : List (List A)). flat t) (splice_is ss news i k refl h) ∙ flat_append (take i ss) (news ++ drop (i + k) ss) ∙ ap (λ (t : List A). a ++ t) (flat_append news (drop (i + k) ss)) in
      rw (flat_parts ss i k, q, splice_rest a (m ++ r) 0 (flat news), splice-front-all m r (flat news) e) (sym f)
