-- One insertion into the first k entries of a row: where its column stands, the places moved up by one, and what is then read. Assumes nothing.
use Prim.Native.Nat.{ℕ, zero, suc, ◌+◌, ◌-◌, ◌≤◌, ◌<◌}
use native.Mathlib.Nat.{zero-add}
use native.Mathlib.Numerals.{add-one}
use native.Mathlib.Omega.{arith}
use mathlib.Core.Path.{◌≡◌, refl, sym, ap, ◌∙◌}
use mathlib.Core.Bool.{Bool, true, false}
use mathlib.Core.List.{List, [], ◌∷◌, ◌++◌}
use lib.Dec.{eqb, leb, ltb}
use lib.Ieee.{Float, nan}
use lib.ListN.{length, take, drop, get_or, set, length-append, length-drop}
use lib.Seq.{take_at, drop_at, length-take-le}
use borrow.Author.Tests.{ltb-true, ltb-false, le-leb, lt-leb, eqb-true, eqb-false}
use Rattle.std.specs.Prelude.{Option, Some, None, Result, Ok, Err, cond, position, unwrap_or, not}
use Rattle.std.specs.List.{copy_within, prefix_len}
use Rattle.std.proofs.lemmas.List.{get_or-take, take-take, drop-take}
use Rattle.binary64.specs.Arith.{◌⊕◌}
use Rattle.binary64.specs.Number.{pick}
use Rattle.stretch.specs.Stretch.{part, splice}
use Rattle.stretch.specs.StretchLaws.{length_part, part_take, part_add, splice_cons, splice-append, splice_part, set-splice_in}
use Rattle.sparse.specs.Sparse.{Entry, entry, entries}
use Rattle.laplace.specs.Assembly.{insert}
use Rattle.laplace.specs.Placed.{values_in, columns_in}
use Rattle.laplace.specs.Row.{position_of, Finds, entries_in, Room, Written}

module _ {A : Type 0} where
  -- a list's front written over itself
  pub splice_take : (l : List A) (k : ℕ) → splice l 0 (take k l) ≡ l
  splice_take l k = ap (λ (x : List A). splice l 0 x) (sym (part_take l k)) ∙ splice_part l 0 k

  -- a front written is what is read
  pub take-splice_front : (l new : List A) (k : ℕ) → length new ≡ k → k ≤ length l → take k (splice l 0 new) ≡ new
  unfolding splice
  take-splice_front l [] zero e h = refl
  take-splice_front l [] (suc k) e h = absurd (omega arith)
  take-splice_front l (y ∷ new) zero e h = absurd (omega arith)
  take-splice_front [] (y ∷ new) (suc k) e h = absurd (omega arith)
  take-splice_front (x ∷ l) (y ∷ new) (suc k) e h = ap (λ (z : List A). y ∷ z) (take-splice_front l new k (omega arith) (omega arith))

  splice_front_is : (l new : List A) (m : ℕ) → length new ≡ m → m ≤ length l → splice l 0 new ≡ new ++ drop m l
  unfolding splice
  splice_front_is [] [] zero e h = refl
  splice_front_is (x ∷ l) [] zero e h = refl
  splice_front_is l [] (suc m) e h = absurd (omega arith)
  splice_front_is l (y ∷ new) zero e h = absurd (omega arith)
  splice_front_is [] (y ∷ new) (suc m) e h = absurd (omega arith)
  splice_front_is (x ∷ l) (y ∷ new) (suc m) e h = ap (λ (z : List A). y ∷ z) (splice_front_is l new m (omega arith) (omega arith))

  -- ---- a place made free at p among the first k places

  opened : (s : List A) (p m d : ℕ) (v : A) → d ≡ suc (p + m) → p + m < length s
      → set ((take (suc p) s ++ take m (drop p s)) ++ drop d s) p v ≡ splice s 0 (take p s ++ (v ∷ take m (drop p s)))
  unfolding splice
  opened [] p m d v e h = absurd (omega arith)
  opened (x ∷ s) zero m zero v e h = absurd (omega arith)
  opened (x ∷ s) zero m (suc d) v e h =
      let q : d ≡ m = omega arith in
      let new = take m (x ∷ s) in
      let l : length new ≡ m = length-take-le m (x ∷ s) (omega arith) in
      rw q (ap (λ (z : List A). v ∷ z) (sym (splice_front_is s new m l (omega arith))))
  opened (x ∷ s) (suc p) m zero v e h = absurd (omega arith)
  opened (x ∷ s) (suc p) m (suc d) v e h = ap (λ (z : List A). x ∷ z) (opened s p m d v (omega arith) (omega arith))

  moved_up : (s : List A) (k p : ℕ) (v : A) → p ≤ k → k < length s → set (copy_within s p k (p + 1)) p v ≡ splice s 0 (take p (take k s) ++ (v ∷ drop p (take k s)))
  moved_up s k p v h g =
      let m = k - p in
      let e : k ≡ p + m = omega arith in
      let a : take p (take k s) ≡ take p s = take-take p k s h in
      let b : drop p (take k s) ≡ take m (drop p s) = ap (λ (x : ℕ). drop p (take x s)) e ∙ drop-take p m s in
      rw (a, b, add-one p) (opened s p m (suc p + m) v (omega arith) (omega arith))

module _ {ℓ} {A : Type ℓ} where
  -- ---- the same among the k places from `at`: what stands behind p is written one place on as a stretch, as far as the list goes

  pub made_free : (s : List A) (at k p : ℕ) (v : A) → p ≤ k → at + k ≤ length s
      → set (splice s (at + p + 1) (part s (at + p) (k - p))) (at + p) v ≡ splice s at (take p (part s at k) ++ (v ∷ drop p (part s at k)))
  made_free s at k p v h f =
      let e : k ≡ p + (k - p) = omega arith in
      let l = part s at p in
      let r = part s (at + p) (k - p) in
      let ll : length l ≡ p = length_part s at p (omega arith) in
      let b : part s at k ≡ l ++ r = ap (λ (x : ℕ). part s at x) e ∙ part_add s at p (k - p) in
      let t : take p (part s at k) ≡ l = ap (λ (x : List A). take p x) b ∙ take_at l r p ll in
      let d : drop p (part s at k) ≡ r = ap (λ (x : List A). drop p x) b ∙ drop_at l r p ll in
      ap (λ (x : ℕ). set (splice s x r) (at + p) v) (add-one (at + p))
      ∙ sym (splice_cons s (at + p) v r)
      ∙ rw (t, d, splice-append s at l (v ∷ r), splice_part s at p, ll)

  pub replaced : (s : List A) (at k p : ℕ) (v : A) → p < k → at + k ≤ length s → set s (at + p) v ≡ splice s at (set (part s at k) p v)
  replaced s at k p v h f =
      let e : length (part s at k) ≡ k = length_part s at k f in
      ap (λ (x : List A). set x (at + p) v) (sym (splice_part s at k)) ∙ set-splice_in s at (part s at k) p v (omega arith)

  -- among the first k
  replaced_front : (s : List A) (k p : ℕ) (v : A) → p < k → k ≤ length s → set s p v ≡ splice s 0 (set (take k s) p v)
  replaced_front s k p v h g = rw (zero-add, part_take) at (replaced s 0 k p v h (omega arith))

-- how many columns at the front are below j
pub position_le : (j : ℕ) (cs : List ℕ) → position_of j cs ≤ length cs
unfolding position_of
position_le j [] = omega arith
position_le j (c ∷ cs) = go (ltb c j) (position_le j cs)
  where
    go : (b : Bool) → position_of j cs ≤ length cs → pick b (suc (position_of j cs)) 0 ≤ suc (length cs)
    go true e = omega arith
    go false e = omega arith

below_is : (j : ℕ) (cs : List ℕ) → prefix_len (λ (c : ℕ). not (leb j c)) cs ≡ position_of j cs
unfolding position_of
below_is j [] = refl
below_is j (c ∷ cs) = go (ltb c j) refl (below_is j cs)
  where
    go : (b : Bool) → ltb c j ≡ b → prefix_len (λ (x : ℕ). not (leb j x)) cs ≡ position_of j cs
        → cond (not (leb j c)) (1 + prefix_len (λ (x : ℕ). not (leb j x)) cs) 0 ≡ pick b (suc (position_of j cs)) 0
    go true t e = rw (lt-leb j c (ltb-true c j t)) (omega arith)
    go false t e = rw (le-leb j c (ltb-false c j t))

-- and so the place of the first that is not
position_is : (j : ℕ) (cs : List ℕ) → unwrap_or (position (λ (c : ℕ). leb j c) cs) (length cs) ≡ position_of j cs
position_is j cs = rw (below_is j cs) (go (ltb (position_of j cs) (length cs)) refl (position_le j cs))
  where
    go : (b : Bool) → ltb (position_of j cs) (length cs) ≡ b → position_of j cs ≤ length cs → unwrap_or (cond b (Some (position_of j cs)) None) (length cs) ≡ position_of j cs
    go true t h = refl
    go false t h = omega (arith, ltb-false (position_of j cs) (length cs) t)

-- among the first k
pub position_from : (j k : ℕ) (cs : List ℕ) (o : Option ℕ) (p : ℕ) → k ≤ length cs → o ≡ position (λ (c : ℕ). leb j c) (take k cs) → p ≡ unwrap_or o k → p ≡ position_of j (take k cs)
position_from j k cs o p h e f =
    f ∙ ap (λ (x : Option ℕ). unwrap_or x k) e ∙ ap (λ (n : ℕ). unwrap_or (position (λ (c : ℕ). leb j c) (take k cs)) n) (sym (length-take-le k cs h)) ∙ position_is j (take k cs)

-- ---- columns and values of entries

pub length_columns : (es : List Entry) → length (columns_in es) ≡ length es
unfolding columns_in
length_columns [] = refl
length_columns (e ∷ es) = ap suc (length_columns es)

pub length_values : (es : List Entry) → length (values_in es) ≡ length es
unfolding values_in
length_values [] = refl
length_values (e ∷ es) = ap suc (length_values es)

pub entries_columns : (cs : List ℕ) (vs : List Float) → length cs ≡ length vs → columns_in (entries cs vs) ≡ cs
unfolding columns_in entries
entries_columns [] vs e = refl
entries_columns (c ∷ cs) [] e = absurd (omega arith)
entries_columns (c ∷ cs) (v ∷ vs) e = ap (λ (x : List ℕ). c ∷ x) (entries_columns cs vs (omega arith))

pub entries_values : (cs : List ℕ) (vs : List Float) → length cs ≡ length vs → values_in (entries cs vs) ≡ vs
unfolding values_in entries
entries_values [] [] e = refl
entries_values [] (v ∷ vs) e = absurd (omega arith)
entries_values (c ∷ cs) [] e = absurd (omega arith)
entries_values (c ∷ cs) (v ∷ vs) e = ap (λ (x : List Float). v ∷ x) (entries_values cs vs (omega arith))

pub entries_again : (es : List Entry) → entries (columns_in es) (values_in es) ≡ es
unfolding columns_in values_in entries
entries_again [] = refl
entries_again (e ∷ es) = ap (λ (x : List Entry). e ∷ x) (entries_again es)

pub length-entries : (cs : List ℕ) (vs : List Float) → length cs ≡ length vs → length (entries cs vs) ≡ length cs
length-entries cs vs e = sym (length_columns (entries cs vs)) ∙ ap length (entries_columns cs vs e)

-- ---- an insertion, by its position

pub record Repeated (j : ℕ) (v : Float) (cs : List ℕ) (vs : List Float) (p : ℕ) (es : List Entry) : Type 0 where
  pub columns : columns_in es ≡ cs
  pub values : values_in es ≡ set vs p (get_or vs p nan ⊕ v)

pub insert_repeat : (j : ℕ) (v : Float) (cs : List ℕ) (vs : List Float) → length cs ≡ length vs → position_of j cs < length cs → get_or cs (position_of j cs) 0 ≡ j
    → Repeated j v cs vs (position_of j cs) (insert j v (entries cs vs))
unfolding position_of insert entries columns_in values_in
insert_repeat j v [] vs e h k = absurd (omega arith)
insert_repeat j v (c ∷ cs) [] e h k = absurd (omega arith)
insert_repeat j v (c ∷ cs) (x ∷ vs) e h k = go (ltb c j) (eqb c j) refl h k (insert_repeat j v cs vs (omega arith))
  where
    go : (b d : Bool) → eqb c j ≡ d → pick b (suc (position_of j cs)) 0 < suc (length cs) → get_or (c ∷ cs) (pick b (suc (position_of j cs)) 0) 0 ≡ j
        → (position_of j cs < length cs → get_or cs (position_of j cs) 0 ≡ j → Repeated j v cs vs (position_of j cs) (insert j v (entries cs vs)))
        → Repeated j v (c ∷ cs) (x ∷ vs) (pick b (suc (position_of j cs)) 0) (pick b (entry c x ∷ insert j v (entries cs vs)) (pick d (entry j (x ⊕ v) ∷ entries cs vs) (entry j v ∷ entry c x ∷ entries cs vs)))
    go true d q h k f =
        let r = f (omega arith) k in
        record { columns = ap (λ (l : List ℕ). c ∷ l) r.columns; values = ap (λ (l : List Float). x ∷ l) r.values }
    go false true q h k f =
        record { columns = ap (λ (l : List ℕ). j ∷ l) (entries_columns cs vs (omega arith)) ∙ ap (λ (i : ℕ). i ∷ cs) (sym k); values = ap (λ (l : List Float). (x ⊕ v) ∷ l) (entries_values cs vs (omega arith)) }
    go false false q h k f = absurd (eqb-false c j q k)

pub record Fresh (j : ℕ) (v : Float) (cs : List ℕ) (vs : List Float) (p : ℕ) (es : List Entry) : Type 0 where
  pub columns : columns_in es ≡ take p cs ++ (j ∷ drop p cs)
  pub values : values_in es ≡ take p vs ++ (v ∷ drop p vs)

pub insert-fresh : (j : ℕ) (v : Float) (cs : List ℕ) (vs : List Float) → length cs ≡ length vs → (position_of j cs < length cs → get_or cs (position_of j cs) 0 ≡ j → ⊥)
    → Fresh j v cs vs (position_of j cs) (insert j v (entries cs vs))
unfolding position_of insert entries columns_in values_in
insert-fresh j v [] [] e k = record { columns = refl; values = refl }
insert-fresh j v [] (x ∷ vs) e k = absurd (omega arith)
insert-fresh j v (c ∷ cs) [] e k = absurd (omega arith)
insert-fresh j v (c ∷ cs) (x ∷ vs) e k = go (ltb c j) (eqb c j) refl k (insert-fresh j v cs vs (omega arith))
  where
    go : (b d : Bool) → eqb c j ≡ d → (pick b (suc (position_of j cs)) 0 < suc (length cs) → get_or (c ∷ cs) (pick b (suc (position_of j cs)) 0) 0 ≡ j → ⊥)
        → ((position_of j cs < length cs → get_or cs (position_of j cs) 0 ≡ j → ⊥) → Fresh j v cs vs (position_of j cs) (insert j v (entries cs vs)))
        → Fresh j v (c ∷ cs) (x ∷ vs) (pick b (suc (position_of j cs)) 0) (pick b (entry c x ∷ insert j v (entries cs vs)) (pick d (entry j (x ⊕ v) ∷ entries cs vs) (entry j v ∷ entry c x ∷ entries cs vs)))
    go true d q k f =
        let r = f (λ (h : position_of j cs < length cs). k (omega arith)) in
        record { columns = ap (λ (l : List ℕ). c ∷ l) r.columns; values = ap (λ (l : List Float). x ∷ l) r.values }
    go false true q k f = absurd (k (omega arith) (eqb-true c j q))
    go false false q k f =
        record { columns = ap (λ (l : List ℕ). j ∷ c ∷ l) (entries_columns cs vs (omega arith)); values = ap (λ (l : List Float). v ∷ x ∷ l) (entries_values cs vs (omega arith)) }

-- ---- an insertion in the row

pub length_in : (v : List Float) (c : List ℕ) (k : ℕ) → k ≤ length v → k ≤ length c → length (take k c) ≡ length (take k v)
length_in v c k hv hc = length-take-le k c hc ∙ sym (length-take-le k v hv)

module _ (v : List Float) (c : List ℕ) (k j : ℕ) (x : Float) (hv : k ≤ length v) (hc : k ≤ length c) (p : ℕ) (e : p ≡ position_of j (take k c)) where
  repeat_written : p < k → get_or c p 0 ≡ j → Written v c (set v p (get_or v p nan ⊕ x)) c k (insert j x (entries_in v c k))
  repeat_written h g =
      let cs = take k c in
      let vs = take k v in
      let lc : length cs ≡ k = length-take-le k c hc in
      let lv : length vs ≡ k = length-take-le k v hv in
      let gc : get_or cs p 0 ≡ j = get_or-take k c p 0 h ∙ g in
      let gv : get_or vs p nan ≡ get_or v p nan = get_or-take k v p nan h in
      let i : Repeated j x cs vs p (insert j x (entries cs vs)) = rw e (insert_repeat j x cs vs (length_in v c k hv hc) (omega arith) (rw e at gc)) in
      record {
        count = sym lc ∙ ap length (sym i.columns) ∙ length_columns (insert j x (entries cs vs));
        values = replaced_front v k p (get_or v p nan ⊕ x) h hv ∙ ap (λ (l : List Float). splice v 0 l) (ap (λ (y : Float). set vs p (y ⊕ x)) (sym gv) ∙ sym i.values);
        columns = sym (splice_take c k) ∙ ap (λ (l : List ℕ). splice c 0 l) (sym i.columns);
      }

  within : p ≤ k
  within = omega (arith, e, position_le j (take k c), length-take-le k c hc)

  module _ (f : p < k → get_or c p 0 ≡ j → ⊥) where
    fresh : Fresh j x (take k c) (take k v) p (insert j x (entries_in v c k))
    fresh =
        let lc : length (take k c) ≡ k = length-take-le k c hc in
        rw e (insert-fresh j x (take k c) (take k v) (length_in v c k hv hc) (λ (h : position_of j (take k c) < length (take k c)). λ (g : get_or (take k c) (position_of j (take k c)) 0 ≡ j).
        let h' : p < k = omega arith in f h' (sym (get_or-take k c p 0 h') ∙ ap (λ (y : ℕ). get_or (take k c) y 0) e ∙ g)))

    fresh-length : length (insert j x (entries_in v c k)) ≡ suc k
    fresh-length =
        let h = within in
        let cs = take k c in
        let es = insert j x (entries_in v c k) in
        let lc : length cs ≡ k = length-take-le k c hc in
        let lt : length (take p cs) ≡ p = length-take-le p cs (omega arith) in
        let ld : length (drop p cs) ≡ length cs - p = length-drop p cs in
        let la : length (take p cs ++ (j ∷ drop p cs)) ≡ length (take p cs) + suc (length (drop p cs)) = length-append (take p cs) (j ∷ drop p cs) in
        let lr : length (columns_in es) ≡ length (take p cs ++ (j ∷ drop p cs)) = ap length fresh.columns in
        omega (arith, length_columns es)

    -- so there is room to move up by one
    room_fresh : Room v c (insert j x (entries_in v c k)) → (k < length v) × (k < length c)
    room_fresh m = omega (arith, fresh-length, m)

    fresh-written : Room v c (insert j x (entries_in v c k))
        → Written v c (set (copy_within v p k (p + 1)) p x) (set (copy_within c p k (p + 1)) p j) (k + 1) (insert j x (entries_in v c k))
    fresh-written m =
        let i = fresh in
        let r = room_fresh m in
        record {
          count = add-one k ∙ sym fresh-length;
          values = moved_up v k p x within r.0 ∙ ap (λ (l : List Float). splice v 0 l) (sym i.values);
          columns = moved_up c k p j within r.1 ∙ ap (λ (l : List ℕ). splice c 0 l) (sym i.columns);
        }

    -- written as a stretch, it asks for no room
    fresh-spliced : Written v c (set (splice v (p + 1) (part v p (k - p))) p x) (set (splice c (p + 1) (part c p (k - p))) p j) (k + 1) (insert j x (entries_in v c k))
    fresh-spliced =
        let i = fresh in
        record {
          count = add-one k ∙ sym fresh-length;
          values = rw (zero-add, part_take) at (made_free v 0 k p x within (omega arith)) ∙ ap (λ (l : List Float). splice v 0 l) (sym i.values);
          columns = rw (zero-add, part_take) at (made_free c 0 k p j within (omega arith)) ∙ ap (λ (l : List ℕ). splice c 0 l) (sym i.columns);
        }

-- the same, by what was found
pub found_within : (j k : ℕ) (c : List ℕ) (o : Result ℕ ℕ) (p : ℕ) → Finds j k c o → o ≡ Ok p → p < k
unfolding Finds
found_within j k c o p f e = let h = rw e at f in h.1

module _ (v : List Float) (c : List ℕ) (k j : ℕ) (x : Float) (hv : k ≤ length v) (hc : k ≤ length c) (o : Result ℕ ℕ) (f : Finds j k c o) (p : ℕ) where
  module _ (e : o ≡ Ok p) where
    stands : (p ≡ position_of j (take k c)) × (p < k) × (get_or c p 0 ≡ j)
    unfolding Finds
    stands = rw e at f

    pub written_repeat : Written v c (set v p (get_or v p nan ⊕ x)) c k (insert j x (entries_in v c k))
    written_repeat = repeat_written v c k j x hv hc p stands.0 stands.1 stands.2

  module _ (e : o ≡ Err p) where
    goes : (p ≡ position_of j (take k c)) × (p < k → get_or c p 0 ≡ j → ⊥)
    unfolding Finds
    goes = rw e at f

    pub spliced-fresh : Written v c (set (splice v (p + 1) (part v p (k - p))) p x) (set (splice c (p + 1) (part c p (k - p))) p j) (k + 1) (insert j x (entries_in v c k))
    spliced-fresh = fresh-spliced v c k j x hv hc p goes.0 goes.1

    module _ (m : Room v c (insert j x (entries_in v c k))) where
      -- there is room to move up by one
      pub fresh_room : (p ≤ k) × (k < length v) × (k < length c)
      fresh_room = let r = room_fresh v c k j x hv hc p goes.0 goes.1 m in (within v c k j x hv hc p goes.0, r.0, r.1)

      pub written-fresh : Written v c (set (copy_within v p k (p + 1)) p x) (set (copy_within c p k (p + 1)) p j) (k + 1) (insert j x (entries_in v c k))
      written-fresh = fresh-written v c k j x hv hc p goes.0 goes.1 m
