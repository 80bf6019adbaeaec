-- Entries written one insertion after the other, and the row that is built of them. Assumes nothing.
use Prim.Native.Nat.{ℕ, suc, ◌+◌, ◌/◌, ◌%◌, ◌≤◌, ◌<◌}
use native.Mathlib.Nat.{le_refl}
use native.Mathlib.Omega.{arith}
use mathlib.Core.Path.{◌≡◌, refl, sym, ap, ◌∙◌}
use mathlib.Core.Bool.{Bool, true, false}
use mathlib.Core.List.{List, [], ◌∷◌}
use mathlib.Core.Logic.{◌⊎◌, inl, inr}
use lib.Dec.{eqb, ltb}
use lib.Ieee.{Float}
use lib.ListN.{length, take, get_or, set}
use lib.Seq.{length-take-le}
use borrow.Author.Tests.{ne_eqb}
use Rattle.std.specs.Prelude.{Option, Some, None}
use Rattle.binary64.specs.Arith.{◌⊕◌}
use Rattle.binary64.specs.Constants.{one}
use Rattle.binary64.specs.Number.{pick}
use Rattle.stretch.specs.Stretch.{splice}
use Rattle.stretch.specs.StretchLaws.{length-splice, splice-one, splice-splice-over}
use Rattle.sparse.specs.Sparse.{Entry, entry}
use Rattle.laplace.specs.declared.element.Elements.{Elements}
use Rattle.laplace.specs.declared.element.Stiff.{Stiff}
use Rattle.laplace.specs.Mesh.{tag_of, free}
use Rattle.laplace.specs.Assembly.{Push, insert, inserted, row}
use Rattle.laplace.specs.Matrix.{Rising, Below, AllBelow, insert_rising, insert_below}
use Rattle.laplace.specs.Element.{stiff_in, triangle_of}
use Rattle.laplace.specs.Placed.{values_in, columns_in}
use Rattle.laplace.specs.Row.{entries_in, Room, Written, Tidy, Building, placed, three_placed, side_of, sides_placed, added_by, added}
use Rattle.laplace.proofs.LawsCorners.{below_more}
use Rattle.laplace.proofs.LawsInsert.{splice_take, take-splice_front, length_in, length_columns, length_values, entries_columns, entries_values, entries_again, length-entries}

-- ---- entries that were written

module _ (v : List Float) (c : List ℕ) where
  -- what stands there may be said to be written
  pub written_none : (k : ℕ) → k ≤ length v → k ≤ length c → Written v c v c k (entries_in v c k)
  written_none k hv hc =
      let l : length (take k c) ≡ length (take k v) = length_in v c k hv hc in
      record {
        count = omega (arith, length-entries (take k c) (take k v) l, length-take-le k c hc);
        values = sym (splice_take v k) ∙ ap (λ (x : List Float). splice v 0 x) (sym (entries_values (take k c) (take k v) l));
        columns = sym (splice_take c k) ∙ ap (λ (x : List ℕ). splice c 0 x) (sym (entries_columns (take k c) (take k v) l));
      }

  module _ (v' : List Float) (c' : List ℕ) (k : ℕ) (es : List Entry) (r : Written v c v' c' k es) where
    pub values_long : length v' ≡ length v
    values_long = ap length r.values ∙ length-splice v 0 (values_in es)

    pub columns_long : length c' ≡ length c
    columns_long = ap length r.columns ∙ length-splice c 0 (columns_in es)

    -- and is what is read
    pub read_back : k ≤ length v → k ≤ length c → entries_in v' c' k ≡ es
    read_back hv hc =
        let lv : length (values_in es) ≡ k = length_values es ∙ sym r.count in
        let lc : length (columns_in es) ≡ k = length_columns es ∙ sym r.count in
        let pv : take k v' ≡ values_in es = ap (λ (x : List Float). take k x) r.values ∙ take-splice_front v (values_in es) k lv hv in
        let pc : take k c' ≡ columns_in es = ap (λ (x : List ℕ). take k x) r.columns ∙ take-splice_front c (columns_in es) k lc hc in
        rw (pv, pc) (entries_again es)

    -- at least as many written after them
    pub written_then : (v'' : List Float) (c'' : List ℕ) (k' : ℕ) (es' : List Entry) → length es ≤ length es' → Written v' c' v'' c'' k' es' → Written v c v'' c'' k' es'
    written_then v'' c'' k' es' h s =
        record {
          count = s.count;
          values =
              s.values ∙ ap (λ (x : List Float). splice x 0 (values_in es')) r.values
              ∙ splice-splice-over v 0 0 (values_in es) (values_in es') (le_refl 0) (omega (arith, length_values es, length_values es'));
          columns =
              s.columns ∙ ap (λ (x : List ℕ). splice x 0 (columns_in es')) r.columns
              ∙ splice-splice-over c 0 0 (columns_in es) (columns_in es') (le_refl 0) (omega (arith, length_columns es, length_columns es'));
        }

-- ---- tidy entries are few, and an insertion leaves them tidy

few : (lo n : ℕ) (es : List Entry) → lo ≤ n → Rising lo es → Below n es → lo + length es ≤ n
unfolding Rising Below
few lo n [] h r b = omega arith
few lo n (e ∷ es) h r b = omega (arith, few (suc e.col) n es b.0 r.1 b.1)

pub tidy_few : (n : ℕ) (es : List Entry) → Tidy n es → length es ≤ n
tidy_few n es t = omega (arith, few 0 n es (omega arith) t.rising t.below)

pub tidy_none : (n : ℕ) → Tidy n []
unfolding Rising Below
tidy_none n = record { rising = tt; below = tt }

pub tidy_insert : (n j : ℕ) (v : Float) (es : List Entry) → j < n → Tidy n es → Tidy n (insert j v es)
tidy_insert n j v es h t = record { rising = insert_rising 0 j v es (omega arith) t.rising; below = insert_below n j v es h t.below }

insert_longer : (j : ℕ) (v : Float) (es : List Entry) → length es ≤ length (insert j v es)
unfolding insert
insert_longer j v [] = omega arith
insert_longer j v (e ∷ es) = go (ltb e.col j) (eqb e.col j) (insert_longer j v es)
  where
    go : (b d : Bool) → length es ≤ length (insert j v es)
        → suc (length es) ≤ length (pick b (e ∷ insert j v es) (pick d (entry j (e.value ⊕ v) ∷ es) (entry j v ∷ e ∷ es)))
    go true d h = omega arith
    go false true h = omega arith
    go false false h = omega arith

-- the same of an entry to a free column, and of three
module _ (n : ℕ) (tags : List ℕ) where
  pub tidy_placed : (j : ℕ) (v : Float) (es : List Entry) → j < n → Tidy n es → Tidy n (placed tags j v es)
  unfolding placed
  tidy_placed j v es h t = go (free tags j)
    where
      go : (b : Bool) → Tidy n (pick b (insert j v es) es)
      go true = tidy_insert n j v es h t
      go false = t

  pub placed_longer : (j : ℕ) (v : Float) (es : List Entry) → length es ≤ length (placed tags j v es)
  unfolding placed
  placed_longer j v es = go (free tags j)
    where
      go : (b : Bool) → length es ≤ length (pick b (insert j v es) es)
      go true = insert_longer j v es
      go false = le_refl (length es)

  pub tidy_three : (q : List ℕ) (s : List Float) (es : List Entry) → AllBelow n q → Tidy n es → Tidy n (three_placed tags q s es)
  unfolding three_placed AllBelow
  tidy_three [] s es h t = t
  tidy_three (j ∷ q) [] es h t = t
  tidy_three (j ∷ q) (v ∷ s) es h t = tidy_three q s (placed tags j v es) h.1 (tidy_placed j v es h.0 t)

  three_longer : (q : List ℕ) (s : List Float) (es : List Entry) → length es ≤ length (three_placed tags q s es)
  unfolding three_placed
  three_longer [] s es = le_refl (length es)
  three_longer (j ∷ q) [] es = le_refl (length es)
  three_longer (j ∷ q) (v ∷ s) es = omega (arith, placed_longer j v es, three_longer q s (placed tags j v es))

  module _ (flat : Float) (vs : List Float) (q : List ℕ) (e : ℕ) (es : List Entry) where
    pub tidy_by : AllBelow n q → Tidy n es → Tidy n (added_by tags flat vs q e es)
    unfolding added_by sides_placed
    tidy_by h t = go (stiff_in flat vs q)
      where
        go : (o : Option Stiff) → Tidy n (sides_placed tags q e o es)
        go None = t
        go (Some s) = tidy_three q (side_of s e) es h t

    pub by_longer : length es ≤ length (added_by tags flat vs q e es)
    unfolding added_by sides_placed
    by_longer = go (stiff_in flat vs q)
      where
        go : (o : Option Stiff) → length es ≤ length (sides_placed tags q e o es)
        go None = le_refl (length es)
        go (Some s) = three_longer q (side_of s e) es

-- ---- the row that is built

module _ (m : Elements) (v : List Float) (c : List ℕ) (k : ℕ) (b : Building m v c k) where
  -- there is room for an entry more
  pub room : (j : ℕ) (x : Float) → j < length m.tags.now → Room v c (insert j x (entries_in v c k))
  room j x h =
      let n = length m.tags.now in
      let l : length (insert j x (entries_in v c k)) ≤ n = tidy_few n (insert j x (entries_in v c k)) (tidy_insert n j x (entries_in v c k) h b.tidy) in
      record { values_fit = omega (arith, b); cols_fit = omega (arith, b) }

  pub written-placed : (v' : List Float) (c' : List ℕ) (k' j : ℕ) (x : Float) → get_or m.tags.now j 0 ≡ 0
      → Written v c v' c' k' (insert j x (entries_in v c k)) → Written v c v' c' k' (placed m.tags.now j x (entries_in v c k))
  unfolding placed free tag_of
  written-placed v' c' k' j x e r = rw e r

  pub written_held : (j : ℕ) (x : Float) → (get_or m.tags.now j 0 ≡ 0 → ⊥) → Written v c v c k (placed m.tags.now j x (entries_in v c k))
  unfolding placed free tag_of
  written_held j x e = rw (ne_eqb (get_or m.tags.now j 0) 0 e) (written_none v c k (omega (arith, b)) (omega (arith, b)))

  -- the row of a vertex: that of a held one is its lone 1
  pub written-free : (ps : List Push) (r : ℕ) → get_or m.tags.now r 0 ≡ 0 → (v' : List Float) (c' : List ℕ) (k' : ℕ)
      → Written v c v' c' k' (inserted m.tags.now r ps []) → Written v c v' c' k' (row m.tags.now ps r)
  unfolding row free tag_of
  written-free ps r e v' c' k' a = rw e a

  pub written_lone : (ps : List Push) (r : ℕ) → (get_or m.tags.now r 0 ≡ 0 → ⊥) → Written v c (set v 0 one) (set c 0 r) 1 (row m.tags.now ps r)
  unfolding row free tag_of values_in columns_in
  written_lone ps r e = rw (ne_eqb (get_or m.tags.now r 0) 0 e) record { count = refl; values = sym (splice-one v 0 one); columns = sym (splice-one c 0 r) }

  -- a corner's entries: none where its triangle is skipped
  module _ (i : ℕ) (q : List ℕ) (o : Option Stiff) (e : q ≡ triangle_of m.triangles.now (i / 3)) (d : o ≡ stiff_in m.flat m.vertices.now q) where
    pub written_skipped : o ≡ None → Written v c v c k (added m.tags.now m.flat m.vertices.now m.triangles.now i (entries_in v c k))
    unfolding added added_by sides_placed
    written_skipped y = rw (← e, ← d, y) (written_none v c k (omega (arith, b)) (omega (arith, b)))

    pub written-corner : (s : Stiff) → o ≡ Some s → (v' : List Float) (c' : List ℕ) (k' : ℕ) (x : List Float) → x ≡ side_of s (i % 3)
        → Written v c v' c' k' (three_placed m.tags.now q x (entries_in v c k))
        → Written v c v' c' k' (added m.tags.now m.flat m.vertices.now m.triangles.now i (entries_in v c k))
    unfolding added added_by sides_placed
    written-corner s y v' c' k' x g r = rw (← e, ← d, y, ← g) r

  module _ (v' : List Float) (c' : List ℕ) (k' : ℕ) (es : List Entry) (r : Written v c v' c' k' es) (y : Tidy (length m.tags.now) es) where
    pub row_read : entries_in v' c' k' ≡ es
    row_read =
        let l : length es ≤ length m.tags.now = tidy_few (length m.tags.now) es y in
        read_back v c v' c' k' es r (omega (arith, b, r.count)) (omega (arith, b, r.count))

    -- the row that is built goes on
    pub building_on : Building m v' c' k'
    building_on =
        let lv : length v' ≡ length v = values_long v c v' c' k' es r in
        let lc : length c' ≡ length c = columns_long v c v' c' k' es r in
        let l : length es ≤ length m.tags.now = tidy_few (length m.tags.now) es y in
        record { mesh = b.mesh; values_long = lv ∙ b.values_long; cols_long = lc ∙ b.cols_long; within = omega (arith, r.count); tidy = rw row_read y }

    -- one entry more, after those written
    pub placed_on : (v'' : List Float) (c'' : List ℕ) (k'' j : ℕ) (x : Float) → Written v' c' v'' c'' k'' (placed m.tags.now j x (entries_in v' c' k'))
        → Written v c v'' c'' k'' (placed m.tags.now j x es)
    placed_on v'' c'' k'' j x s =
        written_then v c v' c' k' es r v'' c'' k'' (placed m.tags.now j x es) (placed_longer (length m.tags.now) m.tags.now j x es) (rw row_read at s)

-- ---- the three of a corner, one after the other

-- after some turns the k' entries es stand in the row, and the columns q' and the values s' are left
pub record Placing (m : Elements) (v : List Float) (c : List ℕ) (k : ℕ) (v' : List Float) (c' : List ℕ) (k' : ℕ) (q : List ℕ) (s : List Float) (q' : List ℕ) (s' : List Float) : Type 0 where
  pub es : List Entry
  pub written : Written v c v' c' k' es
  pub tidy : Tidy (length m.tags.now) es
  pub below : AllBelow (length m.tags.now) q'
  pub rest : three_placed m.tags.now q' s' es ≡ three_placed m.tags.now q s (entries_in v c k)

module _ (m : Elements) (v : List Float) (c : List ℕ) (k : ℕ) (b : Building m v c k) (q : List ℕ) (s : List Float) where
  pub place_none : AllBelow (length m.tags.now) q → (q' : List ℕ) (s' : List Float) → q' ≡ q → s' ≡ s → Placing m v c k v c k q s q' s'
  place_none h q' s' e f =
      record {
        es = entries_in v c k;
        written = written_none v c k (omega (arith, b)) (omega (arith, b));
        tidy = b.tidy;
        below = rw e h;
        rest = ap (λ (x : List ℕ). three_placed m.tags.now x s' (entries_in v c k)) e ∙ ap (λ (x : List Float). three_placed m.tags.now q x (entries_in v c k)) f;
      }

  module _ (v' : List Float) (c' : List ℕ) (k' : ℕ) (q' : List ℕ) (s' : List Float) (p : Placing m v c k v' c' k' q s q' s') where
    pub place_building : Building m v' c' k'
    place_building = building_on m v c k b v' c' k' p.es p.written p.tidy

    -- one more
    module _ (j : ℕ) (x : Float) (q'' : List ℕ) (s'' : List Float) (e : q' ≡ j ∷ q'') (f : s' ≡ x ∷ s'') where
      pub place_below : j < length m.tags.now
      place_below = (below_more (length m.tags.now) q' j q'' p.below e).0

      pub place_again : (v'' : List Float) (c'' : List ℕ) (k'' : ℕ) → Written v' c' v'' c'' k'' (placed m.tags.now j x (entries_in v' c' k')) → Placing m v c k v'' c'' k'' q s q'' s''
      unfolding three_placed
      place_again v'' c'' k'' a =
          let h = below_more (length m.tags.now) q' j q'' p.below e in
          record {
            es = placed m.tags.now j x p.es;
            written = placed_on m v c k b v' c' k' p.es p.written p.tidy v'' c'' k'' j x a;
            tidy = tidy_placed (length m.tags.now) m.tags.now j x p.es h.0 p.tidy;
            below = h.1;
            rest = rw (e, f) at p.rest;
          }

    pub place_done : (length q' ≡ 0) ⊎ (length s' ≡ 0) → Written v c v' c' k' (three_placed m.tags.now q s (entries_in v c k))
    unfolding three_placed
    place_done h = rw (← p.rest, none q' s' h) p.written
      where
        none : (a : List ℕ) (y : List Float) → (length a ≡ 0) ⊎ (length y ≡ 0) → three_placed m.tags.now a y p.es ≡ p.es
        none [] y g = refl
        none (j ∷ a) [] g = refl
        none (j ∷ a) (x ∷ y) (inl g) = absurd (omega arith)
        none (j ∷ a) (x ∷ y) (inr g) = absurd (omega arith)
