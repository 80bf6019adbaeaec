-- The walk over the corners of a vertex gives its row: the pushes of a triangle in a row are, corner by corner, those of the corners that are its vertex, and heads and links lead from each such corner to the next.
-- Assumes nothing.
use Prim.Native.Nat.{ℕ, zero, suc, ◌+◌, ◌-◌, ◌*◌, ◌/◌, ◌%◌, ◌≤◌, ◌<◌}
use native.Mathlib.Nat.{add-zero}
use native.Mathlib.Numerals.{add-one}
use native.Mathlib.Omega.{arith}
use mathlib.Core.Path.{◌≡◌, refl, sym, ap, ◌∙◌}
use mathlib.Core.Bool.{Bool, true, false, ◌&&◌}
use mathlib.Core.List.{List, [], ◌∷◌, ◌++◌}
use Rattle.std.specs.Prelude.{Option, Some, None}
use lib.Dec.{eqb}
use lib.Ieee.{Float}
use lib.ListN.{length, get_or, drop, length-drop}
use lib.Seq.{drop-drop, get_or-drop}
use borrow.Author.Tests.{eqb-true}
use Rattle.binary64.specs.Number.{pick}
use Rattle.stretch.specs.StretchLaws.{splice_nil}
use Rattle.sparse.specs.Sparse.{Entry}
use Rattle.laplace.specs.declared.element.Elements.{Elements}
use Rattle.laplace.specs.declared.element.Stiff.{Stiff}
use Rattle.laplace.specs.Mesh.{free}
use Rattle.laplace.specs.Assembly.{Push, triangle_pushes, pushes, insert, inserted}
use Rattle.laplace.specs.Element.{stiff_in, triangle_of}
use Rattle.laplace.specs.Corners.{first_from}
use Rattle.laplace.specs.Placed.{values_in, columns_in}
use Rattle.laplace.specs.Elements.{pushes_of}
use Rattle.laplace.specs.Right.{side_pushes, stiff_pushes}
use Rattle.laplace.specs.Row.{entries_in, Written, Tidy, Building, placed, three_placed, side_of, sides_placed, added_by, added, Linked}
use Rattle.laplace.proofs.LawsElement.{triangle_pushes_lem, triangle-within}
use Rattle.laplace.proofs.LawsCorners.{get_or_heads, get_or_links}
use Rattle.laplace.proofs.LawsRow.{written_then, tidy_none, tidy_by, by_longer, row_read}

-- ---- the walk, over the corners cs, which are numbered from k

unfoldable pub walked : List ℕ → Float → List Float → List ℕ → ℕ → ℕ → List ℕ → List Entry → List Entry
walked tags flat vs ts r k [] es = es
walked tags flat vs ts r k (x ∷ cs) es = walked tags flat vs ts r (suc k) cs (pick (eqb x r) (added tags flat vs ts k es) es)

-- from the corner with the number c - 1 on, and nothing for 0
unfoldable pub follow : List ℕ → Float → List Float → List ℕ → ℕ → ℕ → List Entry → List Entry
unfolding walked
follow tags flat vs ts r zero es = es
follow tags flat vs ts r (suc k) es = walked tags flat vs ts r (suc k) (drop (suc k) ts) (added tags flat vs ts k es)

drop-next : (ts : List ℕ) (k x : ℕ) (cs : List ℕ) → drop k ts ≡ x ∷ cs → drop (suc k) ts ≡ cs
drop-next ts k x cs e = ap (λ (i : ℕ). drop i ts) (sym (add-one k)) ∙ sym (drop-drop 1 k ts) ∙ ap (λ (l : List ℕ). drop 1 l) e

get_or-next : (ts : List ℕ) (k x : ℕ) (cs : List ℕ) → drop k ts ≡ x ∷ cs → get_or ts k 0 ≡ x
get_or-next ts k x cs e = ap (λ (i : ℕ). get_or ts i 0) (sym (add-zero k)) ∙ sym (get_or-drop k ts 0 0) ∙ ap (λ (l : List ℕ). get_or l 0 0) e

-- the first corner that is vertex r is where the walk goes on
pub walk_next : (tags : List ℕ) (flat : Float) (vs : List Float) (ts : List ℕ) (r k : ℕ) (cs : List ℕ) (es : List Entry) → drop k ts ≡ cs
    → walked tags flat vs ts r k cs es ≡ follow tags flat vs ts r (first_from k r cs) es
unfolding walked follow first_from
walk_next tags flat vs ts r k [] es e = refl
walk_next tags flat vs ts r k (x ∷ cs) es e = go (eqb x r) (walk_next tags flat vs ts r (suc k) cs es (drop-next ts k x cs e))
  where
    go : (b : Bool) → walked tags flat vs ts r (suc k) cs es ≡ follow tags flat vs ts r (first_from (suc k) r cs) es
        → walked tags flat vs ts r (suc k) cs (pick b (added tags flat vs ts k es) es) ≡ follow tags flat vs ts r (pick b (suc k) (first_from (suc k) r cs)) es
    go true h = ap (λ (l : List ℕ). walked tags flat vs ts r (suc k) l (added tags flat vs ts k es)) (sym (drop-next ts k x cs e))
    go false h = h

follow_on : (tags : List ℕ) (flat : Float) (vs : List Float) (ts : List ℕ) (r c : ℕ) (es : List Entry) → 0 < c
    → follow tags flat vs ts r c es ≡ walked tags flat vs ts r c (drop c ts) (added tags flat vs ts (c - 1) es)
unfolding follow
follow_on tags flat vs ts r zero es h = absurd (omega arith)
follow_on tags flat vs ts r (suc c) es h = let e : suc c - 1 ≡ c = omega arith in rw e

-- where it stands, if it is not 0
pub record First (ts : List ℕ) (k r c : ℕ) : Type 0 where
  pub within : c ≤ length ts
  pub later : 0 < c → k < c
  pub is : 0 < c → get_or ts (c - 1) 0 ≡ r

pub first_is : (ts : List ℕ) (k r : ℕ) (cs : List ℕ) → drop k ts ≡ cs → First ts k r (first_from k r cs)
unfolding first_from
first_is ts k r [] e = record { within = omega arith; later = λ (h : 0 < 0). absurd (omega arith); is = λ (h : 0 < 0). absurd (omega arith) }
first_is ts k r (x ∷ cs) e = go (eqb x r) refl (first_is ts (suc k) r cs (drop-next ts k x cs e))
  where
    go : (b : Bool) → eqb x r ≡ b → First ts (suc k) r (first_from (suc k) r cs) → First ts k r (pick b (suc k) (first_from (suc k) r cs))
    go true q f =
        let s : suc k - 1 ≡ k = omega arith in
        record { within = omega (arith, ap length e, length-drop k ts); later = λ (h : 0 < suc k). omega arith; is = λ (h : 0 < suc k). rw s (get_or-next ts k x cs e ∙ eqb-true x r q) }
    go false q f = record { within = f.within; later = λ (h : 0 < first_from (suc k) r cs). omega (arith, f.later h); is = f.is }

-- ---- the pushes of a row, corner by corner

inserted-append : (tags : List ℕ) (r : ℕ) (ps qs : List Push) (es : List Entry) → inserted tags r (ps ++ qs) es ≡ inserted tags r qs (inserted tags r ps es)
unfolding inserted
inserted-append tags r [] qs es = refl
inserted-append tags r (p ∷ ps) qs es = inserted-append tags r ps qs (pick (eqb p.row r && free tags p.col) (insert p.col p.value es) es)

pick_same : (b : Bool) (es : List Entry) → pick b es es ≡ es
pick_same true es = refl
pick_same false es = refl

-- the three of one corner, which is vertex v
side_inserted : (tags : List ℕ) (r v : ℕ) (q : List ℕ) (s : List Float) (es : List Entry) → inserted tags r (side_pushes v q s) es ≡ pick (eqb v r) (three_placed tags q s es) es
unfolding inserted side_pushes three_placed placed
side_inserted tags r v [] s es = sym (pick_same (eqb v r) es)
side_inserted tags r v (j ∷ q) [] es = sym (pick_same (eqb v r) es)
side_inserted tags r v (j ∷ q) (x ∷ s) es = go (eqb v r) (side_inserted tags r v q s)
  where
    go : (b : Bool) → ((l : List Entry) → inserted tags r (side_pushes v q s) l ≡ pick b (three_placed tags q s l) l)
        → inserted tags r (side_pushes v q s) (pick (b && free tags j) (insert j x es) es) ≡ pick b (three_placed tags q s (pick (free tags j) (insert j x es) es)) es
    go true h = h (pick (free tags j) (insert j x es) es)
    go false h = h es

-- the nine of a triangle
triangle-inserted : (tags : List ℕ) (flat : Float) (vs : List Float) (r i j k : ℕ) (es : List Entry)
    → (let q = i ∷ j ∷ k ∷ [] in let a = pick (eqb i r) (added_by tags flat vs q 0 es) es in let b = pick (eqb j r) (added_by tags flat vs q 1 a) a in
    inserted tags r (triangle_pushes flat vs i j k) es ≡ pick (eqb k r) (added_by tags flat vs q 2 b) b)
unfolding added_by inserted side_of sides_placed side_pushes stiff_pushes
triangle-inserted tags flat vs r i j k es = rw (triangle_pushes_lem flat vs (i ∷ j ∷ k ∷ [])) (go (stiff_in flat vs (i ∷ j ∷ k ∷ [])))
  where
    q : List ℕ
    q = i ∷ j ∷ k ∷ []

    added_if : Option Stiff → ℕ → ℕ → List Entry → List Entry
    added_if o v e l = pick (eqb v r) (sides_placed tags q e o l) l

    go : (o : Option Stiff) → inserted tags r (stiff_pushes q o) es ≡ added_if o k 2 (added_if o j 1 (added_if o i 0 es))
    go None = rw (pick_same (eqb i r) es, pick_same (eqb j r) es, pick_same (eqb k r) es)
    go (Some s) =
        let p0 = side_pushes i q (side_of s 0) in
        let p1 = side_pushes j q (side_of s 1) in
        let p2 = side_pushes k q (side_of s 2) in
        let y = added_if (Some s) i 0 es in
        let z = added_if (Some s) j 1 y in
        inserted-append tags r p0 (p1 ++ p2) es
        ∙ ap (λ (l : List Entry). inserted tags r (p1 ++ p2) l) (side_inserted tags r i q (side_of s 0) es)
        ∙ inserted-append tags r p1 p2 y
        ∙ ap (λ (l : List Entry). inserted tags r p2 l) (side_inserted tags r j q (side_of s 1) y)
        ∙ side_inserted tags r k q (side_of s 2) z

-- where a corner's triangle is
added-at : (tags : List ℕ) (flat : Float) (vs : List Float) (ts : List ℕ) (c q e : ℕ) (es : List Entry) → c ≡ 3 * q + e → e < 3 → added tags flat vs ts c es ≡ added_by tags flat vs (triangle_of ts q) e es
unfolding added
added-at tags flat vs ts c q e es h l =
    let d : c / 3 ≡ q = omega arith in
    let m : c % 3 ≡ e = omega arith in
    rw (d, m)

triangle-next : (ts : List ℕ) (k q i j l : ℕ) (cs : List ℕ) → k ≡ 3 * q → drop k ts ≡ i ∷ j ∷ l ∷ cs → triangle_of ts q ≡ i ∷ j ∷ l ∷ []
unfolding triangle_of
triangle-next ts k q i j l cs e d =
    let d1 : drop (suc k) ts ≡ j ∷ l ∷ cs = drop-next ts k i (j ∷ l ∷ cs) d in
    let d2 : drop (suc (suc k)) ts ≡ l ∷ cs = drop-next ts (suc k) j (l ∷ cs) d1 in
    let b : 3 * q + 1 ≡ suc k = omega arith in
    let c : 3 * q + 2 ≡ suc (suc k) = omega arith in
    let gi : get_or ts (3 * q) 0 ≡ i = ap (λ (x : ℕ). get_or ts x 0) (sym e) ∙ get_or-next ts k i (j ∷ l ∷ cs) d in
    let gj : get_or ts (3 * q + 1) 0 ≡ j = ap (λ (x : ℕ). get_or ts x 0) b ∙ get_or-next ts (suc k) j (l ∷ cs) d1 in
    let gl : get_or ts (3 * q + 2) 0 ≡ l = ap (λ (x : ℕ). get_or ts x 0) c ∙ get_or-next ts (suc (suc k)) l cs d2 in
    rw (gi, gj, gl)

-- the whole walk
pub walk_all : (tags : List ℕ) (flat : Float) (vs : List Float) (ts : List ℕ) (r k q m : ℕ) (cs : List ℕ) (es : List Entry) → k ≡ 3 * q → length cs ≡ 3 * m → drop k ts ≡ cs
    → walked tags flat vs ts r k cs es ≡ inserted tags r (pushes flat vs cs) es
unfolding walked inserted pushes
walk_all tags flat vs ts r k q m [] es a b d = refl
walk_all tags flat vs ts r k q m (i ∷ []) es a b d = absurd (omega arith)
walk_all tags flat vs ts r k q m (i ∷ j ∷ []) es a b d = absurd (omega arith)
walk_all tags flat vs ts r k q m (i ∷ j ∷ l ∷ cs) es a b d =
    let t = i ∷ j ∷ l ∷ [] in
    let p : triangle_of ts q ≡ t = triangle-next ts k q i j l cs a d in
    let by : (c e : ℕ) (x : List Entry) → c ≡ 3 * q + e → e < 3 → added tags flat vs ts c x ≡ added_by tags flat vs t e x =
    λ (c e : ℕ) (x : List Entry) (h : c ≡ 3 * q + e) (g : e < 3). added-at tags flat vs ts c q e x h g ∙ ap (λ (u : List ℕ). added_by tags flat vs u e x) p in
    let y0 = pick (eqb i r) (added_by tags flat vs t 0 es) es in
    let y1 = pick (eqb j r) (added_by tags flat vs t 1 y0) y0 in
    let y2 = pick (eqb l r) (added_by tags flat vs t 2 y1) y1 in
    let e0 : pick (eqb i r) (added tags flat vs ts k es) es ≡ y0 = rw (by k 0 es (omega arith) (omega arith)) in
    let e1 : pick (eqb j r) (added tags flat vs ts (suc k) y0) y0 ≡ y1 = rw (by (suc k) 1 y0 (omega arith) (omega arith)) in
    let e2 : pick (eqb l r) (added tags flat vs ts (suc (suc k)) y1) y1 ≡ y2 = rw (by (suc (suc k)) 2 y1 (omega arith) (omega arith)) in
    let d1 : drop (suc k) ts ≡ j ∷ l ∷ cs = drop-next ts k i (j ∷ l ∷ cs) d in
    let d2 : drop (suc (suc k)) ts ≡ l ∷ cs = drop-next ts (suc k) j (l ∷ cs) d1 in
    rw (e0, e1, e2)
    (walk_all tags flat vs ts r (suc (suc (suc k))) (suc q) (m - 1) cs y2 (omega arith) (omega arith) (drop-next ts (suc (suc k)) l cs d2)
    ∙ ap (λ (x : List Entry). inserted tags r (pushes flat vs cs) x) (sym (triangle-inserted tags flat vs r i j l es))
    ∙ sym (inserted-append tags r (triangle_pushes flat vs i j l) (pushes flat vs cs) es))

-- ---- the loop that walks

-- how far it is from the corner c - 1 to the last of m corners, and nothing for 0
unfoldable pub ahead : ℕ → ℕ → ℕ
ahead m zero = 0
ahead m (suc k) = m - k

pub ahead-less : (m c d : ℕ) → 0 < c → c ≤ m → (0 < d → c < d) → ahead m d < ahead m c
unfolding ahead
ahead-less m zero d h k f = absurd (omega arith)
ahead-less m (suc c) zero h k f = omega arith
ahead-less m (suc c) (suc d) h k f = omega (arith, f (omega arith))

-- after some turns the k entries es stand in the row, and the corner c - 1 is next
pub record Walking (m : Elements) (v₀ : List Float) (c₀ : List ℕ) (v : List Float) (w : List ℕ) (r k c : ℕ) : Type 0 where
  pub es : List Entry
  pub written : Written v₀ c₀ v w k es
  pub tidy : Tidy (length m.tags.now) es
  pub within : c ≤ length m.triangles.now
  pub corner : 0 < c → get_or m.triangles.now (c - 1) 0 ≡ r
  pub rest : follow m.tags.now m.flat m.vertices.now m.triangles.now r c es ≡ inserted m.tags.now r (pushes_of m) []

module _ (m : Elements) (v₀ : List Float) (c₀ heads links : List ℕ) (r : ℕ) (b : Building m v₀ c₀ 0) (l : Linked m heads links) (h : r < length m.tags.now) where
  pub walk_none : (c : ℕ) → c ≡ get_or heads r 0 → Walking m v₀ c₀ v₀ c₀ r 0 c
  unfolding values_in columns_in
  walk_none c e =
      let n = length m.tags.now in
      let ts = m.triangles.now in
      let t = length ts / 3 in
      let g : c ≡ first_from 0 r ts = e ∙ ap (λ (x : List ℕ). get_or x r 0) l.first ∙ get_or_heads 0 ts n r h in
      let s : First ts 0 r c = rw g (first_is ts 0 r ts refl) in
      record {
        es = [];
        written = record { count = refl; values = sym (splice_nil v₀ 0); columns = sym (splice_nil c₀ 0) };
        tidy = tidy_none n;
        within = s.within;
        corner = s.is;
        rest = rw g (sym (walk_next m.tags.now m.flat m.vertices.now ts r 0 ts [] refl) ∙ walk_all m.tags.now m.flat m.vertices.now ts r 0 0 t ts [] (omega arith) (omega (arith, b.mesh.whole)) refl);
      }

  module _ (v : List Float) (w : List ℕ) (k c : ℕ) (s : Walking m v₀ c₀ v w r k c) (p : 0 < c) (v' : List Float) (w' : List ℕ) (k' : ℕ)
      (a : Written v w v' w' k' (added m.tags.now m.flat m.vertices.now m.triangles.now (c - 1) (entries_in v w k))) where
    -- the entries after the corner
    next-written : Written v₀ c₀ v' w' k' (added m.tags.now m.flat m.vertices.now m.triangles.now (c - 1) s.es)
    unfolding added
    next-written =
        let n = length m.tags.now in
        let q = triangle_of m.triangles.now ((c - 1) / 3) in
        let es = added m.tags.now m.flat m.vertices.now m.triangles.now (c - 1) s.es in
        let f : length s.es ≤ length es = by_longer n m.tags.now m.flat m.vertices.now q ((c - 1) % 3) s.es in
        written_then v₀ c₀ v w k s.es s.written v' w' k' es f (rw (row_read m v₀ c₀ 0 b v w k s.es s.written s.tidy) at a)

    -- the corner after it
    next-corner : (d : ℕ) → d ≡ get_or links (c - 1) 0 → d ≡ first_from c r (drop c m.triangles.now)
    next-corner d e =
        let ts = m.triangles.now in
        let i = c - 1 in
        let a1 : suc (0 + i) ≡ c = omega arith in
        let a2 : suc i ≡ c = omega arith in
        e ∙ ap (λ (x : List ℕ). get_or x i 0) l.next
        ∙ get_or_links 0 ts i (omega (arith, s.within))
        ∙ ap (λ (x : ℕ). first_from x (get_or ts i 0) (drop (suc i) ts)) a1
        ∙ ap (λ (x : ℕ). first_from c x (drop (suc i) ts)) (s.corner p)
        ∙ ap (λ (x : ℕ). first_from c r (drop x ts)) a2

    pub walk_less : (d : ℕ) → d ≡ get_or links (c - 1) 0 → ahead (length m.triangles.now) d < ahead (length m.triangles.now) c
    walk_less d e =
        let ts = m.triangles.now in
        let u : First ts c r d = rw (next-corner d e) (first_is ts c r (drop c ts) refl) in
        ahead-less (length ts) c d p s.within u.later

    pub walk_again : (d : ℕ) → d ≡ get_or links (c - 1) 0 → Walking m v₀ c₀ v' w' r k' d
    unfolding added
    walk_again d e =
        let n = length m.tags.now in
        let tags = m.tags.now in
        let vs = m.vertices.now in
        let ts = m.triangles.now in
        let q = (c - 1) / 3 in
        let g : d ≡ first_from c r (drop c ts) = next-corner d e in
        let u : First ts c r d = rw g (first_is ts c r (drop c ts) refl) in
        record {
          es = added tags m.flat vs ts (c - 1) s.es;
          written = next-written;
          tidy = tidy_by n tags m.flat vs (triangle_of ts q) ((c - 1) % 3) s.es (triangle-within n ts q b.mesh.corners (omega (arith, s.within, b.mesh.whole))) s.tidy;
          within = u.within;
          corner = u.is;
          rest = rw g (sym (walk_next tags m.flat vs ts r c (drop c ts) (added tags m.flat vs ts (c - 1) s.es) refl) ∙ sym (follow_on tags m.flat vs ts r c s.es p) ∙ s.rest);
        }

  pub walk_done : (v : List Float) (w : List ℕ) (k c : ℕ) → c ≡ 0 → Walking m v₀ c₀ v w r k c → Written v₀ c₀ v w k (inserted m.tags.now r (pushes_of m) [])
  unfolding follow
  walk_done v w k c e s = rw (← s.rest, e) s.written
