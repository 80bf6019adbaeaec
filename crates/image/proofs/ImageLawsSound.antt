-- What a call checks of a record and of its words holds of every image: the counts of its place and of its mark, and the indices in its words.
-- Assumes nothing.
use Rattle.std.specs.Prelude.{ℕ, zero, suc, ◌+◌, ◌-◌, ◌*◌, ◌≤◌, ◌<◌, ◌≡◌, ◌≢◌, ◌⊎◌, Bool, true, false, not, ◌&&◌, ◌||◌, List, [], ◌∷◌, ◌++◌, eqb, leb, ltb, get_or, replicate, Option, Some, None}
use Rattle.std.proofs.Math.Path.{refl}
use Rattle.std.proofs.Common.{sym, ⊎_elim, append_assoc, append-nil, arith, length-append}
use Rattle.std.proofs.Math.ListN.{length}
use borrow.Author.Tests.{le-leb, lt-ltb, eq-eqb, eqb-true, eqb-false}
use Rattle.binary64.specs.Number.{pick}
use Rattle.stretch.specs.Stretch.{flat}
use Rattle.sparse.specs.Sparse.{Entry}
use Rattle.sparse.specs.Scan.{all_below, rises_from, rises}
use Rattle.mesh.specs.Mesh.{no_neighbour}
use Rattle.mesh.specs.Element as element
use Rattle.laplace.specs.Assembly.{Push, pushes, row, rows}
use Rattle.laplace.specs.Matrix.{Below, AllBelow, PushedBelow, row_below, pushes_below}
use Rattle.laplace.specs.Placed.{columns_in, columns_of, starts_from, starts_of, padded}
use Rattle.model.specs.Task.{Task, vertex_count, triangle_count}
use Rattle.model.specs.Space.{factor, farthest}
use Rattle.model.specs.Run.{at, matrix_of, last_place}
use Rattle.model.specs.Sized.{Sized}
use Rattle.model.proofs.RunLaws.{crossings_left, crossings_bound, last_bound, norms_some, norms_below, norms_bound, points_bound, walk_triangle, walk_zero_or_below, walk_edge, field_end_bound, path_end_bound}
use Rattle.image.specs.Calls.{triangle_sound, stand_sound, mark_sound, all_none_or_below, words_sound}
use Rattle.image.specs.CallLaws.{and_true, both}
use Rattle.image.specs.Image.{plan_of, stand_of, mark_of, words_of}
use Rattle.image.proofs.ImageLawsLengths.{few}
use Rattle.image.proofs.ImageLawsRead.{words_triangles, words_neighbours, words_starts, words_columns}

-- ---- one number or below another

that_or_below : (k t w : ℕ) → (w ≡ k) ⊎ (w < t) → (eqb w k || ltb w t) ≡ true
that_or_below k t w h = ⊎_elim (λ (e : w ≡ k). rw (eq-eqb w k e)) (λ (l : w < t). rw (lt-ltb w t l) (either (eqb w k))) h
  where
    either : (b : Bool) → (b || true) ≡ true
    either true = refl
    either false = refl

-- ---- the counts of a place and of a mark

module _ (c : Task) (z : Sized c) where
  abbrev n : ℕ
  n = vertex_count c

  abbrev t : ℕ
  t = triangle_count c

  norms_in_lem : (p : ℕ) (b : Bool) → eqb (at c p).field.end 0 ≡ b → length (at c p).field.norms ≤ c.limit + pick b 0 1
  norms_in_lem p true e = omega (arith, norms_below c p (eqb-true (at c p).field.end 0 e))
  norms_in_lem p false e = norms_bound c p

  ended_or_left : (p : ℕ) (b : Bool) → (at c p).trail.walk.points ≢ 0 → eqb (at c p).trail.walk.end 0 ≡ b → (not b || ltb (at c p).trail.crossings (factor * t)) ≡ true
  ended_or_left p true k e = lt-ltb (at c p).trail.crossings (factor * t) (crossings_left c p k (eqb-true (at c p).trail.walk.end 0 e))
  ended_or_left p false k e = refl

  walk_sound : (p : ℕ) (b : Bool) → eqb (at c p).trail.walk.points 0 ≡ b
      → (b || (ltb (at c p).trail.walk.triangle t && (not (eqb (at c p).trail.walk.end 0) || ltb (at c p).trail.crossings (factor * t)))) ≡ true
  walk_sound p true e = refl
  walk_sound p false e =
      let k : (at c p).trail.walk.points ≢ 0 = eqb-false (at c p).trail.walk.points 0 e in
      both (ltb (at c p).trail.walk.triangle t) (not (eqb (at c p).trail.walk.end 0) || ltb (at c p).trail.crossings (factor * t))
      (lt-ltb (at c p).trail.walk.triangle t (walk_triangle c z p (omega arith))) (ended_or_left p (eqb (at c p).trail.walk.end 0) k refl)

  triangle_sound_lem : (p : ℕ) → triangle_sound t (at c p).trail.walk.triangle ≡ true
  triangle_sound_lem p = that_or_below 0 t (at c p).trail.walk.triangle (walk_zero_or_below c z p)

  pub stand_sound_lem : (p : ℕ) → p ≤ last_place c → stand_sound (plan_of c) (stand_of p (at c p)) ≡ true
  unfolding stand_sound
  stand_sound_lem p h =
      let far : p ≤ farthest t c.limit = omega (arith, last_bound c) in
      rw (
        le-leb p (farthest t c.limit) far,
        le-leb 1 (length (at c p).field.norms) (norms_some c p),
        le-leb (length (at c p).field.norms) (c.limit + pick (eqb (at c p).field.end 0) 0 1) (norms_in_lem p (eqb (at c p).field.end 0) refl),
        le-leb (at c p).field.end 3 (field_end_bound c p),
        le-leb (at c p).trail.walk.end 9 (path_end_bound c p),
        le-leb (at c p).trail.walk.edge 3 (walk_edge c z p),
        triangle_sound_lem p,
        le-leb (at c p).trail.walk.points c.room (points_bound c z.room p),
        le-leb (at c p).trail.crossings (factor * t) (crossings_bound c p),
      )
      (walk_sound p (eqb (at c p).trail.walk.points 0) refl)

  -- a mark at a place of the run
  abbrev pub MarkIn : Option ℕ → Type 0
  MarkIn None = Unit {0}
  MarkIn (Some q) = q ≤ last_place c

  pub mark_sound_lem : (m : Option ℕ) → MarkIn m → mark_sound (plan_of c) (mark_of c m) ≡ true
  unfolding mark_sound
  mark_sound_lem None h = refl
  mark_sound_lem (Some q) h =
      let far : q ≤ farthest t c.limit = omega (arith, last_bound c) in
      rw (le-leb q (farthest t c.limit) far, le-leb 1 (length (at c q).field.norms) (norms_some c q)) (le-leb (length (at c q).field.norms) (c.limit + 1) (norms_bound c q))

-- ---- lists of indices

pub below_each : (n : ℕ) (ws : List ℕ) → ((i : ℕ) → i < length ws → get_or ws i 0 < n) → (all_below n ws ≡ true) × AllBelow n ws
unfolding all_below AllBelow
below_each n [] h = (refl, tt)
below_each n (w ∷ ws) h =
    let r : (all_below n ws ≡ true) × AllBelow n ws = below_each n ws (λ (i : ℕ) (k : i < length ws). h (suc i) (omega arith)) in
    let k : w < n = h 0 (omega arith) in
    (both (ltb w n) (all_below n ws) (lt-ltb w n k) r.0, (k, r.1))

none_each : (t : ℕ) (ws : List ℕ) → ((i : ℕ) → i < length ws → (get_or ws i 0 ≡ no_neighbour) ⊎ (get_or ws i 0 < t)) → all_none_or_below t ws ≡ true
unfolding all_none_or_below
none_each t [] h = refl
none_each t (w ∷ ws) h =
    both (eqb w no_neighbour || ltb w t) (all_none_or_below t ws) (that_or_below no_neighbour t w (h 0 (omega arith))) (none_each t ws (λ (i : ℕ) (k : i < length ws). h (suc i) (omega arith)))

-- ---- row starts

starts_rise : (top a b : ℕ) (rs : List (List Entry)) → a ≤ b → b + length (flat rs) ≤ top → rises_from top a (starts_from b rs) ≡ true
unfolding rises_from starts_from flat
starts_rise top a b [] h k = both (leb a b) (leb b top) (le-leb a b h) (le-leb b top (omega arith))
starts_rise top a b (es ∷ rs) h k =
    let l : length (es ++ flat rs) ≡ length es + length (flat rs) = length-append es (flat rs) in
    both (leb a b) (rises_from top b (starts_from (b + length es) rs)) (le-leb a b h) (starts_rise top b (b + length es) rs (omega arith) (omega arith))

pub starts_sound : (top : ℕ) (rs : List (List Entry)) → length (flat rs) ≤ top → rises top (starts_of rs) ≡ true
unfolding rises starts_from rises_from flat
starts_sound top [] h = le-leb 0 top (omega arith)
starts_sound top (es ∷ rs) h =
    let l : length (es ++ flat rs) ≡ length es + length (flat rs) = length-append es (flat rs) in
    starts_rise top 0 (0 + length es) rs (omega arith) (omega arith)

-- ---- columns

below_append : (n : ℕ) (us vs : List ℕ) → all_below n us ≡ true → all_below n vs ≡ true → all_below n (us ++ vs) ≡ true
unfolding all_below
below_append n [] vs h k = k
below_append n (u ∷ us) vs h k =
    let e : (ltb u n ≡ true) × (all_below n us ≡ true) = and_true (ltb u n) (all_below n us) h in
    both (ltb u n) (all_below n (us ++ vs)) e.0 (below_append n us vs e.1 k)

columns_in_below : (n : ℕ) (es : List Entry) → Below n es → all_below n (columns_in es) ≡ true
unfolding all_below columns_in Below
columns_in_below n [] h = refl
columns_in_below n (e ∷ es) h = both (ltb e.col n) (all_below n (columns_in es)) (lt-ltb e.col n h.0) (columns_in_below n es h.1)

columns_append : (rs qs : List (List Entry)) → columns_of (rs ++ qs) ≡ columns_of rs ++ columns_of qs
unfolding columns_of
columns_append [] qs = refl
columns_append (es ∷ rs) qs = rw (columns_append rs qs) (sym (append_assoc (columns_in es) (columns_of rs) (columns_of qs)))

columns_below : (n : ℕ) (tags : List ℕ) (ps : List Push) (k : ℕ) → k ≤ n → PushedBelow n ps → all_below n (columns_of (rows tags ps k)) ≡ true
unfolding rows columns_of all_below
columns_below n tags ps zero h q = refl
columns_below n tags ps (suc k) h q =
    rw (columns_append (rows tags ps k) (row tags ps k ∷ []))
    (below_append n (columns_of (rows tags ps k)) (columns_in (row tags ps k) ++ []) (columns_below n tags ps k (omega arith) q)
    (rw (append-nil) (columns_in_below n (row tags ps k) (row_below n tags ps k h q))))

zeros_below : (n k : ℕ) → (k ≢ 0 → 0 < n) → all_below n (replicate k 0) ≡ true
unfolding all_below
zeros_below n zero h = refl
zeros_below n (suc k) h = let e : 0 < n = h (omega arith) in both (ltb 0 n) (all_below n (replicate k 0)) (lt-ltb 0 n e) (zeros_below n k (λ (y : k ≢ 0). e))

-- ---- the words of an image

module _ (c : Task) (h : Sized c) (rest : List ℕ) where
  corners_below : (all_below (vertex_count c) c.triangles ≡ true) × AllBelow (vertex_count c) c.triangles
  corners_below = below_each (vertex_count c) c.triangles h.corners

  -- a sheet with triangles has vertices
  some_vertex : (k : ℕ) → 9 * triangle_count c + vertex_count c - k ≢ 0 → 0 < vertex_count c
  some_vertex k e = go (vertex_count c) refl
    where
      go : (n : ℕ) → vertex_count c ≡ n → 0 < n
      go (suc n) y = omega arith
      go zero y =
          let l : length c.triangles ≡ 3 * triangle_count c = h.triangles in
          absurd (none_left (triangle_count c) refl)
        where
          none_left : (t : ℕ) → triangle_count c ≡ t → ⊥
          none_left zero q = e (omega arith)
          none_left (suc t) q = let b : get_or c.triangles 0 0 < vertex_count c = h.corners 0 (omega (arith, h.triangles)) in omega arith

  columns_sound : all_below (vertex_count c) (padded (9 * triangle_count c + vertex_count c) 0 (columns_of (matrix_of c))) ≡ true
  unfolding padded matrix_of
  columns_sound =
      below_append (vertex_count c) (columns_of (matrix_of c)) (replicate (9 * triangle_count c + vertex_count c - length (columns_of (matrix_of c))) 0)
      (columns_below (vertex_count c) c.tags (pushes element.flat c.vertices c.triangles) (vertex_count c) (omega arith) (pushes_below (vertex_count c) element.flat c.vertices c.triangles corners_below.1))
      (zeros_below (vertex_count c) (9 * triangle_count c + vertex_count c - length (columns_of (matrix_of c))) (some_vertex (length (columns_of (matrix_of c)))))

  pub words_sound_lem : words_sound (plan_of c) (words_of c rest) ≡ true
  unfolding words_sound
  words_sound_lem =
      let n = vertex_count c in
      let t = triangle_count c in
      rw (words_triangles c h rest, words_neighbours c h rest, words_starts c h rest, words_columns c h rest, corners_below.0, none_each t c.neighbours h.in_range, starts_sound (9 * t + n) (matrix_of c) (few c h))
      columns_sound
