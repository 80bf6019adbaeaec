-- Laws of a mesh in its buffers: what each accessor reads where its list stands, and the bounds of corners and neighbours.
-- Assumes nothing.
use Rattle.std.specs.Prelude.{◌≡◌, ◌⊎◌, List, ℕ, ◌+◌, ◌*◌, ◌≤◌, ◌<◌, length, get_or, Float, refl, Bool, true, false, not, eqb, Option, Some, None, is_some, unwrap_or}
use Rattle.std.proofs.Common.{sym, ⊎_elim, arith, ◌∙◌, ap}
use Rattle.std.proofs.lemmas.Bool.{false≢true}
use Rattle.binary64.specs.Number.{pick}
use Rattle.std.specs.Float.{nan}
use Rattle.plane.specs.Plane.{point}
use Rattle.stretch.specs.StretchLaws.{length_part, get_d_part}
use Rattle.mesh.specs.Mesh.{vertex, corner, neighbour, tag_of, no_neighbour, triangle_of, triangle_count}
use Rattle.mesh.specs.Pair.{pair_read}
use Rattle.mesh.specs.Work.{vertices_of, triangles_of, neighbours_of, tags_of, MeshAt, IsMesh, Linked, Meshed, Corner}

-- ---- the lists' lengths

pub length_vertices : (floats : List Float) (m : MeshAt) → m.vertices + 2 * m.n ≤ length floats → length (vertices_of floats m) ≡ 2 * m.n
unfolding vertices_of
length_vertices floats m h = length_part floats m.vertices (2 * m.n) h

pub length_triangles : {words : List ℕ} {m : MeshAt} → Linked words m → length (triangles_of words m) ≡ 3 * m.t
unfolding triangles_of
length_triangles {words} {m} l = length_part words m.triangles (3 * m.t) l.triangles_fit

pub length_neighbours : {words : List ℕ} {m : MeshAt} → Linked words m → length (neighbours_of words m) ≡ 3 * m.t
unfolding neighbours_of
length_neighbours {words} {m} l = length_part words m.neighbours (3 * m.t) l.neighbours_fit

-- ---- the bounds

pub corner_below : {words : List ℕ} {m : MeshAt} → Linked words m → (t e : ℕ) → t < m.t → e < 3 → corner (triangles_of words m) t e < m.n
unfolding corner
corner_below {words} {m} l t e h k = l.corners.at (3 * t + e) (omega (arith, length_triangles l))

pub neighbour-within : {words : List ℕ} {m : MeshAt} → Linked words m → (t e : ℕ) → t < m.t → e < 3
    → (neighbour (neighbours_of words m) t e ≡ no_neighbour) ⊎ (neighbour (neighbours_of words m) t e < m.t)
unfolding neighbour
neighbour-within {words} {m} l t e h k = l.neighbours.at (3 * t + e) (omega (arith, length_neighbours l))

-- a neighbour that is not none is a triangle
pub neighbour_below : {words : List ℕ} {m : MeshAt} → Linked words m → (t e : ℕ) → t < m.t → e < 3
    → (neighbour (neighbours_of words m) t e ≡ no_neighbour → ⊥) → neighbour (neighbours_of words m) t e < m.t
neighbour_below {words} {m} l t e h k other = ⊎_elim (λ p. absurd (other p)) (λ p. p) (neighbour-within l t e h k)

-- ---- what is read

pub vertex_read_lem : (floats : List Float) (m : MeshAt) (i : ℕ) → i < m.n → point (get_or floats (m.vertices + 2 * i) nan) (get_or floats (m.vertices + 2 * i + 1) nan) ≡ vertex (vertices_of floats m) i
unfolding vertex vertices_of
vertex_read_lem floats m i h = pair_read floats m.vertices m.n i h

pub corner-read : (words : List ℕ) (m : MeshAt) (t e : ℕ) → t < m.t → e < 3 → get_or words (m.triangles + (3 * t + e)) 0 ≡ corner (triangles_of words m) t e
unfolding corner triangles_of
corner-read words m t e h k = sym (get_d_part words m.triangles (3 * m.t) (3 * t + e) 0 (omega arith))

pub neighbour-read : (words : List ℕ) (m : MeshAt) (t e : ℕ) → t < m.t → e < 3 → get_or words (m.neighbours + (3 * t + e)) 0 ≡ neighbour (neighbours_of words m) t e
unfolding neighbour neighbours_of
neighbour-read words m t e h k = sym (get_d_part words m.neighbours (3 * m.t) (3 * t + e) 0 (omega arith))

pub tag_read : (words : List ℕ) (m : MeshAt) (i : ℕ) → i < m.n → get_or words (m.tags + i) 0 ≡ tag_of (tags_of words m) i
unfolding tag_of tags_of
tag_read words m i h = sym (get_d_part words m.tags m.n i 0 h)

-- a corner that was read, with its bound
pub corner_answer : {words : List ℕ} {m : MeshAt} {t e r : ℕ} → Linked words m → t < m.t → e < 3 → r ≡ get_or words (m.triangles + (3 * t + e)) 0 → Corner r m.n (corner (triangles_of words m) t e)
corner_answer {words} {m} {t} {e} l h k p =
    let q = p ∙ corner-read words m t e h k in
    let b = corner_below l t e h k in
    record { is = q; below = omega (arith, q, b) }

-- the vertices' buffer may change, as long as it is as long
pub meshed_as_long : {floats floats' : List Float} {words : List ℕ} {m : MeshAt} → Meshed floats words m → length floats' ≡ length floats → Meshed floats' words m
meshed_as_long {floats} {floats'} {words} {m} h e = record { linked = h.linked; vertices_fit = omega (arith, h.vertices_fit) }

-- ---- the lists that stand there are those of a mesh

pub count_of_thirds : (ts : List ℕ) (t : ℕ) → length ts ≡ 3 * t → triangle_count ts ≡ t
count_of_thirds ts t e = omega (arith, e)

pub meshed_is : {floats : List Float} {words : List ℕ} {m : MeshAt} → Meshed floats words m → IsMesh (vertices_of floats m) (triangles_of words m) (neighbours_of words m) (tags_of words m)
unfolding tags_of
meshed_is {floats} {words} {m} h =
    let l = h.linked in
    let lv = length_vertices floats m h.vertices_fit in
    let lt = length_triangles l in
    let ln = length_neighbours l in
    let lg : length (tags_of words m) ≡ m.n = length_part words m.tags m.n l.tags_fit in
    let c = count_of_thirds (triangles_of words m) m.t lt in
    record {
      vertices_long = omega (arith, lv, lg);
      triangles_whole = omega (arith, lt, c);
      neighbours_long = omega (arith, lt, ln);
      corners = λ k h. omega (arith, l.corners.at k h, lg);
      neighbours = λ k h some. ⊎_elim (λ p. absurd (some p)) (λ p. omega (arith, p, c)) (l.neighbours.at k h);
    }

-- ---- the triangle that a word names

pub is_some_over : (w : ℕ) → is_some (triangle_of w) ≡ not (eqb w no_neighbour)
is_some_over w = by (eqb w no_neighbour)
  where
    by : (b : Bool) → is_some (pick b None (Some w)) ≡ not b
    by true = refl
    by false = refl

pub none_over : (w : ℕ) → None ≡ triangle_of w → eqb w no_neighbour ≡ true
none_over w h = by (eqb w no_neighbour) (ap is_some h ∙ is_some_over w)
  where
    by : (b : Bool) → false ≡ not b → b ≡ true
    by true h = refl
    by false h = absurd (false≢true h)

pub some_over : (w : ℕ) {k : ℕ} → Some k ≡ triangle_of w → (eqb w no_neighbour ≡ false) × (k ≡ w)
some_over w {k} h =
    let e = by (eqb w no_neighbour) (ap is_some h ∙ is_some_over w) in
    (e, ap (λ (o : Option ℕ). unwrap_or o 0) (rw e at h))
  where
    by : (b : Bool) → true ≡ not b → b ≡ false
    by true h = absurd (false≢true (sym h))
    by false h = refl

-- and it is one of the mesh
pub over_below : {vs : List Float} {ts ns tags : List ℕ} → IsMesh vs ts ns tags → (t e : ℕ) → t < triangle_count ts → e < 3 → (neighbour ns t e ≡ no_neighbour → ⊥)
    → neighbour ns t e < triangle_count ts
unfolding neighbour
over_below {vs} {ts} {ns} {tags} m t e h k some = m.neighbours (3 * t + e) (omega (arith, m.neighbours_long, m.triangles_whole)) some
