-- Laws of the items of a sheet put one after the other into a lent buffer: all of a section are the list of the content.
-- Assumes nothing.
use Prim.Native.Nat.{ℕ, zero, suc, ◌+◌, ◌-◌, ◌*◌, ◌≤◌, ◌<◌}
use mathlib.Core.Path.{◌≡◌, sym, ap, ◌∙◌}
use mathlib.Core.List.{List, [], ◌∷◌, ◌++◌}
use native.Mathlib.Nat.{zero-add}
use native.Mathlib.Omega.{arith}
use lib.ListN.{length, get_or, take, drop, length-drop}
use lib.Seq.{take_all}
use Rattle.std.proofs.lemmas.List.{drop-drop, length-take-le}
use lib.Ieee.{Float}
use Rattle.binary64.specs.Constants.{plus_zero}
use Rattle.stretch.specs.Stretch.{part, splice}
use Rattle.stretch.specs.StretchLaws.{part_zero, part_all, part_add, part_cons, splice_is, length-splice}
use Rattle.format.specs.Content.{Content, vertex_count, triangle_count}
use Rattle.format.specs.Sheet.{content_of}
use Rattle.sheet.specs.declared.Header.{Header}
use Rattle.sheet.specs.Items.{coordinate_in, whole_in}
use Rattle.sheet.specs.Answer.{header_of}
use Rattle.sheet.specs.ItemLaws.{coordinate_item, corner_item, neighbour_item, tag_item}
use Rattle.model.specs.Task.{task_of, task}
use Rattle.image.specs.Opening.{joined, coordinate_read, coordinates_read, number_read, tag_read, numbers_read, tags_read, Read, Loaded}

module _ {A : Type 0} where
  -- ---- what they are: a list of k times w elements, if each item is its w elements of it

  joined-front : (w : ℕ) (f : ℕ → List A) (l : List A) (k : ℕ) → ((i : ℕ) → i < k → f i ≡ part l (w * i) w) → (j : ℕ) → j ≤ k → joined f j ≡ part l 0 (w * j)
  unfolding joined
  joined-front w f l k h zero q = let e : w * 0 ≡ 0 = omega arith in rw e (sym (part_zero l 0))
  joined-front w f l k h (suc j) q =
      let e : w * suc j ≡ w * j + w = omega arith in
      rw (joined-front w f l k h j (omega arith), h j (omega arith), e) (ap (λ (x : ℕ). part l 0 (w * j) ++ part l x w) (sym (zero-add (w * j))) ∙ sym (part_add l 0 (w * j) w))

  pub joined_is : (w : ℕ) (f : ℕ → List A) (l : List A) (k : ℕ) → length l ≡ w * k → ((i : ℕ) → i < k → f i ≡ part l (w * i) w) → joined f k ≡ l
  joined_is w f l k e h = joined-front w f l k h k (omega arith) ∙ part_all l (w * k) (omega arith)

  one_of : (l : List A) (i : ℕ) (d : A) → i < length l → part l (1 * i) 1 ≡ get_or l i d ∷ []
  one_of l i d h = let e : 1 * i ≡ i = omega arith in rw e (part_cons l i 0 d h ∙ rw part_zero)

-- a part that is put back stands at its place
put_back : {A : Type 0} (s new : List A) (at end n : ℕ) → end ≡ at + n → end ≤ length s → length new ≡ n → take at s ++ (new ++ drop (end - at) (drop at s)) ≡ splice s at new
put_back s new at end n d h e = let m : end - at ≡ n = omega arith in rw (m, drop-drop) (sym (splice_is s new at n e (omega arith)))

-- the items that stand in turn
items_are : {A : Type 0} (new : List A) (f : ℕ → A) (none : A) (n : ℕ) → length new ≡ n → ((i : ℕ) → i < n → get_or new i none ≡ f i) → new ≡ joined (λ i. f i ∷ []) n
items_are {A} new f none n e h = sym (joined_is 1 (λ i. f i ∷ []) new n (omega (arith, e)) (λ i k. ap (λ (x : A). x ∷ []) (sym (h i k)) ∙ sym (one_of new i none (omega arith))))

-- ---- the sections of an accepted sheet

-- the part of the sheet from a place on
abbrev from : List ℕ → ℕ → List ℕ
from s k = take (length s - k) (drop k s)

from_is : (s : List ℕ) (k : ℕ) → from s k ≡ drop k s
from_is s k = take_all (length s - k) (drop k s) (omega (arith, length-drop k s))

module _ (sheet : List ℕ) (h : Header) (read : Read sheet h) where
  abbrev c : Content
  c = content_of sheet

  vertices_read_lem : coordinates_read (from sheet h.vertices) (2 * h.n) ≡ c.vertices
  vertices_read_lem =
      rw (read.is.header, from_is sheet (header_of c).vertices)
      (joined_is 1 (coordinate_read (drop (header_of c).vertices sheet)) c.vertices (2 * vertex_count c) (omega (arith, read.good.pairs))
      (λ k l. ap (λ (x : Float). x ∷ []) (coordinate_item sheet c read.is.parsed k l) ∙ sym (one_of c.vertices k plus_zero (omega (arith, read.good.pairs)))))

  triangles_read : numbers_read (from sheet h.triangles) (3 * h.t) ≡ c.triangles
  triangles_read =
      rw (read.is.header, from_is sheet (header_of c).triangles)
      (joined_is 1 (number_read (drop (header_of c).triangles sheet)) c.triangles (3 * triangle_count c) (omega (arith, read.good.triples))
      (λ i k. ap (λ (x : ℕ). x ∷ []) (corner_item sheet c read.is.parsed i k) ∙ sym (one_of c.triangles i 0 (omega (arith, read.good.triples)))))

  neighbours_read : numbers_read (from sheet h.neighbours) (3 * h.t) ≡ c.neighbours
  neighbours_read =
      rw (read.is.header, from_is sheet (header_of c).neighbours)
      (joined_is 1 (number_read (drop (header_of c).neighbours sheet)) c.neighbours (3 * triangle_count c) (omega (arith, read.good.edges))
      (λ i k. ap (λ (x : ℕ). x ∷ []) (neighbour_item sheet c read.is.parsed i k) ∙ sym (one_of c.neighbours i 0 (omega (arith, read.good.edges)))))

  tags_read_lem : tags_read (from sheet h.tags) h.n ≡ c.tags
  tags_read_lem =
      rw (read.is.header, from_is sheet (header_of c).tags)
      (joined_is 1 (tag_read (drop (header_of c).tags sheet)) c.tags (vertex_count c) (omega (arith, read.good.tagged))
      (λ i k. ap (λ (x : ℕ). x ∷ []) (tag_item sheet c read.is.parsed i k) ∙ sym (one_of c.tags i 0 (omega (arith, read.good.tagged)))))

  -- so what the four sections leave is the mesh of the content's task
  pub loaded : (floats floats' : List Float) (words words₁ words₂ words' : List ℕ) → floats' ≡ splice floats 0 (coordinates_read (from sheet h.vertices) (2 * h.n))
      → words₁ ≡ splice words 0 (numbers_read (from sheet h.triangles) (3 * h.t))
      → words₂ ≡ splice words₁ (3 * h.t) (numbers_read (from sheet h.neighbours) (3 * h.t))
      → words' ≡ splice words₂ (6 * h.t) (tags_read (from sheet h.tags) h.n)
      → Loaded (task c) floats words floats' words'
  unfolding task_of
  loaded floats floats' words words₁ words₂ words' ev e1 e2 e3 =
      let t : h.t ≡ triangle_count c = ap (λ (x : Header). x.t) read.is.header in
      record {
        floats_are = ev ∙ ap (λ (x : List Float). splice floats 0 x) vertices_read_lem;
        words_are = e3 ∙ rw (tags_read_lem, e2, neighbours_read, e1, triangles_read, t);
      }

  -- the same, by the parts of the buffers that the items are put into
  module _ (floats points : List Float) (words corners edges kinds : List ℕ) where
    abbrev after_points : List Float
    after_points = points ++ drop (2 * h.n) floats

    abbrev after_corners : List ℕ
    after_corners = corners ++ drop (3 * h.t) words

    abbrev after_edges : List ℕ
    after_edges = take (3 * h.t) after_corners ++ (edges ++ drop (6 * h.t - 3 * h.t) (drop (3 * h.t) after_corners))

    abbrev after_kinds : List ℕ
    after_kinds = take (6 * h.t) after_edges ++ (kinds ++ drop (6 * h.t + h.n - 6 * h.t) (drop (6 * h.t) after_edges))

    pub loaded_parts : 2 * h.n ≤ length floats → 6 * h.t + h.n ≤ length words
        → length points ≡ length (take (2 * h.n) floats) → length corners ≡ length (take (3 * h.t) words) → length edges ≡ length (take (6 * h.t - 3 * h.t) (drop (3 * h.t) after_corners)) → length kinds ≡ length (take (6 * h.t + h.n - 6 * h.t) (drop (6 * h.t) after_edges))
        → ((i : ℕ) → i < length (take (2 * h.n) floats) → get_or points i plus_zero ≡ coordinate_in (from sheet h.vertices) i)
        → ((i : ℕ) → i < length (take (3 * h.t) words) → get_or corners i 0 ≡ whole_in (from sheet h.triangles) i)
        → ((i : ℕ) → i < length (take (6 * h.t - 3 * h.t) (drop (3 * h.t) after_corners)) → get_or edges i 0 ≡ whole_in (from sheet h.neighbours) i)
        → ((i : ℕ) → i < length (take (6 * h.t + h.n - 6 * h.t) (drop (6 * h.t) after_edges)) → get_or kinds i 0 ≡ get_or (from sheet h.tags) i 0)
        → Loaded (task c) floats words after_points after_kinds
    loaded_parts room fits l0 l1 l2 l3 g0 g1 g2 g3 =
        let k0 : length points ≡ 2 * h.n = l0 ∙ length-take-le (2 * h.n) floats (omega arith) in
        let e0 : after_points ≡ splice floats 0 points = rw zero-add at (sym (splice_is floats points 0 (2 * h.n) k0 (omega arith))) in
        let p0 : splice floats 0 points ≡ splice floats 0 (coordinates_read (from sheet h.vertices) (2 * h.n)) =
        ap (splice floats 0) (items_are points (coordinate_in (from sheet h.vertices)) plus_zero (2 * h.n) k0 (λ i k. g0 i (omega arith))) in
        let w₁ = splice words 0 corners in
        let w₂ = splice w₁ (3 * h.t) edges in
        let k1 : length corners ≡ 3 * h.t = l1 ∙ length-take-le (3 * h.t) words (omega arith) in
        let m₁ : length w₁ ≡ length words = length-splice words 0 corners in
        let m₂ : length w₂ ≡ length w₁ = length-splice w₁ (3 * h.t) edges in
        let e1 : after_corners ≡ w₁ = rw zero-add at (sym (splice_is words corners 0 (3 * h.t) k1 (omega arith))) in
        let d1 : length after_corners ≡ length words = ap length e1 ∙ m₁ in
        let k2 : length edges ≡ 3 * h.t = l2 ∙ length-take-le (6 * h.t - 3 * h.t) (drop (3 * h.t) after_corners) (omega (arith, length-drop (3 * h.t) after_corners)) ∙ omega arith in
        let e2 : after_edges ≡ w₂ = put_back after_corners edges (3 * h.t) (6 * h.t) (3 * h.t) (omega arith) (omega arith) k2 ∙ ap (λ (w : List ℕ). splice w (3 * h.t) edges) e1 in
        let d2 : length after_edges ≡ length words = ap length e2 ∙ m₂ ∙ m₁ in
        let k3 : length kinds ≡ h.n = l3 ∙ length-take-le (6 * h.t + h.n - 6 * h.t) (drop (6 * h.t) after_edges) (omega (arith, length-drop (6 * h.t) after_edges)) ∙ omega arith in
        let e3 : after_kinds ≡ splice w₂ (6 * h.t) kinds =
        put_back after_edges kinds (6 * h.t) (6 * h.t + h.n) h.n (omega arith) (omega arith) k3 ∙ ap (λ (w : List ℕ). splice w (6 * h.t) kinds) e2 in
        let p1 : w₁ ≡ splice words 0 (numbers_read (from sheet h.triangles) (3 * h.t)) =
        ap (splice words 0) (items_are corners (whole_in (from sheet h.triangles)) 0 (3 * h.t) k1 (λ i k. g1 i (omega arith))) in
        let p2 : w₂ ≡ splice w₁ (3 * h.t) (numbers_read (from sheet h.neighbours) (3 * h.t)) =
        ap (splice w₁ (3 * h.t)) (items_are edges (whole_in (from sheet h.neighbours)) 0 (3 * h.t) k2 (λ i k. g2 i (omega arith))) in
        let p3 : splice w₂ (6 * h.t) kinds ≡ splice w₂ (6 * h.t) (tags_read (from sheet h.tags) h.n) =
        ap (splice w₂ (6 * h.t)) (items_are kinds (λ (i : ℕ). get_or (from sheet h.tags) i 0) 0 h.n k3 (λ i k. g3 i (omega arith))) in
        loaded floats after_points words w₁ w₂ after_kinds (e0 ∙ p0) p1 p2 (e3 ∙ p3)
