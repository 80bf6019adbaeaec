-- What it tells that a sheet, or a content, is not refused: the links of `fault_of` and of `refusal_of`, one by one. Assumes nothing.
use Rattle.std.specs.Prelude.{ℕ, zero, suc, ◌+◌, ◌-◌, ◌*◌, ◌≤◌, ◌≡◌, refl, List, map, eqb, length, drop}
use Rattle.std.proofs.Common.{ap₂, ◌∙◌, arith, eqb-true, eq-eqb, length-append, length-drop, drop-drop}
use Rattle.std.proofs.lemmas.List.{length-map}
use Rattle.std.specs.Float.{binary64}
use Rattle.std.specs.Float.Ieee.{of_bits, to_bits}
use Rattle.binary64.specs.Number.{pick}
use Rattle.format.specs.Bytes.{numbers}
use Rattle.format.specs.Content.{Content, vertex_count, triangle_count, max_vertices, max_triangles, max_settings}
use Rattle.format.specs.Refusal.{each, over, unlike, vertex_fault, neighbour_fault, tag_fault, coordinate_fault, setting_fault, present, missing, refusal_of}
use Rattle.format.specs.Sheet.{item_of, bytes_of, count, behind, from2, from3, from4, from5, leftover, vertices_in, triangles_in, neighbours_in, tags_in, items_in, content_of, in_turn, head_fault, vertices_fault, triangles_fault, neighbours_fault, tags_fault, settings_fault, fault_of, accepted, refused, decide, parse}
use Rattle.format.specs.BytesLaws.{length-numbers}
use Rattle.format.specs.RefusalLaws.{Neither, neither, then_none, passes, pick_true}
use Rattle.format.specs.SectionLaws.{Head, head_sound, head_none, length-section, over-le, le-over, unlike-eq, eq-unlike}

-- ---- a content

pub record Clean (c : Content) : Type 0 where
  pub vertices : vertex_count c ≤ max_vertices
  pub pairs : length c.vertices ≡ 2 * vertex_count c
  pub coordinates : each coordinate_fault c.vertices ≡ 0
  pub triangles : triangle_count c ≤ max_triangles
  pub triples : length c.triangles ≡ 3 * triangle_count c
  pub corners : each (vertex_fault (vertex_count c)) c.triangles ≡ 0
  pub edges : length c.neighbours ≡ 3 * triangle_count c
  pub neighbours : each (neighbour_fault (triangle_count c)) c.neighbours ≡ 0
  pub tagged : length c.tags ≡ vertex_count c
  pub tags : each tag_fault c.tags ≡ 0
  pub settings : each setting_fault (present c.settings) ≡ 0
  pub given : missing c.settings ≡ 0

pub clean : (c : Content) → refusal_of c ≡ 0 → Clean c
unfolding refusal_of
clean c h =
    let p1 : Neither _ _ = neither _ _ h in
    let p2 : Neither _ _ = neither _ _ p1.second in
    let p3 : Neither _ _ = neither _ _ p2.second in
    let p4 : Neither _ _ = neither _ _ p3.second in
    let p5 : Neither _ _ = neither _ _ p4.second in
    let p6 : Neither _ _ = neither _ _ p5.second in
    let p7 : Neither _ _ = neither _ _ p6.second in
    let p8 : Neither _ _ = neither _ _ p7.second in
    let p9 : Neither _ _ = neither _ _ p8.second in
    let p10 : Neither _ _ = neither _ _ p9.second in
    let p11 : Neither _ _ = neither _ _ p10.second in
    record {
      vertices = over-le p1.first;
      pairs = unlike-eq p2.first;
      coordinates = p3.first;
      triangles = over-le p4.first;
      triples = unlike-eq p5.first;
      corners = p6.first;
      edges = unlike-eq p7.first;
      neighbours = p8.first;
      tagged = unlike-eq p9.first;
      tags = p10.first;
      settings = p11.first;
      given = p11.second;
    }

pub refusal_none : {c : Content} → Clean c → refusal_of c ≡ 0
unfolding refusal_of
refusal_none h =
    then_none (le-over h.vertices)
    (then_none (eq-unlike h.pairs)
    (then_none h.coordinates
    (then_none (le-over h.triangles)
    (then_none (eq-unlike h.triples)
    (then_none h.corners
    (then_none (eq-unlike h.edges)
    (then_none h.neighbours
    (then_none (eq-unlike h.tagged)
    (then_none h.tags
    (then_none h.settings h.given))))))))))

-- ---- a sheet

pub record Faultless (b : List ℕ) : Type 0 where
  pub vertices : Head (over max_vertices) 16 b
  pub coordinates : each coordinate_fault (vertices_in b) ≡ 0
  pub triangles : Head (over max_triangles) 12 (from2 b)
  pub corners : each (vertex_fault (count b)) (triangles_in (from2 b)) ≡ 0
  pub edges : Head (unlike (3 * count (from2 b))) 4 (from3 b)
  pub neighbours : each (neighbour_fault (count (from2 b))) (neighbours_in (from3 b)) ≡ 0
  pub tagged : Head (unlike (count b)) 1 (from4 b)
  pub tags : each tag_fault (tags_in (from4 b)) ≡ 0
  pub settings : Head (over max_settings) 9 (from5 b)
  pub items : in_turn 0 (items_in (from5 b)) ≡ 0
  pub whole : length (leftover b) ≡ 0
  pub given : missing (content_of b).settings ≡ 0

pub faultless : (b : List ℕ) → fault_of b ≡ 0 → Faultless b
unfolding fault_of vertices_fault triangles_fault neighbours_fault tags_fault settings_fault
faultless b h =
    let p1 : Neither (vertices_fault b) _ = neither _ _ h in
    let p2 : Neither (triangles_fault (count b) (from2 b)) _ = neither _ _ p1.second in
    let p3 : Neither (neighbours_fault (count (from2 b)) (from3 b)) _ = neither _ _ p2.second in
    let p4 : Neither (tags_fault (count b) (from4 b)) _ = neither _ _ p3.second in
    let p5 : Neither (settings_fault (from5 b)) _ = neither _ _ p4.second in
    let p6 : Neither (pick (eqb (length (leftover b)) 0) 0 1) _ = neither _ _ p5.second in
    let q1 : Neither _ (each coordinate_fault (vertices_in b)) = neither _ _ p1.first in
    let q2 : Neither _ (each (vertex_fault (count b)) (triangles_in (from2 b))) = neither _ _ p2.first in
    let q3 : Neither _ (each (neighbour_fault (count (from2 b))) (neighbours_in (from3 b))) = neither _ _ p3.first in
    let q4 : Neither _ (each tag_fault (tags_in (from4 b))) = neither _ _ p4.first in
    let q5 : Neither _ (in_turn 0 (items_in (from5 b))) = neither _ _ p5.first in
    record {
      vertices = head_sound _ _ _ q1.first;
      coordinates = q1.second;
      triangles = head_sound _ _ _ q2.first;
      corners = q2.second;
      edges = head_sound _ _ _ q3.first;
      neighbours = q3.second;
      tagged = head_sound _ _ _ q4.first;
      tags = q4.second;
      settings = head_sound _ _ _ q5.first;
      items = q5.second;
      whole = eqb-true _ _ (passes (eqb (length (leftover b)) 0) 0 p6.first);
      given = p6.second;
    }

pub fault_none : {b : List ℕ} → Faultless b → fault_of b ≡ 0
unfolding fault_of vertices_fault triangles_fault neighbours_fault tags_fault settings_fault
fault_none h =
    then_none (then_none (head_none h.vertices) h.coordinates)
    (then_none (then_none (head_none h.triangles) h.corners)
    (then_none (then_none (head_none h.edges) h.neighbours)
    (then_none (then_none (head_none h.tagged) h.tags)
    (then_none (then_none (head_none h.settings) h.items)
    (then_none (pick_true 0 1 (eq-eqb _ _ h.whole)) h.given)))))

-- ---- what a section that is not refused tells

pub vertices_head : (s : List ℕ) → vertices_fault s ≡ 0 → Head (over max_vertices) 16 s
unfolding vertices_fault
vertices_head s h = head_sound (over max_vertices) 16 s (neither (head_fault (over max_vertices) 16 s) _ h).first

pub triangles_head : (n : ℕ) (s : List ℕ) → triangles_fault n s ≡ 0 → Head (over max_triangles) 12 s
unfolding triangles_fault
triangles_head n s h = head_sound (over max_triangles) 12 s (neither (head_fault (over max_triangles) 12 s) _ h).first

pub neighbours_head : (t : ℕ) (s : List ℕ) → neighbours_fault t s ≡ 0 → Head (unlike (3 * t)) 4 s
unfolding neighbours_fault
neighbours_head t s h = head_sound (unlike (3 * t)) 4 s (neither (head_fault (unlike (3 * t)) 4 s) _ h).first

pub tags_head : (n : ℕ) (s : List ℕ) → tags_fault n s ≡ 0 → Head (unlike n) 1 s
unfolding tags_fault
tags_head n s h = head_sound (unlike n) 1 s (neither (head_fault (unlike n) 1 s) _ h).first

pub settings_head : (s : List ℕ) → settings_fault s ≡ 0 → Head (over max_settings) 9 s
unfolding settings_fault
settings_head s h = head_sound (over max_settings) 9 s (neither (head_fault (over max_settings) 9 s) _ h).first

-- ---- what is read

pub length_vertices : (s : List ℕ) → length (vertices_in s) ≡ 2 * count s
length_vertices s = length-map (numbers 8 (2 * count s) (drop 4 s)) (of_bits binary64) ∙ length-numbers 8 (2 * count s) (drop 4 s)

pub vertex_count_lem : (b : List ℕ) → vertex_count (content_of b) ≡ count b
unfolding content_of
vertex_count_lem b = let e : length (vertices_in b) ≡ 2 * count b = length_vertices b in omega arith

pub triangle_count_lem : (b : List ℕ) → triangle_count (content_of b) ≡ count (from2 b)
unfolding content_of
triangle_count_lem b = let e : length (triangles_in (from2 b)) ≡ 3 * count (from2 b) = length-numbers 4 (3 * count (from2 b)) (drop 4 (from2 b)) in omega arith

-- ---- where the sections start

pub length-behind : (size : ℕ) (s : List ℕ) → length (behind size s) ≡ length s - (4 + size * count s)
unfolding behind
length-behind size s = length-drop (4 + size * count s) s

pub behind-drop : (size k a : ℕ) (b s : List ℕ) → s ≡ drop a b → count s ≡ k → behind size s ≡ drop (a + (4 + size * k)) b
unfolding behind
behind-drop size k a b s e c = ap₂ (λ (x : ℕ) (l : List ℕ). drop (4 + size * x) l) c e ∙ drop-drop (4 + size * k) a b

-- ---- acceptance

pub record Reads (b : List ℕ) (c : Content) : Type 0 where
  pub clean : fault_of b ≡ 0
  pub content : content_of b ≡ c

pub reads : (b : List ℕ) (c : Content) → parse b ≡ accepted c → Reads b c
unfolding parse
reads b c h = go (fault_of b) refl h
  where
    go : (k : ℕ) → fault_of b ≡ k → decide k (content_of b) ≡ accepted c → Reads b c
    go zero e h = record { clean = e; content = cc }
    go (suc k) e h = record { clean = cc; content = cc }

pub accepts : (b : List ℕ) (c : Content) → fault_of b ≡ 0 → content_of b ≡ c → parse b ≡ accepted c
unfolding parse
accepts b c e f = ap₂ decide e f

-- the number of a refusal is not 0
pub refuses : (b : List ℕ) (k : ℕ) → parse b ≡ refused k → k ≡ 0 → ⊥
unfolding parse
refuses b k h z = go (fault_of b) h
  where
    go : (j : ℕ) → decide j (content_of b) ≡ refused k → ⊥
    go zero e = let y : ◌≡◌ {A = ℕ} 0 1 = cc in omega arith
    go (suc j) e = let y : suc j ≡ k = cc in omega arith

-- ---- what is written

pub length-bytes_of : (c : Content) → length (bytes_of c)
    ≡ 20 + 8 * length c.vertices + 4 * length c.triangles + 4 * length c.neighbours + length c.tags + 9 * length (present c.settings)
unfolding bytes_of
length-bytes_of c =
    let a : length (map (to_bits binary64) c.vertices) ≡ length c.vertices = length-map c.vertices (to_bits binary64) in
    let b : length (map item_of (present c.settings)) ≡ length (present c.settings) = length-map (present c.settings) item_of in
    simp (length-append, length-section) (omega arith)
