-- Of an accepted sheet the header's places are within it, and the items read there are those of its content. Assumes nothing.
use Rattle.std.specs.Prelude.{ℕ, zero, suc, ◌+◌, ◌*◌, ◌-◌, ◌/◌, ◌≤◌, ◌<◌, ◌≡◌, refl, Float}
use Rattle.std.proofs.Math.Path.{sym, ap, ap₂, subst}
use Rattle.std.proofs.Common.{◌∙◌, lt-ltb, drop-drop}
use mathlib.Core.List.{List, map}
use native.Mathlib.Omega.{arith}
use Rattle.std.proofs.Math.ListN.{length, get_or, drop, length-drop, get_or-map}
use Rattle.std.proofs.lemmas.List.{length-map}
use Rattle.std.specs.Float.{binary64}
use Rattle.std.specs.Float.Ieee.{of_bits, is_nan}
use Rattle.std.specs.Float.Ieee.Bits.{nan_bits_is}
use Rattle.binary64.specs.Constants.{plus_zero}
use Rattle.plane.specs.Plane.{point}
use Rattle.format.specs.Bytes.{number, numbers}
use Rattle.format.specs.Content.{Content, vertex_count, triangle_count, vertex_of, tag_of}
use Rattle.format.specs.Refusal.{each, coordinate, coordinate_fault}
use Rattle.format.specs.Sheet.{count, from2, from3, from4, content_of, fault_of, Parsed, accepted, refused, decide, parse}
use Rattle.format.specs.BytesLaws.{length-numbers, get_or-numbers, number-drop}
use Rattle.format.specs.RefusalLaws.{pick_true, pick_false, Proper, proper, each_at}
use Rattle.format.specs.SectionLaws.{unlike-eq}
use Rattle.format.specs.SheetLaws.{Faultless, faultless, vertex_count_lem, triangle_count_lem, length-behind, behind-drop, reads}
use Rattle.sheet.specs.declared.Header.{Header}
use Rattle.sheet.specs.Answer.{Accepted, Refused}
use Rattle.sheet.specs.Answer.{header_of, checked_of}
use Rattle.sheet.specs.Items.{real_in, vertex_in, coordinate_in, whole_in}

-- ---- what an answer tells

pub record IsAccepted (b : List ℕ) (h : Header) : Type 0 where
  pub parsed : parse b ≡ accepted (content_of b)
  pub header : h ≡ header_of (content_of b)

pub is_accepted : (b : List ℕ) (h : Header) → Accepted h ≡ checked_of (parse b) → IsAccepted b h
unfolding parse
is_accepted b h e = go (fault_of b) refl e
  where
    go : (k : ℕ) → fault_of b ≡ k → Accepted h ≡ checked_of (decide k (content_of b)) → IsAccepted b h
    go zero p e = record { parsed = ap (λ (k : ℕ). decide k (content_of b)) p; header = cc }
    go (suc k) p e = record { parsed = cc; header = cc }

pub is_refused : (b : List ℕ) (k : ℕ) → Refused k ≡ checked_of (parse b) → parse b ≡ refused k
is_refused b k e = go (parse b) e
  where
    go : (p : Parsed) → Refused k ≡ checked_of p → p ≡ refused k
    go (accepted c) e = cc
    go (refused j) e = cc

-- ---- where the items start

record Starts (b : List ℕ) (n t : ℕ) : Type 0 where
  triangles : drop 4 (from2 b) ≡ drop (8 + 16 * n) b
  neighbours : drop 4 (from3 b) ≡ drop (12 + 16 * n + 12 * t) b
  tags : drop 4 (from4 b) ≡ drop (16 + 16 * n + 24 * t) b

behind_four : (b s : List ℕ) (a k : ℕ) → s ≡ drop a b → a + 4 ≡ k → drop 4 s ≡ drop k b
behind_four b s a k e f = ap (drop 4) e ∙ drop-drop 4 a b ∙ ap (λ (x : ℕ). drop x b) f

starts : (b : List ℕ) (n t : ℕ) → n ≡ count b → t ≡ count (from2 b) → count (from3 b) ≡ 3 * t → Starts b n t
starts b n t en et e3 =
    let s2 : from2 b ≡ drop (0 + (4 + 16 * n)) b = behind-drop 16 n 0 b b refl (sym en) in
    let s3 : from3 b ≡ drop (0 + (4 + 16 * n) + (4 + 12 * t)) b = behind-drop 12 t (0 + (4 + 16 * n)) b (from2 b) s2 (sym et) in
    let s4 : from4 b ≡ drop (0 + (4 + 16 * n) + (4 + 12 * t) + (4 + 4 * (3 * t))) b = behind-drop 4 (3 * t) (0 + (4 + 16 * n) + (4 + 12 * t)) b (from3 b) s3 e3 in
    record {
      triangles = behind_four b (from2 b) (0 + (4 + 16 * n)) (8 + 16 * n) s2 (omega arith);
      neighbours = behind_four b (from3 b) (0 + (4 + 16 * n) + (4 + 12 * t)) (12 + 16 * n + 12 * t) s3 (omega arith);
      tags = behind_four b (from4 b) (0 + (4 + 16 * n) + (4 + 12 * t) + (4 + 4 * (3 * t))) (16 + 16 * n + 24 * t) s4 (omega arith);
    }

-- the places of the header are within the sheet, and so are the items behind them
pub record Within (b : List ℕ) (h : Header) : Type 0 where
  pub vertices : h.vertices + 16 * h.n ≤ length b
  pub triangles : h.triangles + 12 * h.t ≤ length b
  pub neighbours : h.neighbours + 12 * h.t ≤ length b
  pub tags : h.tags + h.n ≤ length b

-- the items of the header's sections are those of the content
pub record Holds (b : List ℕ) (c : Content) : Type 0 where
  pub vertices : c.vertices ≡ map (of_bits binary64) (numbers 8 (2 * vertex_count c) (drop (header_of c).vertices b))
  pub triangles : c.triangles ≡ numbers 4 (3 * triangle_count c) (drop (header_of c).triangles b)
  pub neighbours : c.neighbours ≡ numbers 4 (3 * triangle_count c) (drop (header_of c).neighbours b)
  pub tags : c.tags ≡ numbers 1 (vertex_count c) (drop (header_of c).tags b)

within : (b : List ℕ) → Faultless b → Within b (header_of (content_of b))
within b f =
    let n : vertex_count (content_of b) ≡ count b = vertex_count_lem b in
    let t : triangle_count (content_of b) ≡ count (from2 b) = triangle_count_lem b in
    let e3 : count (from3 b) ≡ 3 * count (from2 b) = unlike-eq f.edges.counted in
    let e4 : count (from4 b) ≡ count b = unlike-eq f.tagged.counted in
    let w1 : 4 + 16 * count b ≤ length b = f.vertices.whole in
    let w2 : 4 + 12 * count (from2 b) ≤ length (from2 b) = f.triangles.whole in
    let w3 : 4 + 4 * count (from3 b) ≤ length (from3 b) = f.edges.whole in
    let w4 : 4 + 1 * count (from4 b) ≤ length (from4 b) = f.tagged.whole in
    let l2 : length (from2 b) ≡ length b - (4 + 16 * count b) = length-behind 16 b in
    let l3 : length (from3 b) ≡ length (from2 b) - (4 + 12 * count (from2 b)) = length-behind 12 (from2 b) in
    let l4 : length (from4 b) ≡ length (from3 b) - (4 + 4 * count (from3 b)) = length-behind 4 (from3 b) in
    record { vertices = omega arith; triangles = omega arith; neighbours = omega arith; tags = omega arith }

holds : (b : List ℕ) → Faultless b → Holds b (content_of b)
unfolding content_of
holds b f =
    let n : vertex_count (content_of b) ≡ count b = vertex_count_lem b in
    let t : triangle_count (content_of b) ≡ count (from2 b) = triangle_count_lem b in
    let e3 : count (from3 b) ≡ 3 * triangle_count (content_of b) = unlike-eq f.edges.counted ∙ ap (λ (k : ℕ). 3 * k) (sym t) in
    let e4 : count (from4 b) ≡ vertex_count (content_of b) = unlike-eq f.tagged.counted ∙ sym n in
    let s : Starts b (vertex_count (content_of b)) (triangle_count (content_of b)) = starts b _ _ n t e3 in
    record {
      vertices = ap (λ (k : ℕ). map (of_bits binary64) (numbers 8 (2 * k) (drop 4 b))) (sym n);
      triangles = ap₂ (λ (k : ℕ) (p : List ℕ). numbers 4 (3 * k) p) (sym t) s.triangles;
      neighbours = ap₂ (numbers 4) e3 s.neighbours;
      tags = ap₂ (numbers 1) e4 s.tags;
    }

module _ (b : List ℕ) (c : Content) (e : parse b ≡ accepted c) where
  accepted_faultless : Faultless b
  accepted_faultless = faultless b (reads b c e).clean

  pub header_within : Within b (header_of c)
  header_within = subst (λ (d : Content). Within b (header_of d)) (reads b c e).content (within b accepted_faultless)

  pub content_holds : Holds b c
  content_holds = subst (λ (d : Content). Holds b d) (reads b c e).content (holds b accepted_faultless)

-- ---- one item

-- the i-th of k numbers of 4 bytes
whole_item : (part : List ℕ) (k i : ℕ) (xs : List ℕ) → xs ≡ numbers 4 k part → 4 * k ≤ length part → i < k → whole_in part i ≡ get_or xs i 0
unfolding whole_in
whole_item part k i xs e l h =
    let q : i < length part / 4 = omega arith in
    pick_true _ _ (lt-ltb i (length part / 4) q) ∙ sym (ap (λ (l : List ℕ). get_or l i 0) e ∙ get_or-numbers 4 k part i h)

-- the k-th coordinate
real_item : (part : List ℕ) (n k : ℕ) (xs : List Float) → xs ≡ map (of_bits binary64) (numbers 8 (2 * n) part) → each coordinate_fault xs ≡ 0 → k < 2 * n
    → real_in (number 8 (drop (8 * k) part)) ≡ get_or xs k plus_zero
real_item part n k xs e f h =
    let v : get_or xs k plus_zero ≡ of_bits binary64 (number 8 (drop (8 * k) part)) =
    ap (λ (l : List Float). get_or l k plus_zero) e ∙ get_or-map (of_bits binary64) (numbers 8 (2 * n) part) k 0 ∙ ap (of_bits binary64) (get_or-numbers 8 (2 * n) part k h) in
    let l : k < length xs = omega (arith, ap length e ∙ length-map (numbers 8 (2 * n) part) (of_bits binary64) ∙ length-numbers 8 (2 * n) part) in
    let p : Proper coordinate (get_or xs k plus_zero) = proper coordinate _ (each_at coordinate_fault xs plus_zero k f l) in
    pick_false _ _ (nan_bits_is binary64 (number 8 (drop (8 * k) part)) ∙ ap is_nan (sym v) ∙ p.number) ∙ sym v

module _ (b : List ℕ) (c : Content) (e : parse b ≡ accepted c) where
  pub vertex_item : (i : ℕ) → i < vertex_count c → vertex_in (drop (header_of c).vertices b) i ≡ vertex_of c i
  unfolding vertex_in content_of
  vertex_item i h =
      let part = drop (header_of c).vertices b in
      let w : 4 + 16 * vertex_count c ≤ length b = (header_within b c e).vertices in
      let f : each coordinate_fault c.vertices ≡ 0 = subst (λ (d : Content). each coordinate_fault d.vertices ≡ 0) (reads b c e).content (accepted_faultless b c e).coordinates in
      let v = (content_holds b c e).vertices in
      let q : i < length part / 16 = omega (arith, length-drop 4 b) in
      let x : real_in (number 8 (drop (8 * (2 * i)) part)) ≡ get_or c.vertices (2 * i) plus_zero = real_item part (vertex_count c) (2 * i) c.vertices v f (omega arith) in
      let y : real_in (number 8 (drop (8 * (2 * i + 1)) part)) ≡ get_or c.vertices (2 * i + 1) plus_zero = real_item part (vertex_count c) (2 * i + 1) c.vertices v f (omega arith) in
      let a : 16 * i ≡ 8 * (2 * i) = omega arith in
      let d : 16 * i + 8 ≡ 8 * (2 * i + 1) = omega arith in
      pick_true _ _ (lt-ltb i (length part / 16) q)
      ∙ ap₂ point (ap (λ (k : ℕ). real_in (number 8 (drop k part))) a ∙ x) (ap (λ (k : ℕ). real_in (number 8 (drop k part))) d ∙ y)

  pub coordinate_item : (k : ℕ) → k < 2 * vertex_count c → coordinate_in (drop (header_of c).vertices b) k ≡ get_or c.vertices k plus_zero
  unfolding coordinate_in content_of
  coordinate_item k h =
      let part = drop (header_of c).vertices b in
      let w : 4 + 16 * vertex_count c ≤ length b = (header_within b c e).vertices in
      let f : each coordinate_fault c.vertices ≡ 0 = subst (λ (d : Content). each coordinate_fault d.vertices ≡ 0) (reads b c e).content (accepted_faultless b c e).coordinates in
      let q : k < length part / 8 = omega (arith, length-drop 4 b) in
      pick_true _ _ (lt-ltb k (length part / 8) q) ∙ real_item part (vertex_count c) k c.vertices (content_holds b c e).vertices f h

  pub corner_item : (i : ℕ) → i < 3 * triangle_count c → whole_in (drop (header_of c).triangles b) i ≡ get_or c.triangles i 0
  corner_item i h =
      let w : (header_of c).triangles + 12 * triangle_count c ≤ length b = (header_within b c e).triangles in
      whole_item (drop (header_of c).triangles b) (3 * triangle_count c) i c.triangles (content_holds b c e).triangles (omega (arith, length-drop (header_of c).triangles b)) h

  pub neighbour_item : (i : ℕ) → i < 3 * triangle_count c → whole_in (drop (header_of c).neighbours b) i ≡ get_or c.neighbours i 0
  neighbour_item i h =
      let w : (header_of c).neighbours + 12 * triangle_count c ≤ length b = (header_within b c e).neighbours in
      whole_item (drop (header_of c).neighbours b) (3 * triangle_count c) i c.neighbours (content_holds b c e).neighbours (omega (arith, length-drop (header_of c).neighbours b)) h

  pub tag_item : (i : ℕ) → i < vertex_count c → get_or (drop (header_of c).tags b) i 0 ≡ tag_of c i
  unfolding number
  tag_item i h =
      let part = drop (header_of c).tags b in
      let o : 1 * i ≡ i = omega arith in
      let z : get_or part i 0 + 256 * 0 ≡ get_or part i 0 = omega arith in
      sym (ap (λ (l : List ℕ). get_or l i 0) (content_holds b c e).tags ∙ get_or-numbers 1 (vertex_count c) part i h ∙ ap (λ (k : ℕ). number 1 (drop k part)) o ∙ number-drop 0 i part ∙ z)
