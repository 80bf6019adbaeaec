-- The numbers of a section, each tested in turn through its pieces behind the count. For any test and any width. Assumes nothing.
use Prim.Native.Nat.{ℕ, zero, suc, ◌+◌, ◌*◌, ◌/◌, ◌≤◌, ◌<◌}
use native.Mathlib.Nat.{one-mul}
use native.Mathlib.Omega.{arith}
use mathlib.Core.Path.{◌≡◌, refl, sym, ap, ap₂, ◌∙◌}
use mathlib.Core.List.{List, ◌∷◌, map}
use lib.ListN.{length, get_or, take, drop, length-drop}
use Rattle.std.proofs.lemmas.List.{take-take, drop-take, length-take-le}
use Rattle.std.proofs.Math.Nat.{mul-div_cancel_left}
use lib.Ieee.{binary64, of_bits}
use Rattle.std.specs.Prelude.{Result}
use Rattle.std.specs.Int.{from_le_bytes, w32, w64}
use Rattle.std.specs.Simd.{first_chunks}
use Rattle.refusal.specs.Refusal.{fault}
use Rattle.refusal.specs.declared.Refusal.{Refusal}
use Rattle.format.specs.Bytes.{number, numbers}
use Rattle.format.specs.Refusal.{◌then◌, each, over, unlike, coordinate_fault, vertex_fault, neighbour_fault, tag_fault}
use Rattle.format.specs.Content.{max_vertices, max_triangles}
use Rattle.format.specs.Sheet.{count, head_fault, vertices_fault, triangles_fault, neighbours_fault, tags_fault}
use Rattle.format.specs.BytesLaws.{number-drop}
use Rattle.format.specs.RefusalLaws.{each_map}
use Rattle.format.specs.SectionLaws.{head_sound}
use Rattle.format.specs.Tries.{Tries}
use Rattle.format.specs.TriesLaws.{fault_second, each_tried}
use Rattle.format.specs.LeLaws.{from_four, from_eight, numbers_pieces}

-- each answer's number is what f says of the piece's number
scanned : (f : ℕ → ℕ) (w k : ℕ) (s : List ℕ) (part : List (List ℕ)) (Answers : List ℕ → Result (Unit {0}) Refusal → Type 0) (r : Result (Unit {0}) Refusal)
    → ((x : List ℕ) (y : Result (Unit {0}) Refusal) → Answers x y → fault y ≡ f (number w x)) → part ≡ first_chunks w k (drop 4 s) → Tries Answers part r
    → fault r ≡ each f (numbers w k (drop 4 s))
scanned f w k s part Answers r tells e t =
    each_tried Answers (λ (x : List ℕ). f (number w x)) tells part r t
    ∙ sym (each_map f (number w) part)
    ∙ ap (λ (l : List (List ℕ)). each f (map (number w) l)) e
    ∙ ap (each f) (numbers_pieces w k (drop 4 s))

-- the pieces of the first bytes are the first pieces
pieces_taken : (w k : ℕ) (s : List ℕ) → first_chunks w k (take (w * k) s) ≡ first_chunks w k s
pieces_taken w zero s = refl
pieces_taken w (suc k) s =
    let e : w * suc k ≡ w + w * k = omega arith in
    rw e
    (ap₂ (λ (x : List ℕ) (l : List (List ℕ)). x ∷ l)
    (take-take w (w + w * k) s (omega arith))
    (ap (first_chunks w k) (drop-take w (w * k) s) ∙ pieces_taken w k (drop w s)))

-- the pieces of a section's items
pub pieces : (size w k : ℕ) (s items : List ℕ) → 0 < w → 4 + size * count s ≤ length s → items ≡ take (size * count s) (drop 4 s) → size * count s ≡ w * k
    → first_chunks w (length items / w) items ≡ first_chunks w k (drop 4 s)
pieces size w k s items z l i m =
    let n : length items ≡ w * k = ap length i ∙ length-take-le (size * count s) (drop 4 s) (omega (arith, length-drop 4 s)) ∙ m in
    ap₂ (first_chunks w) (ap (λ (x : ℕ). x / w) n ∙ mul-div_cancel_left k z) (i ∙ ap (λ (x : ℕ). take x (drop 4 s)) m) ∙ pieces_taken w k (drop 4 s)

-- Behind a head that is not refused. `read` is how the code reads a number of w bytes.
tested : (w : ℕ) (read : List ℕ → ℕ) → 0 < w → ((x : List ℕ) → read x ≡ number w x) → (rule f : ℕ → ℕ) (size k : ℕ) (s items : List ℕ) (part : List (List ℕ))
    (Answers : List ℕ → Result (Unit {0}) Refusal → Type 0) (r : Result (Unit {0}) Refusal)
    → size * count s ≡ w * k → ((x : List ℕ) (y : Result (Unit {0}) Refusal) → Answers x y → fault y ≡ f (read x)) → 0 ≡ head_fault rule size s
    → items ≡ take (size * count s) (drop 4 s) → part ≡ first_chunks w (length items / w) items → Tries Answers part r
    → fault r ≡ (head_fault rule size s then each f (numbers w k (drop 4 s)))
tested w read z same rule f size k s items part Answers r m tells h i e t =
    let l = (head_sound rule size s (sym h)).whole in
    fault_second (fault r) h (scanned f w k s part Answers r (λ x y p. tells x y p ∙ ap f (same x)) (e ∙ pieces size w k s items z l i m) t)

-- ---- a coordinate by its pattern

abbrev pub pattern_fault : ℕ → ℕ
pattern_fault x = coordinate_fault (of_bits binary64 x)

pub patterns : (xs : List ℕ) → each coordinate_fault (map (of_bits binary64) xs) ≡ each pattern_fault xs
patterns xs = each_map coordinate_fault (of_bits binary64) xs

-- ---- a number of one byte

pub number-one : (s : List ℕ) (i : ℕ) → get_or s i 0 ≡ number 1 (drop (1 * i) s)
unfolding number
number-one s i = sym (ap (λ (n : ℕ). number 1 (drop n s)) (one-mul i) ∙ number-drop 0 i s ∙ omega arith)

number-first : (s : List ℕ) → get_or s 0 0 ≡ number 1 s
number-first s = number-one s 0

-- ---- the four sections, each behind its head

module _ (s items : List ℕ) (part : List (List ℕ)) (Answers : List ℕ → Result (Unit {0}) Refusal → Type 0) (r : Result (Unit {0}) Refusal) where
  abbrev Tells : (ℕ → ℕ) → (List ℕ → ℕ) → Type 0
  Tells f read = (x : List ℕ) (y : Result (Unit {0}) Refusal) → Answers x y → fault y ≡ f (read x)

  pub vertices_tested : Tells pattern_fault (from_le_bytes w64) → 0 ≡ head_fault (over max_vertices) 16 s → items ≡ take (16 * count s) (drop 4 s)
      → part ≡ first_chunks 8 (length items / 8) items → Tries Answers part r → fault r ≡ vertices_fault s
  unfolding vertices_fault
  vertices_tested tells h i e t =
      tested 8 (from_le_bytes w64) (omega arith) from_eight (over max_vertices) pattern_fault 16 (2 * count s) s items part Answers r (omega arith) tells h i e t
      ∙ ap (λ (k : ℕ). head_fault (over max_vertices) 16 s then k) (sym (patterns _))

  pub triangles_tested : (n : ℕ) → Tells (vertex_fault n) (from_le_bytes w32) → 0 ≡ head_fault (over max_triangles) 12 s → items ≡ take (12 * count s) (drop 4 s)
      → part ≡ first_chunks 4 (length items / 4) items → Tries Answers part r → fault r ≡ triangles_fault n s
  unfolding triangles_fault
  triangles_tested n = tested 4 (from_le_bytes w32) (omega arith) from_four (over max_triangles) (vertex_fault n) 12 (3 * count s) s items part Answers r (omega arith)

  pub neighbours_tested : (t : ℕ) → Tells (neighbour_fault t) (from_le_bytes w32) → 0 ≡ head_fault (unlike (3 * t)) 4 s → items ≡ take (4 * count s) (drop 4 s)
      → part ≡ first_chunks 4 (length items / 4) items → Tries Answers part r → fault r ≡ neighbours_fault t s
  unfolding neighbours_fault
  neighbours_tested t = tested 4 (from_le_bytes w32) (omega arith) from_four (unlike (3 * t)) (neighbour_fault t) 4 (count s) s items part Answers r (omega arith)

  pub tags_tested : (n : ℕ) → Tells tag_fault (λ (x : List ℕ). get_or x 0 0) → 0 ≡ head_fault (unlike n) 1 s → items ≡ take (1 * count s) (drop 4 s)
      → part ≡ first_chunks 1 (length items / 1) items → Tries Answers part r → fault r ≡ tags_fault n s
  unfolding tags_fault
  tags_tested n = tested 1 (λ (x : List ℕ). get_or x 0 0) (omega arith) number-first (unlike n) tag_fault 1 (count s) s items part Answers r (omega arith)
