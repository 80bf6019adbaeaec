-- What opening leaves in the lent buffers is the image at place 0: each step of it writes whole segments of the buffers, and what was lent beyond them stays.
-- Assumes nothing.
use Prim.Native.Nat.{ℕ, zero, suc, ◌+◌, ◌*◌, ◌≤◌, ◌<◌}
use mathlib.Core.Path.{◌≡◌, refl, sym, ap, ◌∙◌}
use mathlib.Core.List.{List, [], ◌∷◌, ◌++◌, append-nil, append_assoc}
use Rattle.std.specs.Prelude.{None}
use native.Mathlib.Omega.{arith}
use native.Mathlib.Nat.{add_assoc}
use lib.ListN.{length, get_or, length-append, take, drop, replicate, length-drop, length-replicate, take-append-drop, replicate-append-replicate}
use lib.Seq.{length-take-le, drop-drop}
use lib.Ieee.{Float}
use Rattle.binary64.specs.Constants.{plus_zero}
use Rattle.binary64.specs.Root.{root}
use Rattle.stretch.specs.Stretch.{part, splice, flat, off}
use Rattle.stretch.specs.StretchLaws.{length-splice, part_splice-same}
use Rattle.stretch.specs.SegmentLaws.{flat_append, part_seg, splice_seg, splice_segs}
use Rattle.mesh.specs.Element as element
use Rattle.laplace.specs.declared.Places.{Places}
use Rattle.laplace.specs.Assembly.{right_side}
use Rattle.laplace.specs.Laid.{LaidFloats, LaidWords}
use Rattle.laplace.specs.Row.{tags_in}
use Rattle.laplace.specs.Whole.{pushes_in, rows_for, Assembled}
use Rattle.laplace.specs.Placed.{values_of, columns_of, starts_of, padded}
use Rattle.conjugate.specs.Solver.{Solve, begun}
use Rattle.model.specs.Task.{Task, vertex_count, triangle_count}
use Rattle.model.specs.Run.{place0, matrix_of, right_of}
use Rattle.model.specs.Sized.{Sized, Vectors}
use Rattle.model.proofs.SizeLaws.{matrix-length, right_length, begun_vectors}
use Rattle.work.specs.Layout.{at_right, at_row, at_values, at_gradients, at_norms, at_neighbours, at_tags, at_starts, at_columns, at_heads, at_links, at_row_columns, places_at}
use Rattle.work.specs.Memory.{begun_again}
use Rattle.image.specs.Image.{plan_of, floats_of, words_of, floats_used, words_used}
use Rattle.image.proofs.ImageLawsLengths.{length_kept_values, length_kept_columns, length_row_starts}
use Rattle.image.proofs.ImageLawsPadded.{padded_nil, padded-more}
use Rattle.image.proofs.ImageLawsRead.{matrix-read}
use Rattle.image.proofs.ImageLawsSegments.{zeros, segments, Laid, laid_x, laid_r, laid_p, laid_product, laid_gradients, part_right, part_values, put_x, put_r, put_p, put_product, put_norms}
use Rattle.image.proofs.ImageLawsSound.{below_each}
use Rattle.image.specs.Opening.{mesh_floats, mesh_words, assembled_floats, LaidOut, none_kept, begun_floats}

-- ---- a list cut into segments of given lengths, and what is left

unfoldable total : List ℕ → ℕ
total [] = 0
total (n ∷ ns) = n + total ns

module _ {A : Type 0} where
  unfoldable cut : List ℕ → List A → List (List A)
  cut [] l = l ∷ []
  cut (n ∷ ns) l = take n l ∷ cut ns (drop n l)

  flat-cut : (ns : List ℕ) (l : List A) → flat (cut ns l) ≡ l
  unfolding cut flat
  flat-cut [] l = append-nil l
  flat-cut (n ∷ ns) l = ap (λ (r : List A). take n l ++ r) (flat-cut ns (drop n l)) ∙ take-append-drop n l

  length_cut : (ns : List ℕ) (l : List A) → total ns ≤ length l → (i : ℕ) → i < length ns → length (get_or (cut ns l) i []) ≡ get_or ns i 0
  unfolding cut total
  length_cut [] l h i k = absurd (omega arith)
  length_cut (n ∷ ns) l h zero k = length-take-le n l (omega arith)
  length_cut (n ∷ ns) l h (suc i) k = length_cut ns (drop n l) (rw length-drop (omega arith)) i (omega arith)

  last_cut : (ns : List ℕ) (l : List A) → get_or (cut ns l) (length ns) [] ≡ drop (total ns) l
  unfolding cut total
  last_cut [] l = refl
  last_cut (n ∷ ns) l = last_cut ns (drop n l) ∙ drop-drop (total ns) n l

-- ---- the floats

-- two segments as one
two-joined : (ss : List (List Float)) (k rest : List Float) → flat (ss ++ (k ∷ rest ∷ [])) ≡ flat (ss ++ ((k ++ rest) ∷ []))
unfolding flat
two-joined ss k rest = flat_append ss (k ∷ rest ∷ []) ∙ ap (λ (y : List Float). flat ss ++ y) (sym (append_assoc k rest [])) ∙ sym (flat_append ss ((k ++ rest) ∷ []))

module _ (c : Task) (z : Sized c) where
  abbrev n : ℕ
  n = vertex_count c

  abbrev t : ℕ
  t = triangle_count c

  abbrev norms : ℕ
  norms = c.limit + 1

  abbrev values : List Float
  values = padded (9 * t + n) plus_zero (values_of (matrix_of c))

  abbrev first : Solve
  first = begun (matrix_of c) (right_of c)

  first_vectors : Vectors n first
  first_vectors = begun_vectors (matrix_of c) (right_of c) n (matrix-length c) (right_length c)

  zeros_long : (k : ℕ) → length (zeros k) ≡ k
  zeros_long k = length-replicate k plus_zero

  zeros-three : (i j k : ℕ) → flat (zeros i ∷ zeros j ∷ zeros k ∷ []) ≡ zeros (i + j + k)
  unfolding flat
  zeros-three i j k = rw (append-nil, replicate-append-replicate, replicate-append-replicate, add_assoc)

  module _ {v b w a x r p q g : List Float} (l : Laid n t v b w a x r p q g) (h k rest : List Float) (long : length h ≡ norms) (kept : length k ≡ 3 * n) where
    -- the mesh and its assembly
    floats_assembled : assembled_floats c (flat (segments v b w a x r p q g (h ∷ k ∷ rest ∷ []))) ≡ flat (segments c.vertices (right_of c) (zeros n) values x r p q g (h ∷ k ∷ rest ∷ []))
    unfolding assembled_floats off
    floats_assembled =
        let ev : length c.vertices ≡ 2 * n = z.vertices in
        let eb : length (right_of c) ≡ n = right_length c in
        let ew : length (zeros n) ≡ n = zeros_long n in
        let ea : length values ≡ 9 * t + n = length_kept_values c z in
        let back = x ∷ r ∷ p ∷ q ∷ g ∷ h ∷ k ∷ rest ∷ [] in
        rw (
          splice_seg (v ∷ b ∷ w ∷ a ∷ back) 0 0 c.vertices refl (omega arith) (omega arith),
          splice_seg (c.vertices ∷ b ∷ w ∷ a ∷ back) 1 (at_right n t) (right_of c) (omega arith) (omega arith) (omega arith),
          splice_seg (c.vertices ∷ right_of c ∷ w ∷ a ∷ back) 2 (at_row n t) (zeros n) (omega arith) (omega arith) (omega arith),
          splice_seg (c.vertices ∷ right_of c ∷ zeros n ∷ a ∷ back) 3 (at_values n t) values (omega arith) (omega arith) (omega arith),
        )

    -- gradients, norms and kept vectors
    floats_none : none_kept (plan_of c) (flat (segments v b w a x r p q g (h ∷ k ∷ rest ∷ []))) ≡ flat (segments v b w a x r p q (zeros (2 * t)) (zeros norms ∷ (zeros (3 * n) ++ rest) ∷ []))
    unfolding off part flat splice
    floats_none =
        let e : length (flat (zeros (2 * t) ∷ zeros norms ∷ zeros (3 * n) ∷ [])) ≡ length (g ++ (h ++ (k ++ []))) =
        ap length (zeros-three (2 * t) norms (3 * n)) ∙ zeros_long (2 * t + norms + 3 * n) ∙ sym (simp (length-append, append-nil) (omega arith)) in
        ap (λ (y : List Float). splice (flat (segments v b w a x r p q g (h ∷ k ∷ rest ∷ []))) (at_gradients n t) y) (sym (zeros-three (2 * t) norms (3 * n)))
        ∙ splice_segs (segments v b w a x r p q g (h ∷ k ∷ rest ∷ [])) 8 (at_gradients n t) (zeros (2 * t) ∷ zeros norms ∷ zeros (3 * n) ∷ []) (omega arith) (omega arith) e
        ∙ two-joined (segments v b w a x r p q (zeros (2 * t)) (zeros norms ∷ [])) (zeros (3 * n)) rest

  -- the vectors and the first norm
  module _ {v b w a x r p q g : List Float} (l : Laid n t v b w a x r p q g) (rest : List Float) where
    floats_begun : begun_floats (plan_of c) first (flat (segments v b w a x r p q g (zeros norms ∷ rest ∷ [])))
        ≡ flat (segments v b w a first.x first.r first.p (zeros n) g (padded norms plus_zero (root first.rs ∷ []) ∷ rest ∷ []))
    unfolding begun_floats
    floats_begun =
        let vs : Vectors n first = first_vectors in
        let back = zeros norms ∷ rest ∷ [] in
        let lx = laid_x l {y = first.x} vs.x in
        let lr = laid_r lx {y = first.r} vs.r in
        let lp = laid_p lr {y = first.p} vs.p in
        let lq = laid_product lp {y = zeros n} (zeros_long n) in
        let e : at_norms n t ≡ at_norms n t + 0 = omega arith in
        let long : length (zeros norms) ≡ norms = zeros_long norms in
        rw (
          put_x l back first.x vs.x,
          put_r lx back first.r vs.r,
          put_p lr back first.p vs.p,
          put_product lp back (zeros n) (zeros_long n),
          e,
          put_norms lq (zeros norms) rest 0 (root first.rs ∷ []) (omega arith),
          ← (padded_nil norms plus_zero),
          padded-more norms plus_zero [] (root first.rs ∷ []) 0 refl (omega arith),
        )

    -- what is begun from
    begun-from : (words : List ℕ) → b ≡ right_of c → a ≡ values → begun_again (plan_of c) (words_of c words) (flat (segments v b w a x r p q g (zeros norms ∷ rest ∷ []))) ≡ first
    begun-from words eb ea =
        let back = zeros norms ∷ rest ∷ [] in
        rw (matrix-read c z words (flat (segments v b w a x r p q g back)) (part_values l back ∙ ea), part_right l back, eb)

  -- ---- all of it, from any floats that are long enough

  abbrev lengths : List ℕ
  lengths = (2 * n) ∷ n ∷ n ∷ (9 * t + n) ∷ n ∷ n ∷ n ∷ n ∷ (2 * t) ∷ norms ∷ (3 * n) ∷ []

  module _ (floats : List Float) (fits : floats_used c ≤ length floats) where
    abbrev seg : ℕ → List Float
    seg i = get_or (cut lengths floats) i []

    seg_long : (i : ℕ) → i < 11 → length (seg i) ≡ get_or lengths i 0
    unfolding total
    seg_long i k = length_cut lengths floats (omega arith) i k

    laid_floats : Laid n t (seg 0) (seg 1) (seg 2) (seg 3) (seg 4) (seg 5) (seg 6) (seg 7) (seg 8)
    laid_floats = record {
      vertices = seg_long 0 (omega arith);
      right = seg_long 1 (omega arith);
      row = seg_long 2 (omega arith);
      values = seg_long 3 (omega arith);
      x_long = seg_long 4 (omega arith);
      r_long = seg_long 5 (omega arith);
      p_long = seg_long 6 (omega arith);
      product = seg_long 7 (omega arith);
      gradients = seg_long 8 (omega arith);
    }

    cut_floats : floats ≡ flat (segments (seg 0) (seg 1) (seg 2) (seg 3) (seg 4) (seg 5) (seg 6) (seg 7) (seg 8) (seg 9 ∷ seg 10 ∷ drop (floats_used c) floats ∷ []))
    unfolding cut total
    cut_floats =
        let e : total lengths ≡ floats_used c = omega arith in
        let d : seg 11 ≡ drop (floats_used c) floats = last_cut lengths floats ∙ ap (λ (k : ℕ). drop k floats) e in
        sym (flat-cut lengths floats)
        ∙ ap (λ (s : List Float). flat (segments (seg 0) (seg 1) (seg 2) (seg 3) (seg 4) (seg 5) (seg 6) (seg 7) (seg 8) (seg 9 ∷ seg 10 ∷ s ∷ []))) d

    abbrev rest : List Float
    rest = drop (floats_used c) floats

    -- as assembled, and with the gradients, the norms and the kept vectors cleared
    laid_assembled : Laid n t c.vertices (right_of c) (zeros n) values (seg 4) (seg 5) (seg 6) (seg 7) (zeros (2 * t))
    laid_assembled = record {
      vertices = z.vertices;
      right = right_length c;
      row = zeros_long n;
      values = length_kept_values c z;
      x_long = seg_long 4 (omega arith);
      r_long = seg_long 5 (omega arith);
      p_long = seg_long 6 (omega arith);
      product = seg_long 7 (omega arith);
      gradients = zeros_long (2 * t);
    }

    abbrev ready : List Float
    ready = none_kept (plan_of c) (assembled_floats c floats)

    floats_ready : ready ≡ flat (segments c.vertices (right_of c) (zeros n) values (seg 4) (seg 5) (seg 6) (seg 7) (zeros (2 * t)) (zeros norms ∷ (zeros (3 * n) ++ rest) ∷ []))
    floats_ready =
        let g = laid_gradients laid_assembled {y = seg 8} (seg_long 8 (omega arith)) in
        let long : length (seg 9) ≡ norms = seg_long 9 (omega arith) in
        let kept : length (seg 10) ≡ 3 * n = seg_long 10 (omega arith) in
        ap (λ (f : List Float). none_kept (plan_of c) (assembled_floats c f)) cut_floats
        ∙ ap (λ (f : List Float). none_kept (plan_of c) f) (floats_assembled laid_floats (seg 9) (seg 10) rest long kept)
        ∙ floats_none g (seg 9) (seg 10) rest long kept

    module _ (words : List ℕ) where
      vectors_begun : begun_again (plan_of c) (words_of c words) ready ≡ first
      vectors_begun = ap (λ (f : List Float). begun_again (plan_of c) (words_of c words) f) floats_ready ∙ begun-from laid_assembled (zeros (3 * n) ++ rest) words refl refl

      pub sum-opened : (begun_again (plan_of c) (words_of c words) ready).rs ≡ (place0 c).field.solve.rs
      unfolding place0
      sum-opened = ap (λ (s : Solve). s.rs) vectors_begun

      pub floats_opened : begun_floats (plan_of c) (begun_again (plan_of c) (words_of c words) ready) ready ≡ floats_of c (place0 c) None rest
      unfolding floats_of place0
      floats_opened =
          ap (λ (s : Solve). begun_floats (plan_of c) s ready) vectors_begun ∙ ap (λ (f : List Float). begun_floats (plan_of c) first f) floats_ready ∙ floats_begun laid_assembled (zeros (3 * n) ++ rest)

-- ---- the words

module _ (c : Task) (z : Sized c) where
  abbrev columns : List ℕ
  columns = padded (9 * triangle_count c + vertex_count c) 0 (columns_of (matrix_of c))

  nothing_long : (k : ℕ) → length (replicate {A = ℕ} k 0) ≡ k
  nothing_long k = length-replicate k 0

  abbrev word_lengths : List ℕ
  word_lengths =
      (3 * triangle_count c) ∷ (3 * triangle_count c) ∷ vertex_count c ∷ (vertex_count c + 1) ∷ (9 * triangle_count c + vertex_count c) ∷ vertex_count c ∷ (3 * triangle_count c) ∷ vertex_count c ∷ []

  module _ (words : List ℕ) (fits : words_used c ≤ length words) where
    abbrev word : ℕ → List ℕ
    word i = get_or (cut word_lengths words) i []

    word_long : (i : ℕ) → i < 8 → length (word i) ≡ get_or word_lengths i 0
    unfolding total
    word_long i k = length_cut word_lengths words (omega arith) i k

    abbrev left : List ℕ
    left = drop (words_used c) words

    cut_words : words ≡ flat (word 0 ∷ word 1 ∷ word 2 ∷ word 3 ∷ word 4 ∷ word 5 ∷ word 6 ∷ word 7 ∷ left ∷ [])
    unfolding cut total
    cut_words =
        let e : total word_lengths ≡ words_used c = omega arith in
        let d : word 8 ≡ left = last_cut word_lengths words ∙ ap (λ (k : ℕ). drop k words) e in
        sym (flat-cut word_lengths words) ∙ ap (λ (s : List ℕ). flat (word 0 ∷ word 1 ∷ word 2 ∷ word 3 ∷ word 4 ∷ word 5 ∷ word 6 ∷ word 7 ∷ s ∷ [])) d

    abbrev behind : List (List ℕ)
    behind = word 3 ∷ word 4 ∷ word 5 ∷ word 6 ∷ word 7 ∷ left ∷ []

    -- the mesh
    words_mesh : mesh_words c words ≡ flat (c.triangles ∷ c.neighbours ∷ c.tags ∷ behind)
    unfolding off
    words_mesh =
        let e0 : length (word 0) ≡ 3 * triangle_count c = word_long 0 (omega arith) in
        let e1 : length (word 1) ≡ 3 * triangle_count c = word_long 1 (omega arith) in
        let e2 : length (word 2) ≡ vertex_count c = word_long 2 (omega arith) in
        let e3 : length c.triangles ≡ 3 * triangle_count c = z.triangles in
        let e4 : length c.neighbours ≡ 3 * triangle_count c = z.neighbours in
        let e5 : length c.tags ≡ vertex_count c = z.tags in
        ap (mesh_words c) cut_words
        ∙ rw (
          splice_seg (word 0 ∷ word 1 ∷ word 2 ∷ behind) 0 0 c.triangles refl (omega arith) (omega arith),
          splice_seg (c.triangles ∷ word 1 ∷ word 2 ∷ behind) 1 (at_neighbours (triangle_count c)) c.neighbours (omega arith) (omega arith) (omega arith),
          splice_seg (c.triangles ∷ c.neighbours ∷ word 2 ∷ behind) 2 (at_tags (triangle_count c)) c.tags (omega arith) (omega arith) (omega arith),
        )

    corners_loaded : part (mesh_words c words) 0 (3 * triangle_count c) ≡ c.triangles
    unfolding off
    corners_loaded = rw words_mesh (part_seg (c.triangles ∷ c.neighbours ∷ c.tags ∷ behind) 0 0 (3 * triangle_count c) refl (omega arith) (sym z.triangles))

    tags_loaded : part (mesh_words c words) (at_tags (triangle_count c)) (vertex_count c) ≡ c.tags
    unfolding off
    tags_loaded =
        let e3 : length c.triangles ≡ 3 * triangle_count c = z.triangles in
        let e4 : length c.neighbours ≡ 3 * triangle_count c = z.neighbours in
        rw words_mesh (part_seg (c.triangles ∷ c.neighbours ∷ c.tags ∷ behind) 2 (at_tags (triangle_count c)) (vertex_count c) (omega arith) (omega arith) (sym z.tags))

    -- and its assembly
    abbrev assembled_words : List ℕ → List ℕ
    assembled_words ws =
        splice (splice (splice (splice (splice ws (at_starts (vertex_count c) (triangle_count c)) (starts_of (matrix_of c))) (at_columns (vertex_count c) (triangle_count c)) columns)
        (at_heads (vertex_count c) (triangle_count c)) (replicate (vertex_count c) 0)) (at_links (vertex_count c) (triangle_count c)) (replicate (3 * triangle_count c) 0))
        (at_row_columns (vertex_count c) (triangle_count c)) (replicate (vertex_count c) 0)

    words_assembled : assembled_words (mesh_words c words) ≡ words_of c left
    unfolding off words_of
    words_assembled =
        let e0 : length c.triangles ≡ 3 * triangle_count c = z.triangles in
        let e1 : length c.neighbours ≡ 3 * triangle_count c = z.neighbours in
        let e2 : length c.tags ≡ vertex_count c = z.tags in
        let e3 : length (word 3) ≡ vertex_count c + 1 = word_long 3 (omega arith) in
        let e4 : length (word 4) ≡ 9 * triangle_count c + vertex_count c = word_long 4 (omega arith) in
        let e5 : length (word 5) ≡ vertex_count c = word_long 5 (omega arith) in
        let e6 : length (word 6) ≡ 3 * triangle_count c = word_long 6 (omega arith) in
        let e7 : length (word 7) ≡ vertex_count c = word_long 7 (omega arith) in
        let d3 : length (starts_of (matrix_of c)) ≡ vertex_count c + 1 = length_row_starts c in
        let d4 : length columns ≡ 9 * triangle_count c + vertex_count c = length_kept_columns c z in
        let d5 : length (replicate {A = ℕ} (vertex_count c) 0) ≡ vertex_count c = nothing_long (vertex_count c) in
        let d6 : length (replicate {A = ℕ} (3 * triangle_count c) 0) ≡ 3 * triangle_count c = nothing_long (3 * triangle_count c) in
        let none = replicate {A = ℕ} (vertex_count c) 0 in
        let s = starts_of (matrix_of c) in
        ap assembled_words words_mesh
        ∙ rw (
          splice_seg (c.triangles ∷ c.neighbours ∷ c.tags ∷ behind) 3 (at_starts (vertex_count c) (triangle_count c)) s (omega arith) (omega arith) (omega arith),
          splice_seg (c.triangles ∷ c.neighbours ∷ c.tags ∷ s ∷ word 4 ∷ word 5 ∷ word 6 ∷ word 7 ∷ left ∷ []) 4 (at_columns (vertex_count c) (triangle_count c)) columns (omega arith) (omega arith) (omega arith),
          splice_seg (c.triangles ∷ c.neighbours ∷ c.tags ∷ s ∷ columns ∷ word 5 ∷ word 6 ∷ word 7 ∷ left ∷ []) 5 (at_heads (vertex_count c) (triangle_count c)) none (omega arith) (omega arith) (omega arith),
          splice_seg (c.triangles ∷ c.neighbours ∷ c.tags ∷ s ∷ columns ∷ none ∷ word 6 ∷ word 7 ∷ left ∷ []) 6 (at_links (vertex_count c) (triangle_count c)) (replicate (3 * triangle_count c) 0) (omega arith) (omega arith) (omega arith),
          splice_seg (c.triangles ∷ c.neighbours ∷ c.tags ∷ s ∷ columns ∷ none ∷ replicate (3 * triangle_count c) 0 ∷ word 7 ∷ left ∷ []) 7 (at_row_columns (vertex_count c) (triangle_count c)) none (omega arith) (omega arith) (omega arith),
        )

-- ---- the assembly of a loaded mesh

module _ (c : Task) (good : Sized c) (floats : List Float) (words : List ℕ) (floats_fit : 5 * vertex_count c + 9 * triangle_count c ≤ length floats) (words_fit : words_used c ≤ length words) where
  abbrev n' : ℕ
  n' = vertex_count c

  abbrev t' : ℕ
  t' = triangle_count c

  abbrev places : Places
  places = places_at n' t'

  vertices_loaded : part (mesh_floats c floats) 0 (2 * n') ≡ c.vertices
  vertices_loaded = part_splice-same floats 0 c.vertices (2 * n') good.vertices (omega arith)

  pub lays_floats : LaidFloats (mesh_floats c floats) n' t' places
  lays_floats =
      let e : length (mesh_floats c floats) ≡ length floats = length-splice floats 0 c.vertices in
      record { vertices = omega arith; right = omega arith; row = omega arith; values = omega arith }

  pub lays_words : LaidWords (mesh_words c words) n' t' places
  lays_words =
      let e : length (mesh_words c words) ≡ length words = length-splice _ (at_tags t') c.tags ∙ length-splice _ (at_neighbours t') c.neighbours ∙ length-splice words 0 c.triangles in
      record {
        few = record { vertices = good.vertices_most; triangles = good.triangles_most };
        triangles = omega arith;
        tags = omega arith;
        starts = omega arith;
        cols = omega arith;
        heads = omega arith;
        links = omega arith;
        row = omega arith;
        corners = rw (corners_loaded c good words words_fit) (below_each n' c.triangles good.corners).1;
      }

  matrix_assembled : rows_for element.flat (mesh_floats c floats) (mesh_words c words) n' t' places n' ≡ matrix_of c
  unfolding matrix_of
  matrix_assembled = rw (vertices_loaded, corners_loaded c good words words_fit, tags_loaded c good words words_fit)

  right_assembled : right_side c.held (tags_in (mesh_words c words) n' places) (pushes_in element.flat (mesh_floats c floats) (mesh_words c words) n' t' places) n' ≡ right_of c
  unfolding right_of
  right_assembled = rw (vertices_loaded, corners_loaded c good words words_fit, tags_loaded c good words words_fit)

  pub laid_out : (floats' : List Float) (words' : List ℕ) (k : ℕ)
      → Assembled (mesh_floats c floats) (mesh_words c words) floats' words' n' t' places k (rows_for element.flat (mesh_floats c floats) (mesh_words c words) n' t' places n')
      (right_side c.held (tags_in (mesh_words c words) n' places) (pushes_in element.flat (mesh_floats c floats) (mesh_words c words) n' t' places) n')
      → LaidOut c floats words floats' words'
  unfolding assembled_floats
  laid_out floats' words' k a = record {
    floats_are = a.floats_are ∙ rw (right_assembled, matrix_assembled);
    words_are = a.words_are ∙ rw matrix_assembled (words_assembled c good words words_fit);
  }
