-- What is read from an image: the mesh, the matrix and the right side are the task's, and the vectors and gradients the state's.
-- Assumes nothing.
use Rattle.std.specs.Prelude.{ℕ, ◌+◌, ◌*◌, ◌≤◌, ◌≡◌, List, [], ◌∷◌, ◌++◌, Float, Option}
use Rattle.std.proofs.Math.Path.{refl}
use Rattle.std.proofs.Common.{sym, ap, ◌∙◌, arith}
use Rattle.std.proofs.Math.ListN.{length}
use Rattle.binary64.specs.Constants.{plus_zero}
use Rattle.stretch.specs.Stretch.{part, flat, off}
use Rattle.stretch.specs.StretchLaws.{part_part, part_front}
use Rattle.stretch.specs.SegmentLaws.{part_seg}
use Rattle.sparse.specs.Stored.{rows_of, matrix}
use Rattle.pde.specs.Path.{point_floats, coordinates_of}
use Rattle.laplace.specs.Placed.{values_of, columns_of, starts_of, padded}
use Rattle.model.specs.Task.{Task, vertex_count, triangle_count}
use Rattle.model.specs.Run.{State, matrix_of, right_of}
use Rattle.model.specs.Sized.{Sized}
use Rattle.model.proofs.SizeLaws.{matrix-length}
use Rattle.work.specs.Layout.{at_right, at_values, at_x, at_r, at_p, at_kept, at_gradients, at_norms, at_neighbours, at_tags, at_starts, at_columns, matrix_at}
use Rattle.work.specs.Memory.{front_of}
use Rattle.image.specs.Image.{plan_of, kept_vectors, front_segments, floats_of, words_of, path_of}
use Rattle.image.proofs.ImageLawsMatrix.{length_values, length_columns, read_back}
use Rattle.image.proofs.ImageLawsPadded.{length-padded, part_padded}
use Rattle.image.proofs.ImageLawsSegments.{part_vertices, part_right, part_values, part_x, part_r, part_p, part_kept, part_gradients, part_norms, front_segs}
use Rattle.image.proofs.ImageLawsLengths.{Shaped, few, laid, length_norms, length_points, length_kept, length_kept_columns, length_row_starts, word_segments}

-- the front of a padded stretch
part_stretch : {A : Type 0} (l : List A) (at k : ℕ) (d : A) (xs : List A) (n : ℕ) → part l at k ≡ padded k d xs → length xs ≡ n → n ≤ k → part l at n ≡ xs
part_stretch {A} l at k d xs n e f h =
    let a : at + 0 ≡ at = omega arith in
    ap (λ (j : ℕ). part l j n) (sym a) ∙ sym (part_part l at k 0 n (omega arith)) ∙ ap (λ (m : List A). part m 0 n) e ∙ part_padded k d xs n f

module _ (c : Task) (z : Sized c) (rest : List ℕ) where
  abbrev n : ℕ
  n = vertex_count c

  abbrev t : ℕ
  t = triangle_count c

  abbrev ss : List (List ℕ)
  ss = word_segments c ++ (rest ∷ [])

  pub words_triangles : part (words_of c rest) 0 (3 * t) ≡ c.triangles
  unfolding words_of off
  words_triangles = part_seg ss 0 0 (3 * t) refl (omega arith) (sym z.triangles)

  pub words_neighbours : part (words_of c rest) (at_neighbours t) (3 * t) ≡ c.neighbours
  unfolding words_of off
  words_neighbours = part_seg ss 1 (at_neighbours t) (3 * t) (omega (arith, z.triangles)) (omega arith) (sym z.neighbours)

  pub words_tags : part (words_of c rest) (at_tags t) n ≡ c.tags
  unfolding words_of off
  words_tags = part_seg ss 2 (at_tags t) n (omega (arith, z.triangles, z.neighbours)) (omega arith) (sym z.tags)

  pub words_starts : part (words_of c rest) (at_starts n t) (n + 1) ≡ starts_of (matrix_of c)
  unfolding words_of off
  words_starts = part_seg ss 3 (at_starts n t) (n + 1) (omega (arith, z.triangles, z.neighbours, z.tags)) (omega arith) (sym (length_row_starts c))

  pub words_columns : part (words_of c rest) (at_columns n t) (9 * t + n) ≡ padded (9 * t + n) 0 (columns_of (matrix_of c))
  unfolding words_of off
  words_columns =
      part_seg ss 4 (at_columns n t) (9 * t + n) (omega (arith, z.triangles, z.neighbours, z.tags, length_row_starts c)) (omega arith) (sym (length_kept_columns c z))

  -- the matrix, where the floats have its values
  pub matrix-read : (floats : List Float) → part floats (at_values n t) (9 * t + n) ≡ padded (9 * t + n) plus_zero (values_of (matrix_of c)) → matrix (words_of c rest) floats (matrix_at n t) ≡ matrix_of c
  matrix-read floats e =
      let k : length (matrix_of c) ≡ n = matrix-length c in
      let f : length (flat (matrix_of c)) ≤ 9 * t + n = few c z in
      ap (λ (j : ℕ). rows_of (words_of c rest) floats (matrix_at n t) j) (sym k)
      ∙ read_back (words_of c rest) floats (matrix_at n t) (matrix_of c) (ap (λ (j : ℕ). part (words_of c rest) (at_starts n t) (j + 1)) k ∙ words_starts)
      (part_stretch (words_of c rest) (at_columns n t) (9 * t + n) 0 (columns_of (matrix_of c)) (length (flat (matrix_of c))) words_columns (length_columns (matrix_of c)) f)
      (part_stretch floats (at_values n t) (9 * t + n) plus_zero (values_of (matrix_of c)) (length (flat (matrix_of c))) e (length_values (matrix_of c)) f)

-- ---- the floats

module _ (c : Task) (z : Sized c) (s : State) (h : Shaped c s) (m : Option ℕ) (rest : List Float) where
  abbrev back : List (List Float)
  back = padded (c.limit + 1) plus_zero s.field.norms ∷ (kept_vectors c m ++ rest) ∷ []

  pub floats_vertices : part (floats_of c s m rest) 0 (2 * vertex_count c) ≡ c.vertices
  unfolding floats_of
  floats_vertices = part_vertices (laid c z s h) back

  pub floats_right : part (floats_of c s m rest) (at_right (vertex_count c) (triangle_count c)) (vertex_count c) ≡ right_of c
  unfolding floats_of
  floats_right = part_right (laid c z s h) back

  pub floats_x : part (floats_of c s m rest) (at_x (vertex_count c) (triangle_count c)) (vertex_count c) ≡ s.field.solve.x
  unfolding floats_of
  floats_x = part_x (laid c z s h) back

  pub floats_r : part (floats_of c s m rest) (at_r (vertex_count c) (triangle_count c)) (vertex_count c) ≡ s.field.solve.r
  unfolding floats_of
  floats_r = part_r (laid c z s h) back

  pub floats_p : part (floats_of c s m rest) (at_p (vertex_count c) (triangle_count c)) (vertex_count c) ≡ s.field.solve.p
  unfolding floats_of
  floats_p = part_p (laid c z s h) back

  pub floats_kept : part (floats_of c s m rest) (at_kept (vertex_count c) (triangle_count c) c.limit) (3 * vertex_count c) ≡ kept_vectors c m
  unfolding floats_of
  floats_kept = part_kept (laid c z s h) (padded (c.limit + 1) plus_zero s.field.norms) (kept_vectors c m) rest c.limit (length_norms c z s h) (length_kept c m)

  pub floats_gradients : part (floats_of c s m rest) (at_gradients (vertex_count c) (triangle_count c)) (2 * triangle_count c) ≡ s.trail.gradients
  unfolding floats_of
  floats_gradients = part_gradients (laid c z s h) back

  pub floats_norms : part (floats_of c s m rest) (at_norms (vertex_count c) (triangle_count c)) (c.limit + 1) ≡ padded (c.limit + 1) plus_zero s.field.norms
  unfolding floats_of
  floats_norms = part_norms (laid c z s h) (padded (c.limit + 1) plus_zero s.field.norms) (kept_vectors c m ++ rest) (c.limit + 1) (sym (length_norms c z s h))

  -- the part that a pass works on
  pub front-image : front_of (plan_of c) (floats_of c s m rest) ≡ flat (front_segments c s)
  unfolding floats_of
  front-image = front_segs (laid c z s h) back

  -- the matrix, from the whole of the floats and from that part
  pub matrix-image : (words : List ℕ) → matrix (words_of c words) (floats_of c s m rest) (matrix_at (vertex_count c) (triangle_count c)) ≡ matrix_of c
  unfolding floats_of
  matrix-image words = matrix-read c z words (flat (front_segments c s ++ back)) (part_values (laid c z s h) back)

  pub matrix-front : (words : List ℕ) → matrix (words_of c words) (front_of (plan_of c) (floats_of c s m rest)) (matrix_at (vertex_count c) (triangle_count c)) ≡ matrix_of c
  matrix-front words = rw front-image (matrix-read c z words (flat (front_segments c s)) (part_values (laid c z s h) []))

  -- ---- the path

  pub path_points : part (path_of c s rest) 0 (point_floats * s.trail.walk.points) ≡ coordinates_of s.trail.path
  unfolding path_of
  path_points =
      let k : length (coordinates_of s.trail.path) ≡ point_floats * s.trail.walk.points = length_points c z s h in
      let l : length (padded (point_floats * c.room) plus_zero (coordinates_of s.trail.path)) ≡ point_floats * c.room =
      length-padded (point_floats * c.room) plus_zero (coordinates_of s.trail.path) (omega (arith, h.room)) in
      part_front (padded (point_floats * c.room) plus_zero (coordinates_of s.trail.path)) rest 0 (point_floats * s.trail.walk.points) (omega (arith, h.room))
      ∙ part_padded (point_floats * c.room) plus_zero (coordinates_of s.trail.path) (point_floats * s.trail.walk.points) k
