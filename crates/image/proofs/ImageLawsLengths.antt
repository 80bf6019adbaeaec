-- How long the lists of an image are: each segment of the floats is as long as its place says, and each buffer is its used places and what was lent beyond them.
-- Assumes nothing.
use Rattle.std.specs.Prelude.{ℕ, ◌+◌, ◌*◌, ◌≤◌, ◌≡◌, List, [], ◌∷◌, ◌++◌, replicate, Float, Option, Some, None}
use Rattle.std.proofs.Common.{sym, ◌∙◌, append-nil, append_assoc, arith}
use Rattle.std.proofs.Math.Path.{ap}
use Rattle.std.proofs.Math.ListN.{length, length-append}
use Rattle.std.proofs.lemmas.List.{length-replicate}
use Rattle.binary64.specs.Constants.{plus_zero}
use Rattle.stretch.specs.Stretch.{flat, off}
use Rattle.stretch.specs.SegmentLaws.{flat_snoc, length-flat}
use Rattle.mesh.specs.Element as element
use Rattle.laplace.specs.Matrix.{few_entries}
use Rattle.laplace.specs.Placed.{values_of, columns_of, starts_of, padded}
use Rattle.conjugate.specs.Solver.{Solve}
use Rattle.pde.specs.Path.{point_floats, coordinates_of}
use Rattle.pde.specs.PathLaws.{length_coordinates}
use Rattle.model.specs.Task.{Task, vertex_count, triangle_count}
use Rattle.model.specs.Run.{State, at, matrix_of, right_of}
use Rattle.model.specs.Sized.{Sized, Vectors}
use Rattle.model.proofs.SizeLaws.{matrix-length, right_length}
use Rattle.model.proofs.RunLaws.{vectors_sized, gradients_sized, norms_bound, path_sized, points_bound}
use Rattle.image.specs.Image.{kept_vectors, front_segments, float_segments, floats_of, words_of, path_of, floats_used, words_used}
use Rattle.image.proofs.ImageLawsMatrix.{length_values, length_columns, length_starts, length-flat-count}
use Rattle.image.proofs.ImageLawsPadded.{length-padded}
use Rattle.image.proofs.ImageLawsSegments.{zeros, segments, Laid}

-- what a state's lists must be to stand in the buffers
pub record Shaped (c : Task) (s : State) : Type 0 where
  pub vectors : Vectors (vertex_count c) s.field.solve
  pub gradients : length s.trail.gradients ≡ 2 * triangle_count c
  pub norms : length s.field.norms ≤ c.limit + 1
  pub path : length s.trail.path ≡ s.trail.walk.points
  pub room : s.trail.walk.points ≤ c.room

pub shaped_at : (c : Task) → Sized c → (p : ℕ) → Shaped c (at c p)
shaped_at c z p = record {
  vectors = vectors_sized c p;
  gradients = gradients_sized c p;
  norms = norms_bound c p;
  path = path_sized c p;
  room = points_bound c z.room p;
}

-- ---- the matrix

-- its values and columns have room
pub few : (c : Task) → Sized c → length (flat (matrix_of c)) ≤ 9 * triangle_count c + vertex_count c
unfolding matrix_of
few c z =
    let e : length c.triangles ≡ 3 * triangle_count c = z.triangles in
    omega (arith, length-flat-count (matrix_of c), few_entries c.tags element.flat c.vertices c.triangles (vertex_count c))

pub length_kept_values : (c : Task) → Sized c → length (padded (9 * triangle_count c + vertex_count c) plus_zero (values_of (matrix_of c))) ≡ 9 * triangle_count c + vertex_count c
length_kept_values c z = length-padded (9 * triangle_count c + vertex_count c) plus_zero (values_of (matrix_of c)) (omega (arith, few c z, length_values (matrix_of c)))

pub length_kept_columns : (c : Task) → Sized c → length (padded (9 * triangle_count c + vertex_count c) 0 (columns_of (matrix_of c))) ≡ 9 * triangle_count c + vertex_count c
length_kept_columns c z = length-padded (9 * triangle_count c + vertex_count c) 0 (columns_of (matrix_of c)) (omega (arith, few c z, length_columns (matrix_of c)))

pub length_row_starts : (c : Task) → length (starts_of (matrix_of c)) ≡ vertex_count c + 1
length_row_starts c = length_starts 0 (matrix_of c) ∙ ap (λ (k : ℕ). k + 1) (matrix-length c)

-- ---- the kept vectors

three_long : (n : ℕ) (s : Solve) → Vectors n s → length (s.x ++ (s.r ++ s.p)) ≡ 3 * n
three_long n s v = simp length-append (omega (arith, v.x, v.r, v.p))

pub length_kept : (c : Task) (m : Option ℕ) → length (kept_vectors c m) ≡ 3 * vertex_count c
length_kept c None = length-replicate (3 * vertex_count c) plus_zero
length_kept c (Some q) = three_long (vertex_count c) (at c q).field.solve (vectors_sized c q)

-- ---- the floats

-- the segments of the floats with these vectors and gradients, and that each is as long as its place says
abbrev pub fronts : Task → List Float → List Float → List Float → List Float → List (List Float) → List (List Float)
fronts c x r p g =
    segments c.vertices (right_of c) (zeros (vertex_count c)) (padded (9 * triangle_count c + vertex_count c) plus_zero (values_of (matrix_of c))) x r p (zeros (vertex_count c)) g

abbrev pub Lies : Task → List Float → List Float → List Float → List Float → Type 0
Lies c x r p g =
    Laid (vertex_count c) (triangle_count c) c.vertices (right_of c) (zeros (vertex_count c)) (padded (9 * triangle_count c + vertex_count c) plus_zero (values_of (matrix_of c))) x r p
    (zeros (vertex_count c)) g

module _ (c : Task) (z : Sized c) (s : State) (h : Shaped c s) where
  pub laid : Lies c s.field.solve.x s.field.solve.r s.field.solve.p s.trail.gradients
  laid = record {
    vertices = z.vertices;
    right = right_length c;
    row = length-replicate (vertex_count c) plus_zero;
    values = length_kept_values c z;
    x_long = h.vectors.x;
    r_long = h.vectors.r;
    p_long = h.vectors.p;
    product = length-replicate (vertex_count c) plus_zero;
    gradients = h.gradients;
  }

  pub length_norms : length (padded (c.limit + 1) plus_zero s.field.norms) ≡ c.limit + 1
  length_norms = length-padded (c.limit + 1) plus_zero s.field.norms h.norms

  pub length_floats : (m : Option ℕ) (rest : List Float) → length (floats_of c s m rest) ≡ floats_used c + length rest
  unfolding floats_of off
  length_floats m rest =
      let l : Lies c s.field.solve.x s.field.solve.r s.field.solve.p s.trail.gradients = laid in
      length-flat (float_segments c s m rest) ∙ omega (arith, length_norms, length-append (kept_vectors c m) rest, length_kept c m)

  -- the points, as floats, fit the room
  pub length_points : length (coordinates_of s.trail.path) ≡ point_floats * s.trail.walk.points
  length_points = length_coordinates s.trail.path ∙ ap (λ (k : ℕ). point_floats * k) h.path

  pub length_path : (rest : List Float) → length (path_of c s rest) ≡ 2 * c.room + length rest
  unfolding path_of
  length_path rest =
      length-append (padded (point_floats * c.room) plus_zero (coordinates_of s.trail.path)) rest
      ∙ ap (λ (k : ℕ). k + length rest) (length-padded (point_floats * c.room) plus_zero (coordinates_of s.trail.path) (omega (arith, length_points, h.room)))

-- ---- the words

-- the segments before what was lent beyond them
abbrev pub word_segments : Task → List (List ℕ)
word_segments c =
    c.triangles
    ∷ c.neighbours
    ∷ c.tags
    ∷ starts_of (matrix_of c)
    ∷ padded (9 * triangle_count c + vertex_count c) 0 (columns_of (matrix_of c))
    ∷ replicate (vertex_count c) 0
    ∷ replicate (3 * triangle_count c) 0
    ∷ replicate (vertex_count c) 0
    ∷ []

pub length_words : (c : Task) → Sized c → (rest : List ℕ) → length (words_of c rest) ≡ words_used c + length rest
unfolding words_of off
length_words c z rest =
    length-flat (word_segments c ++ (rest ∷ []))
    ∙ omega (arith, length_row_starts c, length_kept_columns c z, length-replicate {A = ℕ} (vertex_count c) 0, length-replicate {A = ℕ} (3 * triangle_count c) 0)

-- ---- the places used, and what was lent beyond them

split : {A : Type 0} (ss : List (List A)) (rest : List A) → flat (ss ++ (rest ∷ [])) ≡ flat (ss ++ ([] ∷ [])) ++ rest
split {A} ss rest = flat_snoc ss rest ∙ ap (λ (l : List A). l ++ rest) (sym (flat_snoc ss [] ∙ append-nil (flat ss)))

pub floats_split : (c : Task) (s : State) (m : Option ℕ) (rest : List Float) → floats_of c s m rest ≡ floats_of c s m [] ++ rest
unfolding floats_of
floats_split c s m rest =
    let ss = front_segments c s ++ (padded (c.limit + 1) plus_zero s.field.norms ∷ []) in
    flat_snoc ss (kept_vectors c m ++ rest)
    ∙ sym (append_assoc (flat ss) (kept_vectors c m) rest)
    ∙ ap (λ (l : List Float). l ++ rest) (sym (flat_snoc ss (kept_vectors c m ++ []) ∙ ap (λ (l : List Float). flat ss ++ l) (append-nil (kept_vectors c m))))

pub words_split : (c : Task) (rest : List ℕ) → words_of c rest ≡ words_of c [] ++ rest
unfolding words_of
words_split c rest = split (word_segments c) rest

pub path_split : (c : Task) (s : State) (rest : List Float) → path_of c s rest ≡ path_of c s [] ++ rest
unfolding path_of
path_split c s rest = ap (λ (l : List Float). l ++ rest) (sym (append-nil (padded (point_floats * c.room) plus_zero (coordinates_of s.trail.path))))
