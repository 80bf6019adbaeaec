-- What the record and the buffers show after every list of calls: all that document 01 compares is as in the uninterrupted run where the counter machine stands.
-- It takes of the image what `Facts` and `Parts` state. Assumes nothing.
use Rattle.std.specs.Prelude.{ℕ, zero, suc, ◌+◌, ◌-◌, ◌*◌, ◌≤◌, ◌<◌, ◌≡◌, refl, List, [], ◌∷◌, ◌++◌, get_or, Float}
use Rattle.std.proofs.Common.{sym, ◌∙◌, ⊎_elim, eq-or-lt_of_le}
use Rattle.std.proofs.Math.Path.{ap}
use native.Mathlib.Omega.{arith}
use Rattle.std.proofs.Math.ListN.{length, replicate, length-replicate, get_or-append}
use Rattle.std.proofs.lemmas.List.{get_or_at}
use Rattle.binary64.specs.Constants.{plus_zero}
use Rattle.stretch.specs.Stretch.{part, off}
use Rattle.stretch.specs.StretchLaws.{part_all, part_front, part_rest}
use Rattle.stretch.specs.SegmentLaws.{off_suc, part_seg, part_within}
use Rattle.mesh.specs.Element.{flat}
use Rattle.laplace.specs.Assembly.{Push, pushes, row, rows}
use Rattle.laplace.specs.Matrix.{AllBelow, row_rising, row_below, pushes_below, symmetric, held-row, held_column_lem}
use Rattle.laplace.specs.Placed.{values_of, padded}
use Rattle.pde.specs.Path.{point_floats, coordinates_of}
use Rattle.model.specs.Task.{Task, vertex_count, triangle_count}
use Rattle.model.proofs.SizeLaws.{length-rows}
use Rattle.model.specs.Sized.{Sized}
use Rattle.model.specs.Run.{at, matrix_of, last_place}
use Rattle.model.specs.Machine.{Counter, fresh, Lent}
use Rattle.work.specs.Layout.{at_x, at_gradients, at_norms}
use Rattle.image.specs.Image.{run_of, float_segments, floats_of, path_of, Rest, image}
use Rattle.image.proofs.ImageFacts.{Facts, Parts}
use Rattle.image.proofs.ImageLawsPadded.{length-padded, part_padded}
use Rattle.image.proofs.ListTheorem.{Within, machine-within, list_theorem}
use Rattle.image.specs.Lists.{Held, performs}
use Rattle.image.specs.Shown.{lengths_of, machine, Symmetric, Shown, ListShown}

-- ---- a list with +0 up to k places

module _ {A : Type 0} (k : ℕ) (z : A) (l : List A) where
  padded_filled : part (padded k z l) 0 (length l) ≡ l
  padded_filled = part_padded k z l (length l) refl

  padded-beyond : part (padded k z l) (length l) (k - length l) ≡ replicate (k - length l) z
  unfolding padded
  padded-beyond =
      let e : length l ≡ length l + 0 = omega arith in
      let f : length (replicate (k - length l) z) ≡ k - length l = length-replicate (k - length l) z in
      ap (λ (j : ℕ). part (l ++ replicate (k - length l) z) j (k - length l)) e ∙ part_rest l (replicate (k - length l) z) 0 (k - length l)
      ∙ part_all (replicate (k - length l) z) (k - length l) (omega arith)

-- ---- the parts of the buffers

module _ (c : Task) (good : Sized c) (parts : Parts c) where
  module _ (s : Counter) (floats : List Float) (w : Within (last_place c) s) where
    abbrev segments : List (List Float)
    segments = float_segments c (at c s.place) s.mark floats

    off_x : at_x (vertex_count c) (triangle_count c) ≡ off segments 4
    unfolding off
    off_x =
        let v : _ = good.vertices in
        let b : _ = parts.right_long in
        let z : _ = length-replicate (vertex_count c) plus_zero in
        let a : _ = length-padded (9 * triangle_count c + vertex_count c) plus_zero (values_of (matrix_of c)) parts.values_long in
        omega arith

    off_gradients : at_gradients (vertex_count c) (triangle_count c) ≡ off segments 8
    unfolding off
    off_gradients =
        let v : _ = good.vertices in
        let b : _ = parts.right_long in
        let z : _ = length-replicate (vertex_count c) plus_zero in
        let a : _ = length-padded (9 * triangle_count c + vertex_count c) plus_zero (values_of (matrix_of c)) parts.values_long in
        let x : _ = parts.x_long s.place w.place_in in
        let r : _ = parts.r_long s.place w.place_in in
        let p : _ = parts.p_long s.place w.place_in in
        omega arith

    off_norms : at_norms (vertex_count c) (triangle_count c) ≡ off segments 9
    off_norms =
        let g : _ = parts.gradients_long s.place w.place_in in
        let e : _ = off_gradients in
        let n : off segments 9 ≡ off segments 8 + length (at c s.place).trail.gradients = off_suc segments 8 in
        omega arith

    abbrev norms : List Float
    norms = (at c s.place).field.norms

    field_part : part (floats_of c (at c s.place) s.mark floats) (at_x (vertex_count c) (triangle_count c)) (vertex_count c) ≡ (at c s.place).field.solve.x
    unfolding floats_of
    field_part = part_seg segments 4 (at_x (vertex_count c) (triangle_count c)) (vertex_count c) off_x (omega arith) (sym (parts.x_long s.place w.place_in))

    gradients_part : part (floats_of c (at c s.place) s.mark floats) (at_gradients (vertex_count c) (triangle_count c)) (2 * triangle_count c) ≡ (at c s.place).trail.gradients
    unfolding floats_of
    gradients_part =
        part_seg segments 8 (at_gradients (vertex_count c) (triangle_count c)) (2 * triangle_count c) off_gradients (omega arith) (sym (parts.gradients_long s.place w.place_in))

    norms_part : part (floats_of c (at c s.place) s.mark floats) (at_norms (vertex_count c) (triangle_count c)) (length norms) ≡ norms
    unfolding floats_of
    norms_part =
        let h : _ = parts.norms_long s.place w.place_in in
        let l : _ = length-padded (c.limit + 1) plus_zero norms h in
        let o : _ = off_norms in
        part_within segments 9 0 (at_norms (vertex_count c) (triangle_count c)) (length norms) (omega arith) (omega arith) (omega arith) ∙ padded_filled (c.limit + 1) plus_zero norms

    beyond_norms_lem : part (floats_of c (at c s.place) s.mark floats) (at_norms (vertex_count c) (triangle_count c) + length norms) (c.limit + 1 - length norms)
        ≡ replicate (c.limit + 1 - length norms) plus_zero
    unfolding floats_of
    beyond_norms_lem =
        let h : _ = parts.norms_long s.place w.place_in in
        let l : _ = length-padded (c.limit + 1) plus_zero norms h in
        let o : _ = off_norms in
        part_within segments 9 (length norms) (at_norms (vertex_count c) (triangle_count c) + length norms) (c.limit + 1 - length norms) (omega arith) (omega arith) (omega arith)
        ∙ padded-beyond (c.limit + 1) plus_zero norms

  module _ (p : ℕ) (rest : List Float) (h : p ≤ last_place c) where
    abbrev path : List Float
    path = coordinates_of (at c p).trail.path

    abbrev filled : ℕ
    filled = point_floats * (at c p).trail.walk.points

    points_part : part (path_of c (at c p) rest) 0 filled ≡ path
    unfolding path_of
    points_part =
        let t : length path ≡ filled = parts.path_counted p h in
        let u : _ = parts.points_in_lem p h in
        let l : length (padded (point_floats * c.room) plus_zero path) ≡ point_floats * c.room = length-padded (point_floats * c.room) plus_zero path (omega arith) in
        rw (← t) (part_front (padded (point_floats * c.room) plus_zero path) rest 0 (length path) (omega arith) ∙ padded_filled (point_floats * c.room) plus_zero path)

    beyond_points_lem : part (path_of c (at c p) rest) filled (point_floats * c.room - filled) ≡ replicate (point_floats * c.room - filled) plus_zero
    unfolding path_of
    beyond_points_lem =
        let t : length path ≡ filled = parts.path_counted p h in
        let u : _ = parts.points_in_lem p h in
        let l : length (padded (point_floats * c.room) plus_zero path) ≡ point_floats * c.room = length-padded (point_floats * c.room) plus_zero path (omega arith) in
        rw (← t)
        (part_front (padded (point_floats * c.room) plus_zero path) rest (length path) (point_floats * c.room - length path) (omega arith) ∙ padded-beyond (point_floats * c.room) plus_zero path)

-- ---- the matrix

-- row i is the vertex's
row_of : (tags : List ℕ) (ps : List Push) (n i : ℕ) → i < n → get_or (rows tags ps n) i [] ≡ row tags ps i
unfolding rows
row_of tags ps zero i h = absurd (omega arith)
row_of tags ps (suc n) i h =
    let l : length (rows tags ps n) ≡ n = length-rows tags ps n in
    let k : i ≤ n = omega arith in
    ⊎_elim
    (λ (e : i ≡ n). rw e (get_or_at (rows tags ps n) (row tags ps n) [] [] n l))
    (λ (e : i < n). get_or-append (rows tags ps n) (row tags ps n ∷ []) [] i (omega arith) ∙ row_of tags ps n i e)
    (eq-or-lt_of_le k)

all_below_lem : (n : ℕ) (ts : List ℕ) → ((i : ℕ) → i < length ts → get_or ts i 0 < n) → AllBelow n ts
unfolding AllBelow
all_below_lem n [] h = tt
all_below_lem n (t ∷ ts) h = (h 0 (omega arith), all_below_lem n ts (λ i k. h (suc i) (omega arith)))

pub matrix_symmetric : (c : Task) → Sized c → Symmetric (vertex_count c) c.tags (matrix_of c)
unfolding matrix_of
matrix_symmetric c good =
    let n = vertex_count c in
    let ps = pushes flat c.vertices c.triangles in
    record {
      count = length-rows c.tags ps n;
      rising = λ i h. rw (row_of c.tags ps n i h) (row_rising c.tags ps i);
      below = λ i h. rw (row_of c.tags ps n i h) (row_below n c.tags ps i h (pushes_below n flat c.vertices c.triangles (all_below_lem n c.triangles good.corners)));
      transposed = λ i j h k. rw (row_of c.tags ps n i h, row_of c.tags ps n j k) (symmetric c.tags flat c.vertices c.triangles i j);
      held_row = λ i h f. row_of c.tags ps n i h ∙ held-row c.tags ps i f;
      held_column = λ i j h f. rw (row_of c.tags ps n i h) (held_column_lem c.tags ps i j f);
    }

-- ---- the statement

-- as opening leaves it
abbrev as_opened : Task → Rest → Held
as_opened c rest = record { run = run_of c fresh; all = image c fresh rest; said = [] }

module _ (c : Task) (good : Sized c) (facts : Facts c) (parts : Parts c) where
  -- an image shows it
  pub image-shown : (s : Counter) (rest : Rest) → Within (last_place c) s → Shown c s (run_of c s) (image c s rest)
  unfolding run_of image
  image-shown s rest w =
      let e : _ = w.place_in in
      let l : _ = facts.last_bound in
      let m : _ = parts.read_back s.place s.mark rest.floats rest.words w.place_in w.mark_in in
      record {
        place = refl;
        passes = refl;
        reach = omega arith;
        field_end = refl;
        path_end = refl;
        field = field_part c good parts s rest.floats w;
        gradients = gradients_part c good parts s rest.floats w;
        norm_count = refl;
        norms = norms_part c good parts s rest.floats w;
        beyond_norms = beyond_norms_lem c good parts s rest.floats w;
        point_count = refl;
        points = points_part c good parts s.place rest.path w.place_in;
        beyond_points = beyond_points_lem c good parts s.place rest.path w.place_in;
        matrix = m;
        symmetric = rw m (matrix_symmetric c good);
      }

  -- Demand 3: so it is after every list of calls with arguments and lent fronts, and each refusal is the machine's.
  pub list_shown : (rest : Rest) (ls : List Lent) → ListShown c (machine c (lengths_of (image c fresh rest)) ls) (performs ls (as_opened c rest))
  list_shown rest ls =
      let t = machine c (lengths_of (image c fresh rest)) ls in
      rw (list_theorem c good facts rest ls) (record { refusals = refl; shown = image-shown t.counter rest (machine-within c good facts (lengths_of (image c fresh rest)) ls) })
