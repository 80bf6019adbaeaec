-- Back to an earlier place, on an image: to where the field ended, to the kept vectors, and to place 0 lead to the images there.
-- Assumes nothing.
use Rattle.std.specs.Prelude.{ℕ, ◌+◌, ◌-◌, ◌*◌, ◌≤◌, ◌≡◌, replicate, take, drop, Float, Option, Some}
use Rattle.std.proofs.Math.Path.{refl, ap}
use Rattle.std.proofs.Common.{sym, ◌∙◌, take-append-drop}
use mathlib.Core.List.{List, [], ◌∷◌, ◌++◌}
use native.Mathlib.Omega.{arith}
use Rattle.std.proofs.Math.ListN.{length, length-append, length-replicate}
use Rattle.binary64.specs.Constants.{plus_zero}
use Rattle.binary64.specs.Root.{root}
use Rattle.stretch.specs.Stretch.{part, splice, flat}
use Rattle.stretch.specs.StretchLaws.{splice_front}
use Rattle.laplace.specs.Placed.{padded}
use Rattle.conjugate.specs.Solver.{Solve, begun}
use Rattle.pde.specs.Path.{point_floats, coordinates_of}
use Rattle.model.specs.Task.{Task, vertex_count, triangle_count}
use Rattle.model.specs.Run.{State, Field, state, matrix_of, right_of, no_trail, place0, at}
use Rattle.model.specs.Sized.{Sized, Vectors}
use Rattle.model.proofs.SizeLaws.{matrix-length, right_length, begun_vectors}
use Rattle.model.specs.SolvedPlace.{solved_place}
use Rattle.work.specs.Layout.{at_x, at_norms, at_kept}
use Rattle.work.specs.Memory.{path_erased, gradients_erased, norms_erased, begun_again, vectors_put, to_solved, to_kept, to_zero}
use Rattle.image.specs.Image.{plan_of, stand_of, kept_at, kept_vectors, front_segments, floats_of, words_of, path_of}
use Rattle.image.proofs.ImageLawsPadded.{length-padded, padded-more, padded-cut, padded_erased}
use Rattle.image.proofs.ImageLawsSegments.{zeros, laid_x, laid_r, laid_p, laid_gradients, part_right, part_values, part_kept, put_x, put_r, put_p, put_product, put_vectors, put_gradients, put_norms}
use Rattle.image.proofs.ImageLawsLengths.{Shaped, Lies, shaped_at, laid, length_kept, length_norms, length_points}
use Rattle.image.proofs.ImageLawsRead.{matrix-read}
use Rattle.image.proofs.ImageLawsPass.{image_of, work_is}

module _ (c : Task) (z : Sized c) (s : State) (h : Shaped c s) (p : ℕ) (m : Option ℕ) (floats : List Float) (words : List ℕ) (path : List Float) where
  abbrev n : ℕ
  n = vertex_count c

  abbrev t : ℕ
  t = triangle_count c

  abbrev norms : List Float → List Float
  norms ns = padded (c.limit + 1) plus_zero ns

  -- the kept vectors, and what was lent beyond them
  abbrev rest : List Float
  rest = kept_vectors c m ++ floats

  lies : Lies c s.field.solve.x s.field.solve.r s.field.solve.p s.trail.gradients
  lies = laid c z s h

  no_gradients : length (zeros (2 * t)) ≡ 2 * t
  no_gradients = length-replicate (2 * t) plus_zero

  -- the path is +0 again
  path_erased_lem : (q : ℕ) (f : Field) → path_erased (stand_of q s) (path_of c s path) ≡ path_of c (state f (no_trail t)) path
  unfolding path_of coordinates_of
  path_erased_lem q f =
      let k = point_floats * s.trail.walk.points in
      let ps = coordinates_of s.trail.path in
      let long : length ps ≡ k = length_points c z s h in
      let l : length (padded (point_floats * c.room) plus_zero ps) ≡ point_floats * c.room = length-padded (point_floats * c.room) plus_zero ps (omega (arith, h.room)) in
      let e : length (zeros k) ≡ k = length-replicate k plus_zero in
      splice_front (padded (point_floats * c.room) plus_zero ps) path 0 (zeros k) (omega (arith, h.room))
      ∙ ap (λ (y : List Float). y ++ path) (padded_erased (point_floats * c.room) plus_zero ps k long (omega (arith, h.room)))

  -- ---- to where the field ended

  gradients_erased_lem : gradients_erased (plan_of c) (floats_of c s m floats) ≡ floats_of c (state s.field (no_trail t)) m floats
  unfolding floats_of
  gradients_erased_lem = put_gradients lies (norms s.field.norms ∷ rest ∷ []) (zeros (2 * t)) no_gradients

  pub to_solved_lem : to_solved (plan_of c) (image_of c s p m floats path) ≡ image_of c (state s.field (no_trail t)) (solved_place s.field) m floats path
  unfolding to_solved
  to_solved_lem = work_is gradients_erased_lem (path_erased_lem p s.field) refl

  -- ---- to place 0

  abbrev first : Solve
  first = begun (matrix_of c) (right_of c)

  first_vectors : Vectors n first
  first_vectors = begun_vectors (matrix_of c) (right_of c) n (matrix-length c) (right_length c)

  begun_again_lem : begun_again (plan_of c) (words_of c words) (floats_of c s m floats) ≡ first
  unfolding floats_of
  begun_again_lem =
      let back = norms s.field.norms ∷ rest ∷ [] in
      rw (matrix-read c z words (flat (front_segments c s ++ back)) (part_values lies back), part_right lies back)

  zero_floats : splice (norms_erased (plan_of c) (stand_of p s) 0 (gradients_erased (plan_of c) (vectors_put (plan_of c) first (floats_of c s m floats)))) (at_norms n t) (root first.rs ∷ [])
      ≡ floats_of c (place0 c) m floats
  unfolding floats_of place0
  zero_floats =
      let v : Vectors n first = first_vectors in
      let ns = s.field.norms in
      let back = norms ns ∷ rest ∷ [] in
      let lx : Lies c first.x s.field.solve.r s.field.solve.p s.trail.gradients = laid_x lies v.x in
      let lr : Lies c first.x first.r s.field.solve.p s.trail.gradients = laid_r lx v.r in
      let lp : Lies c first.x first.r first.p s.trail.gradients = laid_p lr v.p in
      let lg : Lies c first.x first.r first.p (zeros (2 * t)) = laid_gradients lp no_gradients in
      let few : length ns ≤ c.limit + 1 = h.norms in
      let e : length ns - 0 ≡ length ns = omega arith in
      let a : at_norms n t ≡ at_norms n t + 0 = omega arith in
      let l : length (norms ns) ≡ c.limit + 1 = length_norms c z s h in
      let k : length (zeros (length ns)) ≡ length ns = length-replicate (length ns) plus_zero in
      let l' : length (norms []) ≡ c.limit + 1 = length-padded (c.limit + 1) plus_zero [] (omega arith) in
      rw (
        put_x lies back first.x v.x,
        put_r lx back first.r v.r,
        put_p lr back first.p v.p,
        put_product lp back (zeros n) (length-replicate n plus_zero),
        put_gradients lp back (zeros (2 * t)) no_gradients,
        e,
        put_norms lg (norms ns) rest 0 (zeros (length ns)) (omega arith),
        padded_erased (c.limit + 1) plus_zero ns (length ns) refl few,
        a,
        put_norms lg (norms []) rest 0 (root first.rs ∷ []) (omega arith),
        padded-more (c.limit + 1) plus_zero [] (root first.rs ∷ []) 0 refl (omega arith),
      )

  pub to_zero_lem : to_zero (plan_of c) (words_of c words) (image_of c s p m floats path) ≡ image_of c (place0 c) 0 m floats path
  unfolding to_zero place0
  to_zero_lem = rw begun_again_lem (work_is zero_floats (path_erased_lem p (place0 c).field) refl)

-- ---- to the kept vectors

-- a list that begins with another
begins : (short long : List Float) → short ≡ take (length short) long → long ≡ short ++ drop (length short) long
begins short long e = sym (take-append-drop (length short) long) ∙ ap (λ (l : List Float). l ++ drop (length short) long) (sym e)

module _ (c : Task) (z : Sized c) (s : State) (h : Shaped c s) (p q : ℕ) (floats path : List Float)
    (grown : (at c q).field.norms ≡ take (length (at c q).field.norms) s.field.norms) (going : (at c q).field.end ≡ 0) where
  abbrev f : Field
  f = (at c q).field

  abbrev more : List Float
  more = drop (length f.norms) s.field.norms

  kept_floats_lem : norms_erased (plan_of c) (stand_of p s) (length f.norms) (gradients_erased (plan_of c) (splice (floats_of c s (Some q) floats) (at_x (vertex_count c) (triangle_count c))
      (part (floats_of c s (Some q) floats) (at_kept (vertex_count c) (triangle_count c) c.limit) (3 * vertex_count c))))
      ≡ floats_of c (state f (no_trail (triangle_count c))) (Some q) floats
  unfolding floats_of
  kept_floats_lem =
      let v : Vectors (vertex_count c) f.solve = (shaped_at c z q).vectors in
      let ns = s.field.norms in
      let m = c.limit + 1 in
      let rest = kept_vectors c (Some q) ++ floats in
      let back = padded m plus_zero ns ∷ rest ∷ [] in
      let l = laid c z s h in
      let lv = laid_p (laid_r (laid_x l {y = f.solve.x} v.x) {y = f.solve.r} v.r) {y = f.solve.p} v.p in
      let no = length-replicate (2 * triangle_count c) plus_zero in
      let b : ns ≡ f.norms ++ more = begins f.norms ns grown in
      let long : length ns ≡ length f.norms + length more = ap length b ∙ length-append f.norms more in
      let few : length ns ≤ m = h.norms in
      let e : length ns - length f.norms ≡ length more = omega arith in
      let w : length (padded m plus_zero ns) ≡ m = length_norms c z s h in
      let k : length (replicate (length more) plus_zero) ≡ length more = length-replicate (length more) plus_zero in
      let cut : splice (padded m plus_zero ns) (length f.norms) (replicate (length more) plus_zero) ≡ padded m plus_zero f.norms =
      ap (λ (y : List Float). splice (padded m plus_zero y) (length f.norms) (replicate (length more) plus_zero)) b
      ∙ padded-cut m plus_zero f.norms more (length f.norms) (length more) refl refl (omega arith) in
      rw (
        part_kept l (padded m plus_zero ns) (kept_vectors c (Some q)) floats c.limit w (length_kept c (Some q)),
        put_vectors l back f.solve.x f.solve.r f.solve.p v.x v.r v.p,
        put_gradients lv back (zeros (2 * triangle_count c)) no,
        e,
        put_norms (laid_gradients lv no) (padded m plus_zero ns) rest (length f.norms) (replicate (length more) plus_zero) (omega arith),
        cut,
      )

  pub to_kept_lem : to_kept (plan_of c) (kept_at c q) (image_of c s p (Some q) floats path) ≡ image_of c (state f (no_trail (triangle_count c))) q (Some q) floats path
  unfolding to_kept
  to_kept_lem = work_is kept_floats_lem (path_erased_lem c z s h p (Some q) floats [] path p f) (rw going)
