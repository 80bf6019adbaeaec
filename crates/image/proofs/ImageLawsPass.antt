-- A pass on the image of a state leaves the image of the state after a pass of the uninterrupted run: a pass of solving, the start pass, a crossing; and none where the path has its end.
-- Assumes nothing.
use Rattle.std.specs.Prelude.{ℕ, suc, ◌+◌, ◌*◌, ◌≤◌, ◌≡◌, Bool, eqb, Float, Option, Some, None}
use Rattle.std.proofs.Math.Path.{refl, sym, ap}
use Rattle.std.proofs.Common.{◌∙◌, add-one, arith, length-append, take-append-drop, eqb-true}
use Rattle.std.proofs.Math.Bool.{true, false}
use Rattle.std.proofs.lemmas.Bool.{false≢true, not-false}
use mathlib.Core.List.{List, [], ◌∷◌, ◌++◌}
use Rattle.std.proofs.Math.ListN.{length}
use Rattle.binary64.specs.Constants.{plus_zero}
use Rattle.plane.specs.declared.Point.{Point}
use Rattle.stretch.specs.Stretch.{splice, flat}
use Rattle.stretch.specs.StretchLaws.{splice_front}
use Rattle.mesh.specs.Element as element
use Rattle.laplace.specs.Placed.{padded}
use Rattle.conjugate.specs.Solver as Solver
use Rattle.conjugate.specs.Solver.{Turn, halted, reached, moved}
use Rattle.gradient.specs.Gradient.{gradients}
use Rattle.pde.specs.Outcome.{Crossing}
use Rattle.pde.specs.Start.{triangle_containing, pick_start}
use Rattle.pde.specs.Crossing.{crossing}
use Rattle.pde.specs.Path.{point_floats, coordinates_of, walked, added}
use Rattle.pde.specs.PathLaws.{length_coordinates, coordinates_append}
use Rattle.model.specs.Task.{Task, vertex_count, triangle_count}
use Rattle.model.specs.Space.{factor}
use Rattle.model.specs.Run.{State, state, rule, matrix_of, solved, solving, set_out, start_from, starting, crossed, crossing_pass, next_by, pass_by, pass, at, finished}
use Rattle.model.specs.Run.{next_of as next_in}
use Rattle.model.specs.Sized.{Sized, Vectors}
use Rattle.model.proofs.SizeLaws.{gradients-length}
use Rattle.work.specs.declared.Plan.{Plan}
use Rattle.work.specs.declared.Stand.{Stand}
use Rattle.work.specs.declared.Gives.{Gives}
use Rattle.work.specs.Layout.{at_norms}
use Rattle.work.specs.Memory.{Stepped, solved_stand, solved_step, set_out_step, solve_step, start_by, begin_step, cross_step, step_by, next_of, step_on, Work, work, floats_given, path_given, front_of, beyond_front, once}
use Rattle.image.specs.Image.{plan_of, stand_of, kept_vectors, front_segments, floats_of, words_of, path_of}
use Rattle.image.proofs.ImageLawsPadded.{length-padded, padded-more}
use Rattle.image.proofs.ImageLawsSegments.{laid_x, laid_r, laid_p, laid_gradients, front_segs, beyond_segs, joined_segs, part_vertices, part_values, part_x, part_r, part_p, part_gradients, put_gradients}
use Rattle.image.proofs.ImageLawsLengths.{Shaped, fronts, Lies, shaped_at, laid}
use Rattle.image.proofs.ImageLawsRead.{words_triangles, words_neighbours, words_tags, matrix-read}
use Rattle.image.proofs.ImageLawsStep.{clear_segs, reached_segs, moved_segs, norm_segs}
use Rattle.pde.specs.declared.Entry.{Entry}

-- the buffers and the scalars of a state, at place p and with a mark
abbrev pub image_of : Task → State → ℕ → Option ℕ → List Float → List Float → Work
image_of c s p m floats path = work (floats_of c s m floats) (path_of c s path) (stand_of p s)

-- those of the state at place p
abbrev pub image_work : Task → ℕ → Option ℕ → List Float → List Float → Work
image_work c p m floats path = image_of c (at c p) p m floats path

pub work_is : {f f' p p' : List Float} {s s' : Stand} → f ≡ f' → p ≡ p' → s ≡ s' → work f p s ≡ work f' p' s'
work_is {f} {f'} {p} {p'} {s} a b e = ap (λ (x : List Float). work x p s) a ∙ ap (λ (x : List Float). work f' x s) b ∙ ap (λ (x : Stand). work f' p' x) e

-- what a step comes to in the whole buffers
abbrev written : Plan → Work → Stepped → Work
written plan w d = work (floats_given plan w.stand d.gives (d.front ++ beyond_front plan w.floats)) (path_given plan w.stand d.gives w.path) d.stand

once-written : (plan : Plan) (words : List ℕ) (w : Work) → once plan words w ≡ written plan w (step_on plan words (front_of plan w.floats) w.stand)
unfolding once
once-written plan words w = refl

-- ---- a pass where the path has its end, whatever the buffers hold

pub once-over : (plan : Plan) (words : List ℕ) (w : Work) → eqb w.stand.walk.end 0 ≡ false → once plan words w ≡ w
unfolding once step_on next_of
once-over plan words w e = rw e (ap (λ (x : List Float). work x w.path w.stand) (take-append-drop (at_norms plan.n plan.t) w.floats))

module _ (c : Task) (z : Sized c) (s : State) (h : Shaped c s) (p : ℕ) (m : Option ℕ) (floats : List Float) (words : List ℕ) (path : List Float) where
  abbrev n : ℕ
  n = vertex_count c

  abbrev t : ℕ
  t = triangle_count c

  abbrev plan : Plan
  plan = plan_of c

  abbrev W : List ℕ
  W = words_of c words

  abbrev F : List Float
  F = flat (front_segments c s)

  -- the kept vectors, and what was lent beyond them
  abbrev rest : List Float
  rest = kept_vectors c m ++ floats

  abbrev back : List (List Float)
  back = padded (c.limit + 1) plus_zero s.field.norms ∷ rest ∷ []

  abbrev here : Work
  here = image_of c s p m floats path

  lies : Lies c s.field.solve.x s.field.solve.r s.field.solve.p s.trail.gradients
  lies = laid c z s h

  front_is : front_of plan (floats_of c s m floats) ≡ F
  unfolding floats_of
  front_is = front_segs lies back

  beyond_is : beyond_front plan (floats_of c s m floats) ≡ flat back
  unfolding floats_of
  beyond_is = beyond_segs lies back

  -- a step that gives no norm
  plain : {x r q g : List Float} → Lies c x r q g → (f : List Float) → f ≡ flat (fronts c x r q g []) → f ++ beyond_front plan (floats_of c s m floats) ≡ flat (fronts c x r q g back)
  plain {x} {r} {q} {g} l f e =
      ap (λ (y : List Float). y ++ beyond_front plan (floats_of c s m floats)) e ∙ ap (λ (y : List Float). flat (fronts c x r q g []) ++ y) beyond_is ∙ joined_segs l back

  -- a step that gives one
  normed : {x r q g : List Float} → Lies c x r q g → (f : List Float) (v : Float) → f ≡ flat (fronts c x r q g []) → length s.field.norms + 1 ≤ c.limit + 1
      → splice (f ++ beyond_front plan (floats_of c s m floats)) (at_norms n t + length s.field.norms) (v ∷ [])
      ≡ flat (fronts c x r q g (padded (c.limit + 1) plus_zero (s.field.norms ++ (v ∷ [])) ∷ rest ∷ []))
  normed {x} {r} {q} {g} l f v e k =
      ap (λ (y : List Float). splice (y ++ beyond_front plan (floats_of c s m floats)) (at_norms n t + length s.field.norms) (v ∷ [])) e
      ∙ ap (λ (y : List Float). splice (flat (fronts c x r q g []) ++ y) (at_norms n t + length s.field.norms) (v ∷ [])) beyond_is
      ∙ norm_segs l (c.limit + 1) s.field.norms rest v k

  -- ---- a pass of solving

  solved_stand_lem : (rs : Float) (k k' e : ℕ) → k ≡ k'
      → solved_stand (stand_of p s) rs k e ≡ record { place = suc p; rs = rs; norms = k'; end = e; walk = s.trail.walk; crossings = s.trail.crossings }
  solved_stand_lem rs k k' e q = rw (q, add-one p)

  solved-image : (u : Turn) → Shaped c (state (solved c.limit s.field u) s.trail)
      → written plan here (solved_step plan (stand_of p s) F u) ≡ image_of c (state (solved c.limit s.field u) s.trail) (suc p) m floats path
  unfolding solved_step solved floats_of path_of
  solved-image halted h' = work_is (plain lies _ (clear_segs lies [])) refl (solved_stand_lem _ _ _ _ refl)
  solved-image (reached x r norm) h' =
      let long : length s.field.norms + 1 ≡ length (s.field.norms ++ (norm ∷ [])) = sym (length-append s.field.norms (norm ∷ [])) in
      let fits : length (s.field.norms ++ (norm ∷ [])) ≤ c.limit + 1 = h'.norms in
      let ex : length x ≡ n = h'.vectors.x in
      let er : length r ≡ n = h'.vectors.r in
      work_is (normed (laid_r (laid_x lies ex) er) _ norm (reached_segs lies [] x r ex er) (omega arith)) refl (solved_stand_lem _ _ _ _ long)
  solved-image (moved next norm) h' =
      let long : length s.field.norms + 1 ≡ length (s.field.norms ++ (norm ∷ [])) = sym (length-append s.field.norms (norm ∷ [])) in
      let fits : length (s.field.norms ++ (norm ∷ [])) ≤ c.limit + 1 = h'.norms in
      let v : Vectors n next = h'.vectors in
      work_is (normed (laid_p (laid_r (laid_x lies v.x) v.r) v.p) _ norm (moved_segs lies [] next.x next.r next.p v.x v.r v.p) (omega arith))
      refl (solved_stand_lem _ _ _ _ long)

  solve_step_lem : solve_step plan W F (stand_of p s) ≡ solved_step plan (stand_of p s) F (Solver.pass element.flat (matrix_of c) c.tolerance s.field.solve)
  unfolding solve_step
  solve_step_lem = rw (matrix-read c z words F (part_values lies []), part_x lies [], part_r lies [], part_p lies [])

  solve_image : Shaped c (state (solving c s.field) s.trail) → written plan here (solve_step plan W F (stand_of p s)) ≡ image_of c (state (solving c s.field) s.trail) (suc p) m floats path
  unfolding solving
  solve_image h' = ap (λ (d : Stepped). written plan here d) solve_step_lem ∙ solved-image (Solver.pass element.flat (matrix_of c) c.tolerance s.field.solve) h'

  -- ---- the path

  -- points behind the points
  abbrev filled : List Point → List Float
  filled ps = padded (point_floats * c.room) plus_zero (coordinates_of ps)

  path_more : (new : List Point) (at : ℕ) → point_floats * length s.trail.path ≡ at → length (s.trail.path ++ new) ≤ c.room
      → splice (filled s.trail.path ++ path) at (coordinates_of new) ≡ filled (s.trail.path ++ new) ++ path
  path_more new at e k =
      let a : length (s.trail.path ++ new) ≡ length s.trail.path + length new = length-append s.trail.path new in
      let f : length (coordinates_of s.trail.path) ≡ point_floats * length s.trail.path = length_coordinates s.trail.path in
      let g : length (coordinates_of new) ≡ point_floats * length new = length_coordinates new in
      let l : length (filled s.trail.path) ≡ point_floats * c.room = length-padded (point_floats * c.room) plus_zero (coordinates_of s.trail.path) (omega arith) in
      splice_front (filled s.trail.path) path at (coordinates_of new) (omega arith)
      ∙ ap (λ (y : List Float). y ++ path) (padded-more (point_floats * c.room) plus_zero (coordinates_of s.trail.path) (coordinates_of new) at (f ∙ e) (omega arith))
      ∙ ap (λ (y : List Float). padded (point_floats * c.room) plus_zero y ++ path) (sym (coordinates_append s.trail.path new))

  -- ---- the start pass

  nothing : (l : List Point) → length l ≡ 0 → l ≡ []
  nothing [] e = refl
  nothing (y ∷ ys) e = absurd (omega arith)

  abbrev gs : List Float
  gs = gradients element.flat c.vertices s.field.solve.x c.triangles

  gs_long : length gs ≡ 2 * t
  gs_long = gradients-length c.vertices s.field.solve.x c.triangles

  abbrev G : List Float
  G = flat (fronts c s.field.solve.x s.field.solve.r s.field.solve.p gs [])

  set-image : (otherwise : ℕ) (st : Option Entry) → s.trail.path ≡ [] → Shaped c (state s.field (set_out st otherwise gs))
      → written plan here (set_out_step (stand_of p s) G otherwise st) ≡ image_of c (state s.field (set_out st otherwise gs)) (suc p) m floats path
  unfolding set_out_step floats_of path_of
  set-image otherwise (Some at) k h' =
      let fits : 1 ≤ c.room = z.room in
      let more : splice (filled s.trail.path ++ path) 0 (coordinates_of (at.point ∷ [])) ≡ filled (s.trail.path ++ (at.point ∷ [])) ++ path = path_more (at.point ∷ []) 0 (ap (λ (l : List Point). point_floats * length l) k) (rw k fits) in
      work_is (plain (laid_gradients lies gs_long) G refl) (more ∙ ap (λ (y : List Point). filled (y ++ (at.point ∷ [])) ++ path) k) (rw (add-one p))
  set-image otherwise None k h' =
      work_is (plain (laid_gradients lies gs_long) G refl) (ap (λ (y : List Point). filled y ++ path) k) (rw (add-one p))

  start-image : (g : Option Point) → s.trail.path ≡ [] → Shaped c (state s.field (start_from g c s.field.solve.x gs))
      → written plan here (start_by plan W F (stand_of p s) g) ≡ image_of c (state s.field (start_from g c s.field.solve.x gs)) (suc p) m floats path
  unfolding start_from
  start-image (Some q) k h' =
      rw (part_vertices lies [], part_x lies [], words_triangles c z words, put_gradients lies [] gs gs_long)
      (set-image 8 (triangle_containing c.vertices c.triangles t q) k h')
  start-image None k h' =
      rw (part_vertices lies [], part_x lies [], words_triangles c z words, words_neighbours c z words, words_tags c z words, put_gradients lies [] gs gs_long)
      (set-image 9 (pick_start c.vertices c.triangles c.neighbours c.tags t s.field.solve.x) k h')

  begin_image : s.trail.walk.points ≡ 0 → Shaped c (state s.field (starting c s.field.solve.x))
      → written plan here (begin_step plan W F (stand_of p s)) ≡ image_of c (state s.field (starting c s.field.solve.x)) (suc p) m floats path
  unfolding begin_step starting
  begin_image e h' = start-image c.start (nothing s.trail.path (omega (arith, h.path))) h'

  -- ---- a crossing

  crossed-image : (x : Crossing) → Shaped c (state s.field (crossed c.room (factor * t) s.trail x))
      → written plan here (record {
        front = F;
        stand = record { place = p + 1; rs = s.field.solve.rs; norms = length s.field.norms; end = s.field.end; walk = walked c.room (eqb (s.trail.crossings + 1) (factor * t)) s.trail.walk x; crossings = s.trail.crossings + 1 };
        gives = Gives.Crossed x;
      }) ≡ image_of c (state s.field (crossed c.room (factor * t) s.trail x)) (suc p) m floats path
  unfolding crossed floats_of path_of
  crossed-image x h' =
      let new = added c.room s.trail.walk x in
      let long : length (s.trail.path ++ new) ≤ c.room = omega (arith, h'.path, h'.room) in
      work_is (plain lies F refl) (path_more new (point_floats * s.trail.walk.points) (ap (λ (k : ℕ). point_floats * k) h.path) long) (rw (add-one p))

  cross_image : Shaped c (state s.field (crossing_pass c s.field.solve.x s.trail))
      → written plan here (cross_step plan W F (stand_of p s)) ≡ image_of c (state s.field (crossing_pass c s.field.solve.x s.trail)) (suc p) m floats path
  unfolding cross_step crossing_pass
  cross_image h' =
      rw (part_vertices lies [], part_x lies [], part_gradients lies [], words_triangles c z words, words_neighbours c z words)
      (crossed-image (crossing rule c.vertices c.triangles c.neighbours t s.field.solve.x s.trail.gradients c.step s.trail.walk.position s.trail.walk.triangle s.trail.walk.edge) h')

  -- ---- any pass

  pass-image : (e f g : Bool) → e ≡ true → (g ≡ true → s.trail.walk.points ≡ 0) → Shaped c (pass_by (next_by e f g) c s)
      → written plan here (step_by plan W F (stand_of p s) (next_by e f g)) ≡ image_of c (pass_by (next_by e f g) c s) (suc p) m floats path
  unfolding pass_by
  pass-image false f g y k h' = absurd (false≢true y)
  pass-image true true g y k h' = solve_image h'
  pass-image true false true y k h' = begin_image (k refl) h'
  pass-image true false false y k h' = cross_image h'

  pub once-state : finished s ≡ false → Shaped c (pass c s) → once plan W here ≡ image_of c (pass c s) (suc p) m floats path
  unfolding step_on next_of pass next_in
  once-state y h' =
      once-written plan W here ∙ ap (λ (f : List Float). written plan here (step_on plan W f (stand_of p s))) front_is
      ∙ pass-image (eqb s.trail.walk.end 0) (eqb s.field.end 0) (eqb s.trail.walk.points 0) (not-false (eqb s.trail.walk.end 0) y) (eqb-true s.trail.walk.points 0) h'

-- ---- at a place

pub at_next : (c : Task) (p : ℕ) → at c (suc p) ≡ pass c (at c p)
unfolding at
at_next c p = refl

pub once-image : (c : Task) → Sized c → (p : ℕ) (m : Option ℕ) (floats : List Float) (words : List ℕ) (path : List Float) → finished (at c p) ≡ false
    → once (plan_of c) (words_of c words) (image_work c p m floats path) ≡ image_work c (suc p) m floats path
once-image c z p m floats words path y =
    let e : at c (suc p) ≡ pass c (at c p) = at_next c p in
    let h : Shaped c (pass c (at c p)) = rw e at (shaped_at c z (suc p)) in
    once-state c z (at c p) (shaped_at c z p) p m floats words path y h ∙ ap (λ (s : State). image_of c s (suc p) m floats path) (sym e)
