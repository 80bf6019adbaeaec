-- Laws of the kinds of pass that the proofs share. Assumes nothing.
use Rattle.std.specs.Prelude.{Option, Some, None}
use mathlib.Core.Path.{◌≡◌, refl, sym, ap, ◌∙◌}
use mathlib.Core.List.{List, [], ◌++◌}
use Prim.Native.Nat.{ℕ, ◌+◌, ◌-◌, ◌*◌, ◌≤◌, ◌<◌}
use native.Mathlib.Omega.{arith}
use borrow.Author.Tests.{eq-eqb, ne_eqb}
use lib.Dec.{eqb}
use lib.ListN.{length, replicate, take, drop, length-drop, take-append-drop}
use Rattle.std.proofs.lemmas.List.{drop-drop, take_at, length-take-le}
use lib.Ieee.{Float}
use Rattle.binary64.specs.Constants.{plus_zero}
use Rattle.plane.specs.declared.Point.{Point}
use Rattle.stretch.specs.Stretch.{part, splice}
use Rattle.stretch.specs.StretchLaws.{length_part, length-splice, part_all, part_of_take, splice_comm, splice_is, take-splice_to}
use Rattle.sparse.specs.Sparse as Sparse
use Rattle.sparse.specs.Stored.{matrix}
use Rattle.sparse.specs.ProductLaws.{length-rows_of, matrix_kept}
use Rattle.mesh.specs.Element.{flat}
use Rattle.mesh.specs.Mesh.{triangle_count}
use Rattle.mesh.specs.Work.{vertices_of, triangles_of, neighbours_of, tags_of, first_at, Linked, field_of}
use Rattle.conjugate.specs.declared.Pass.{Pass}
use Rattle.conjugate.specs.Solver.{Solve, Turn, halted, reached, moved, pass}
use Rattle.conjugate.specs.SolverLaws.{Long, after, after_long}
use Rattle.conjugate.specs.Placed.{InRow, Passed, row_of, read, stored_after, placed}
use Rattle.conjugate.specs.PlacedLaws.{Adjoin, passed_in}
use Rattle.gradient.specs.Gradient.{gradients}
use Rattle.pde.specs.declared.Walk.{Walk}
use Rattle.pde.specs.Outcome.{Crossing}
use Rattle.mesh.specs.declared.field.Field.{Field}
use Rattle.mesh.specs.Stands.{FieldStands}
use Rattle.pde.specs.StandsLaws.{triangles_count, crossing_stands}
use Rattle.pde.specs.Path.{point_floats, coordinates_of, ended, added}
use Rattle.pde.specs.PathLaws.{walked_more}
use Rattle.pde.specs.Crossing.{gradient_at, crossing, crossing_along}
use Rattle.model.specs.Space.{factor}
use Rattle.model.specs.Run.{rule, nowhere}
use Rattle.work.specs.declared.Gives.{Gives}
use Rattle.work.specs.declared.Plan.{Plan}
use Rattle.work.specs.declared.Stand.{Stand}
use Rattle.work.specs.declared.Step.{Step}
use Rattle.work.specs.Layout.{at_x, at_r, at_p, at_product, at_gradients, at_norms, matrix_at, vectors_at}
use Rattle.work.specs.Memory.{Stepped, vectors_in, solved_step, solve_step, set_out_step, walked_stand, crossed_stand, start_by, begin_step, crossing_from, crossing_of, cross_step, next_of, step_on, front_of, work, once}
use Rattle.work.specs.Ready.{Ready, Crosses, Steps, Comes}
use Rattle.work.specs.Kinds.{SetsOut, Searchable, Steppable, Leads, gradients_put, found_in, found_by, lost_by}
use Rattle.work.specs.StartedLaws.{set_out-same, start_is}
use Rattle.work.specs.StandingLaws.{turn_of, step_over}
use Rattle.work.proofs.Laws.{once_comes}
use Rattle.pde.specs.declared.Entry.{Entry}
use Rattle.kinds.specs.Found.{found_on}
use Rattle.kinds.specs.FoundLaws.{found_stands}
use Rattle.kinds.specs.Solving.{turn_behind, turned_stand, given_by}
use Rattle.kinds.specs.SolvingLaws.{solved_turned, solved_given}

-- ---- a pass of solving

-- the vectors lie behind the matrix, one right after the other
solve_row : (n t l : ℕ) → at_norms n t ≤ l → InRow l (vectors_at n t) n
solve_row n t l h = record { r_after = omega arith; p_after = omega arith; product_after = omega arith; ends = omega arith }

solve_adjoin : (n t : ℕ) → Adjoin (vectors_at n t) n
solve_adjoin n t = record { r_at = omega arith; p_at = omega arith; product_at = omega arith }

-- a pass in a slice of the vectors is one at the front of what stands behind the matrix
pub passed_behind : (n : ℕ) (behind new : List Float) (tolerance rs : Float) {k : ℕ} {tiny tolerance' : Float} {m m' : List (List Sparse.Entry)} {answer : Pass} → k ≡ n → tiny ≡ flat → tolerance' ≡ tolerance → m ≡ m' → length new ≡ 4 * n
    → Passed (take (4 * n) behind) new k (row_of k) (pass tiny m tolerance' (read (take (4 * n) behind) (row_of k) k rs)) answer
    → Passed (take (4 * n) behind) (take (4 * n) (new ++ drop (4 * n) behind)) n (row_of n) (pass flat m' tolerance (read (take (4 * n) behind) (row_of n) n rs)) answer
passed_behind n behind new tolerance rs ek ey et em long d =
    let e : take (4 * n) (new ++ drop (4 * n) behind) ≡ new = take_at new (drop (4 * n) behind) (4 * n) long in
    rw (e, ← em) (rw (ek, ey, et) at d)

-- and so one of the whole front
module _ (plan : Plan) (words : List ℕ) (f : List Float) (s : Stand) (h : Steppable plan words f s) where
  pub solve_passed : (b v v' : List Float) {k : ℕ} {answer : Pass} → k ≡ at_x plan.n plan.t → b ≡ take k f → v ≡ drop k f → length v' ≡ length v
      → Passed (take (4 * plan.n) v) (take (4 * plan.n) v') plan.n (row_of plan.n) (turn_behind plan words b (take (4 * plan.n) v) s.rs) answer → drop (4 * plan.n) v' ≡ drop (4 * plan.n) v
      → Passed f (b ++ v') plan.n (vectors_at plan.n plan.t) (turn_of plan words f s) answer
  unfolding part
  solve_passed b v v' {k} ek eb ev el d kept =
      let n : ℕ = plan.n in
      let t : ℕ = plan.t in
      let fb : b ≡ take (at_x n t) f = eb ∙ ap (λ (i : ℕ). take i f) ek in
      let fv : v ≡ drop (at_x n t) f = ev ∙ ap (λ (i : ℕ). drop i f) ek in
      let lv : length v ≡ length f - at_x n t = ap length fv ∙ length-drop (at_x n t) f in
      let fits : at_x n t + 4 * n ≤ length f = omega (arith, h.long) in
      let long : length (take (4 * n) v') ≡ 4 * n = length-take-le (4 * n) v' (omega arith) in
      let after : drop (4 * n) v ≡ drop (at_x n t + 4 * n) f = ap (drop (4 * n)) fv ∙ drop-drop (4 * n) (at_x n t) f in
      let put : b ++ v' ≡ splice f (at_x n t) (take (4 * n) v') =
      ap (λ (l : List Float). b ++ l) (sym (take-append-drop (4 * n) v')) ∙ rw (fb, kept, after) (sym (splice_is f (take (4 * n) v') (at_x n t) (4 * n) long fits)) in
      let rows : matrix words (take (at_x n t) f) (matrix_at n t) ≡ matrix words f (matrix_at n t) =
      matrix_kept words f (take (at_x n t) f) (matrix_at n t) h.ready.sound (part_of_take f (at_x n t) (4 * n) (9 * t + n) (omega arith)) in
      let same : matrix words b (matrix_at n t) ≡ matrix words f (matrix_at n t) = ap (λ (z : List Float). matrix words z (matrix_at n t)) fb ∙ rows in
      passed_in f (take (4 * n) v) n (vectors_at n t) (solve_row n t (length f) (omega (arith, h.long))) (solve_adjoin n t) (ap (take (4 * n)) fv)
      (matrix words f (matrix_at n t)) flat plan.tolerance s.rs (length-rows_of words f (matrix_at n t) n) (rw same at d) put

-- what is left of a front: the product is cleared before p is written, or after it
solved_front : (plan : Plan) (f : List Float) (s : Stand) (u : Solve) (turn : Turn) → Long plan.n (after u turn) → stored_after plan.n f (vectors_at plan.n plan.t) turn ≡ (solved_step plan s f turn).front
unfolding solved_step stored_after placed
solved_front plan f s u halted long = refl
solved_front plan f s u (reached x r norm) long = refl
solved_front plan f s u (moved v norm) long = splice_comm _ (at_p plan.n plan.t) (at_product plan.n plan.t) v.p (replicate plan.n plus_zero) (omega (arith, long.p_long))

-- the pass as it stands in a front, at the plan's places
module _ (plan : Plan) (words : List ℕ) (f : List Float) (s : Stand) (long : length f ≡ at_norms plan.n plan.t) where
  abbrev vectors : Solve
  vectors = vectors_in plan.n plan.t f s.rs

  abbrev turn : Turn
  turn = turn_of plan words f s

  vectors_long : Long plan.n vectors
  vectors_long = record { x_long = length_part f (at_x plan.n plan.t) plan.n (omega arith); r_long = length_part f (at_r plan.n plan.t) plan.n (omega arith); p_long = length_part f (at_p plan.n plan.t) plan.n (omega arith) }

  after_is_long : Long plan.n (after vectors turn)
  after_is_long = after_long plan.n flat (matrix words f (matrix_at plan.n plan.t)) plan.tolerance vectors (length-rows_of words f (matrix_at plan.n plan.t) plan.n) vectors_long

  pub solve_leads : (f' : List Float) (answer : Pass) (s' : Stand) (g : Gives) → Passed f f' plan.n (vectors_at plan.n plan.t) turn answer → s' ≡ turned_stand plan s answer → g ≡ given_by answer
      → Leads (solve_step plan words f s) (record { stand = s'; gives = g }) f'
  unfolding solve_step
  solve_leads f' answer s' g passed es eg = record {
    stand = es ∙ ap (turned_stand plan s) passed.said ∙ sym (solved_turned plan s f turn);
    gives = eg ∙ ap given_by passed.said ∙ sym (solved_given plan s f turn);
    front = passed.left ∙ solved_front plan f s vectors turn after_is_long;
  }

-- ---- the field and the gradients in a front

whole : (l : List Float) (n : ℕ) → length l ≤ n → take n l ≡ l
unfolding part
whole l n h = part_all l n h

module _ (plan : Plan) (words : List ℕ) (f : List Float) (h : Searchable plan words f) where
  -- what stands from the gradients on
  front_gradients : (at : ℕ) → at ≡ at_gradients plan.n plan.t → take (length f - at) (drop at f) ≡ part f (at_gradients plan.n plan.t) (2 * plan.t)
  unfolding part
  front_gradients at e = let k : length f - at ≡ 2 * plan.t = omega (arith, h.long) in rw (k, e)

  -- the front with the gradients of its field behind what stands before them
  pub gradients_put_lem : {b g : List Float} {at u : ℕ} {d : Field} → at ≡ at_gradients plan.n plan.t → u ≡ at_x plan.n plan.t → b ≡ take at f → FieldStands b words (first_at plan.n plan.t) u d
      → g ≡ gradients flat d.mesh.vertices.now d.values.now d.mesh.triangles.now → length g ≡ 2 * plan.t → b ++ g ≡ gradients_put plan words f
  unfolding vertices_of triangles_of field_of
  gradients_put_lem {b} {g} {at} {u} {d} ea eu eb st eg el =
      let n : ℕ = plan.n in
      let t : ℕ = plan.t in
      let k : ℕ = at_gradients n t in
      let fb : b ≡ take k f = eb ∙ ap (λ (i : ℕ). take i f) ea in
      let vs : d.mesh.vertices.now ≡ part f 0 (2 * n) = st.mesh.vertices ∙ ap (λ (z : List Float). part z 0 (2 * n)) fb ∙ part_of_take f k 0 (2 * n) (omega arith) in
      let us : d.values.now ≡ part f (at_x n t) n = st.values ∙ ap (λ (i : ℕ). part b i n) eu ∙ ap (λ (z : List Float). part z (at_x n t) n) fb ∙ part_of_take f k (at_x n t) n (omega arith) in
      let gs : g ≡ gradients flat (part f 0 (2 * n)) (part f (at_x n t) n) (part words 0 (3 * t)) = eg ∙ cc (vs, us, st.mesh.triangles) in
      let l : length (splice f k g) ≤ k + 2 * t = omega (arith, length-splice f k g, h.long) in
      ap (λ (z : List Float). z ++ g) fb
      ∙ sym (take-splice_to f k g (2 * t) el (omega (arith, h.long)))
      ∙ whole (splice f k g) (k + 2 * t) l
      ∙ ap (splice f k) gs

-- ---- the start pass

module _ (plan : Plan) (words : List ℕ) (f : List Float) (linked : Linked words (first_at plan.n plan.t)) where
  -- the start in a front
  found_front : (g : Option Point) → found_in f words (first_at plan.n plan.t) (at_x plan.n plan.t) g ≡ found_by plan words f g
  unfolding vertices_of triangles_of neighbours_of tags_of field_of
  found_front (Some p) = refl
  found_front None = refl

  found_is : (u : ℕ) (d : Field) (g : Option Point) → u ≡ at_x plan.n plan.t → FieldStands f words (first_at plan.n plan.t) u d → found_on d g ≡ found_by plan words f g
  found_is u d g eu st = found_stands u linked st g ∙ ap (λ (i : ℕ). found_in f words (first_at plan.n plan.t) i g) eu ∙ found_front g

  pub start_sets_out : (s : Stand) {u : ℕ} {v : Field} {found : Option Entry} {d : Step} → u ≡ at_x plan.n plan.t → FieldStands f words (first_at plan.n plan.t) u v → found ≡ found_on v plan.start
      → SetsOut (set_out_step s [] (lost_by plan.start) found) d → SetsOut (start_by plan words f s plan.start) d
  start_sets_out s {u} {v} {found} {d} eu st ef o =
      let k : ℕ = lost_by plan.start in
      let same = set_out-same s [] (gradients_put plan words f) k found in
      let i : set_out_step s (gradients_put plan words f) k found ≡ start_by plan words f s plan.start =
      ap (set_out_step s (gradients_put plan words f) k) (ef ∙ found_is u v plan.start eu st) ∙ sym (start_is plan words f s plan.start) in
      record { stand = o.stand ∙ same.0 ∙ ap (λ (x : Stepped). x.stand) i; gives = o.gives ∙ same.1 ∙ ap (λ (x : Stepped). x.gives) i }

module _ (s : Stand) (given : Option Point) (found : Option Entry) (s' : Stand) where
  pub start_lost : (e : ℕ) (w : Walk) → found ≡ None → e ≡ lost_by given → w ≡ ended nowhere e → s' ≡ walked_stand s w 0
      → SetsOut (set_out_step s [] (lost_by given) found) (record { stand = s'; gives = Gives.Nothing })
  unfolding set_out_step
  start_lost e w en ee ew es = rw en (record { stand = es ∙ ap (λ (x : Walk). walked_stand s x 0) (ew ∙ ap (ended nowhere) ee); gives = refl })

  pub start_found : (at : Entry) → found ≡ Some at → s' ≡ walked_stand s (record { position = at.point; triangle = at.triangle; edge = at.edge; points = 1; end = 0 }) 0
      → SetsOut (set_out_step s [] (lost_by given) found) (record { stand = s'; gives = Gives.First at.point })
  unfolding set_out_step
  start_found at ea es = rw ea (record { stand = es; gives = refl })

set_out-front : (s : Stand) (f : List Float) (k : ℕ) (st : Option Entry) → (set_out_step s f k st).front ≡ f
unfolding set_out_step
set_out-front s f k (Some at) = refl
set_out-front s f k None = refl

pub begin_leads : (plan : Plan) (words : List ℕ) (f : List Float) (s : Stand) (d : Step) (f' : List Float) → SetsOut (start_by plan words f s plan.start) d → f' ≡ gradients_put plan words f
    → Leads (begin_step plan words f s) d f'
unfolding begin_step
begin_leads plan words f s d f' o e = record {
  stand = o.stand;
  gives = o.gives;
  front = e ∙ sym (ap (λ (x : Stepped). x.front) (start_is plan words f s plan.start) ∙ set_out-front s (gradients_put plan words f) (lost_by plan.start) (found_by plan words f plan.start));
}

-- ---- a crossing

-- a triangle of the plan is one of the mesh
pub triangle_in_mesh : (plan : Plan) {words : List ℕ} {f : List Float} {u : ℕ} {d : Field} (k : ℕ) → Ready plan words → FieldStands f words (first_at plan.n plan.t) u d → k < plan.t → k < triangle_count d.mesh.triangles.now
triangle_in_mesh plan k r st h = let e = triangles_count r.linked st.mesh in omega (arith, e, h)

-- a crossing from any entry, by the gradient that stands in the front
pub crossing_from_is : (plan : Plan) (words : List ℕ) (f : List Float) (h : Searchable plan words f) (p : Point) (k e : ℕ) {at u : ℕ} {d : Field} {g : Point} {r : Crossing} → at ≡ at_gradients plan.n plan.t → u ≡ at_x plan.n plan.t → FieldStands f words (first_at plan.n plan.t) u d
    → g ≡ gradient_at (take (length f - at) (drop at f)) k
    → r ≡ crossing_along rule d.mesh.vertices.now d.mesh.triangles.now d.mesh.neighbours.now (triangle_count d.mesh.triangles.now) d.values.now g plan.step p k e
    → r ≡ crossing_from plan words f p k e
unfolding vertices_of triangles_of neighbours_of field_of crossing
crossing_from_is plan words f h p k e {at} {u} {d} {g} {r} ea eu st eg is =
    let i = is ∙ crossing_stands u h.ready.linked st rule plan.step g p k e in
    rw (eg, front_gradients plan words f h at ea, eu) at i

-- the crossing of the path's triangle
pub crossing_is : (plan : Plan) (words : List ℕ) (f : List Float) (h : Searchable plan words f) (s : Stand) {at u : ℕ} {d : Field} {g : Point} {r : Crossing} → at ≡ at_gradients plan.n plan.t → u ≡ at_x plan.n plan.t → FieldStands f words (first_at plan.n plan.t) u d
    → g ≡ gradient_at (take (length f - at) (drop at f)) s.walk.triangle
    → r ≡ crossing_along rule d.mesh.vertices.now d.mesh.triangles.now d.mesh.neighbours.now (triangle_count d.mesh.triangles.now) d.values.now g plan.step s.walk.position s.walk.triangle s.walk.edge
    → r ≡ crossing_of plan words f s
crossing_is plan words f h s = crossing_from_is plan words f h s.walk.position s.walk.triangle s.walk.edge

pub cross_leads : (plan : Plan) (words : List ℕ) (f : List Float) (s : Stand) (c : Crossing) (s' : Stand) → c ≡ crossing_of plan words f s → s' ≡ crossed_stand plan s c
    → Leads (cross_step plan words f s) (record { stand = s'; gives = Gives.Crossed c }) f
unfolding cross_step
cross_leads plan words f s c s' ec es = record { stand = es ∙ ap (crossed_stand plan s) ec; gives = ap Gives.Crossed ec; front = refl }

-- ---- any pass

module _ (plan : Plan) (words : List ℕ) (f : List Float) (s : Stand) where
  pub steps_over : (s.walk.end ≡ 0 → ⊥) → Steps plan words f s (record { stand = s; gives = Gives.Nothing }) f
  steps_over n =
      let e = sym (step_over plan words f s n) in
      record { stand = ap (λ (d : Stepped). d.stand) e; gives = ap (λ (d : Stepped). d.gives) e; front = ap (λ (d : Stepped). d.front) e }

  module _ (r : Step) (f' : List Float) where
    leads_steps : (d : Stepped) → d ≡ step_on plan words f s → Leads d r f' → Steps plan words f s r f'
    leads_steps d e l = record {
      stand = l.stand ∙ ap (λ (x : Stepped). x.stand) e;
      gives = l.gives ∙ ap (λ (x : Stepped). x.gives) e;
      front = l.front ∙ ap (λ (x : Stepped). x.front) e;
    }

    pub steps_solve : s.walk.end ≡ 0 → s.end ≡ 0 → Leads (solve_step plan words f s) r f' → Steps plan words f s r f'
    unfolding step_on next_of
    steps_solve e z l = leads_steps (solve_step plan words f s) (rw (eq-eqb s.walk.end 0 e, eq-eqb s.end 0 z)) l

    pub steps_begin : s.walk.end ≡ 0 → (s.end ≡ 0 → ⊥) → s.walk.points ≡ 0 → Leads (begin_step plan words f s) r f' → Steps plan words f s r f'
    unfolding step_on next_of
    steps_begin e z k l = leads_steps (begin_step plan words f s) (rw (eq-eqb s.walk.end 0 e, ne_eqb s.end 0 z, eq-eqb s.walk.points 0 k)) l

    pub steps_cross : s.walk.end ≡ 0 → (s.end ≡ 0 → ⊥) → (s.walk.points ≡ 0 → ⊥) → Leads (cross_step plan words f s) r f' → Steps plan words f s r f'
    unfolding step_on next_of
    steps_cross e z k l = leads_steps (cross_step plan words f s) (rw (eq-eqb s.walk.end 0 e, ne_eqb s.end 0 z, ne_eqb s.walk.points 0 k)) l

-- ---- a crossing on the whole buffers

-- behind a crossing the field has its end and the path has points
pub crossed_walks : (plan : Plan) (words : List ℕ) (s s' : Stand) (m p m' p' : List Float) → Crosses s → Comes (once plan words (work m p s)) s' m' p' → (s'.end ≡ 0 → ⊥) × (s'.walk.points ≡ 0 → ⊥)
unfolding once step_on next_of cross_step
crossed_walks plan words s s' m p m' p' x c =
    let e : s' ≡ crossed_stand plan s (crossing_of plan words (front_of plan m) s) =
    c.stand ∙ rw (eq-eqb s.walk.end 0 x.unended, ne_eqb s.end 0 x.solved, ne_eqb s.walk.points 0 x.some) in
    let k = walked_more plan.room (eqb (s.crossings + 1) (factor * plan.t)) s.walk (crossing_of plan words (front_of plan m) s) in
    rw e (x.solved, λ z. x.some (omega (arith, k, z)))

pub cross_comes : (plan : Plan) (words : List ℕ) (s : Stand) (m p p' : List Float) (c : Crossing) (s' : Stand) (k : ℕ) → k ≡ at_norms plan.n plan.t → Crosses s
    → c ≡ crossing_of plan words (take k m) s → p' ≡ splice p (point_floats * s.walk.points) (coordinates_of (added plan.room s.walk c)) → s' ≡ crossed_stand plan s c → Comes (once plan words (work m p s)) s' m p'
cross_comes plan words s m p p' c s' k e x ec ep es =
    once_comes plan words s m p (take k m) m p' (record { stand = s'; gives = Gives.Crossed c }) k e
    (steps_cross plan words (take k m) s _ (take k m) x.unended x.solved x.some (cross_leads plan words (take k m) s c s' ec es))
    (sym (take-append-drop k m), ep)
