-- Laws of one pass: which one it is, and what each kind does to the counts, the ends and the triangle walked in. Assumes nothing.
use Rattle.std.specs.Prelude.{ℕ, ◌+◌, ◌-◌, ◌*◌, ◌≤◌, ◌<◌, ◌≡◌, refl, ◌≢◌, Bool, true, false, not, List, [], ◌∷◌, ◌++◌, Ok, Err, eqb, leb, ltb, length, Float, Option, Some, None}
use Rattle.std.proofs.Common.{arith, le_refl, sym, ap, append-nil, length-append, eqb-true, leb-false, ltb-false}
use Rattle.std.proofs.lemmas.Bool.{eqb-false, not-true, not-false}
use Rattle.binary64.specs.Number.{pick}
use Rattle.plane.specs.declared.Point.{Point}
use Rattle.mesh.specs.Element.{flat}
use Rattle.conjugate.specs.Solver as Solver
use Rattle.conjugate.specs.Solver.{Turn, halted, reached, moved}
use Rattle.gradient.specs.Gradient.{gradients}
use Rattle.pde.specs.Bounds.{StartIn, containing_in, pick_start_in}
use Rattle.pde.specs.declared.Walk.{Walk}
use Rattle.pde.specs.declared.Barrier.{Barrier}
use Rattle.pde.specs.declared.Halt.{Halt}
use Rattle.pde.specs.declared.Leaving.{Leaving}
use Rattle.pde.specs.Outcome.{Beyond, Crossing}
use Rattle.pde.specs.Start.{triangle_containing, pick_start, entry}
use Rattle.pde.specs.Crossing.{crossing}
use Rattle.pde.specs.PathLaws.{gone_points}
use Rattle.pde.specs.Path.{closes, ended, gone, adds, walked}
use Rattle.model.specs.Task.{Task, triangle_count}
use Rattle.model.specs.Space.{factor}
use Rattle.model.specs.Run.{State, Field, Trail, state, rule, matrix_of, solved, solving, set_out, start_from, starting, crossed, crossing_pass, next_by, next_of, pass_by, pass, finished}
use Rattle.model.specs.SolvedPlace.{solved_place}
use Rattle.pde.specs.declared.Entry.{Entry}

-- ---- which pass is next

-- whether the path has an end, as a number
pub finished-end : (s : State) → finished s ≡ true → s.trail.walk.end ≢ 0
finished-end s h = eqb-false s.trail.walk.end 0 (not-true (eqb s.trail.walk.end 0) h)

pub unfinished_end : (s : State) → finished s ≡ false → s.trail.walk.end ≡ 0
unfinished_end s h = eqb-true s.trail.walk.end 0 (not-false (eqb s.trail.walk.end 0) h)

-- what holds after a pass, by the four kinds of pass
pub pass_elim : (P : State → Type 0) (c : Task) (s : State)
    → (finished s ≡ true → P s)
    → (s.trail.walk.end ≡ 0 → s.field.end ≡ 0 → P (state (solving c s.field) s.trail))
    → (s.trail.walk.end ≡ 0 → s.field.end ≢ 0 → s.trail.walk.points ≡ 0 → P (state s.field (starting c s.field.solve.x)))
    → (s.trail.walk.end ≡ 0 → s.field.end ≢ 0 → s.trail.walk.points ≢ 0 → P (state s.field (crossing_pass c s.field.solve.x s.trail)))
    → P (pass c s)
unfolding pass next_of pass_by
pass_elim P c s over solve begin cross = go (eqb s.trail.walk.end 0) (eqb s.field.end 0) (eqb s.trail.walk.points 0) refl refl refl
  where
    go : (e f z : Bool) → eqb s.trail.walk.end 0 ≡ e → eqb s.field.end 0 ≡ f → eqb s.trail.walk.points 0 ≡ z → P (pass_by (next_by e f z) c s)
    go false f z p q r = over (ap not p)
    go true true z p q r = solve (eqb-true _ _ p) (eqb-true _ _ q)
    go true false true p q r = begin (eqb-true _ _ p) (eqb-false _ _ q) (eqb-true _ _ r)
    go true false false p q r = cross (eqb-true _ _ p) (eqb-false _ _ q) (eqb-false _ _ r)

pub pass-over : (c : Task) (s : State) → finished s ≡ true → pass c s ≡ s
unfolding pass next_of pass_by
pass-over c s h = let e : eqb s.trail.walk.end 0 ≡ false = not-true (eqb s.trail.walk.end 0) h in rw e

pub pass_solve : (c : Task) (s : State) → s.trail.walk.end ≡ 0 → s.field.end ≡ 0 → pass c s ≡ state (solving c s.field) s.trail
pass_solve c s e f =
    pass_elim (λ (t : State). t ≡ state (solving c s.field) s.trail) c s
    (λ (h : finished s ≡ true). absurd (finished-end s h e))
    (λ (h : s.trail.walk.end ≡ 0) (k : s.field.end ≡ 0). refl)
    (λ (h : s.trail.walk.end ≡ 0) (k : s.field.end ≢ 0) (z : s.trail.walk.points ≡ 0). absurd (k f))
    (λ (h : s.trail.walk.end ≡ 0) (k : s.field.end ≢ 0) (z : s.trail.walk.points ≢ 0). absurd (k f))

pub pass_begin : (c : Task) (s : State) → s.trail.walk.end ≡ 0 → s.field.end ≢ 0 → s.trail.walk.points ≡ 0
    → pass c s ≡ state s.field (starting c s.field.solve.x)
pass_begin c s e f n =
    pass_elim (λ (t : State). t ≡ state s.field (starting c s.field.solve.x)) c s
    (λ (h : finished s ≡ true). absurd (finished-end s h e))
    (λ (h : s.trail.walk.end ≡ 0) (k : s.field.end ≡ 0). absurd (f k))
    (λ (h : s.trail.walk.end ≡ 0) (k : s.field.end ≢ 0) (z : s.trail.walk.points ≡ 0). refl)
    (λ (h : s.trail.walk.end ≡ 0) (k : s.field.end ≢ 0) (z : s.trail.walk.points ≢ 0). absurd (z n))

pub pass_cross : (c : Task) (s : State) → s.trail.walk.end ≡ 0 → s.field.end ≢ 0 → s.trail.walk.points ≢ 0
    → pass c s ≡ state s.field (crossing_pass c s.field.solve.x s.trail)
pass_cross c s e f n =
    pass_elim (λ (t : State). t ≡ state s.field (crossing_pass c s.field.solve.x s.trail)) c s
    (λ (h : finished s ≡ true). absurd (finished-end s h e))
    (λ (h : s.trail.walk.end ≡ 0) (k : s.field.end ≡ 0). absurd (f k))
    (λ (h : s.trail.walk.end ≡ 0) (k : s.field.end ≢ 0) (z : s.trail.walk.points ≡ 0). absurd (n z))
    (λ (h : s.trail.walk.end ≡ 0) (k : s.field.end ≢ 0) (z : s.trail.walk.points ≢ 0). refl)

-- ---- solving

-- a pass of solving that has no end adds a norm, and stays below the limit
solved_on : (limit : ℕ) (f : Field) (t : Turn) → (solved limit f t).end ≡ 0 → (length (solved limit f t).norms ≡ length f.norms + 1) × (length f.norms < limit)
unfolding solved
solved_on limit f halted h = absurd (omega arith)
solved_on limit f (reached x r norm) h = absurd (omega arith)
solved_on limit f (moved next norm) h = go (leb limit (length f.norms)) refl h
  where
    go : (b : Bool) → leb limit (length f.norms) ≡ b → pick {A = ℕ} b 3 0 ≡ 0 → (length (f.norms ++ (norm ∷ [])) ≡ length f.norms + 1) × (length f.norms < limit)
    go true e k = absurd (omega arith)
    go false e k = (length-append f.norms (norm ∷ []), leb-false limit (length f.norms) e)

pub solving_on : (c : Task) (f : Field) → (solving c f).end ≡ 0 → (length (solving c f).norms ≡ length f.norms + 1) × (length f.norms < c.limit)
unfolding solving
solving_on c f h = solved_on c.limit f (Solver.pass flat (matrix_of c) c.tolerance f.solve) h

-- one that has an end has it after as many passes as there were norms before it
solved_off : (limit : ℕ) (f : Field) (t : Turn) → (solved limit f t).end ≢ 0 → 0 < length f.norms → solved_place (solved limit f t) ≡ length f.norms
unfolding solved
solved_off limit f halted h k = omega arith
solved_off limit f (reached x r norm) h k = omega (arith, length-append f.norms (norm ∷ []))
solved_off limit f (moved next norm) h k = go (leb limit (length f.norms)) h
  where
    go : (b : Bool) → pick {A = ℕ} b 3 0 ≢ 0 → length (f.norms ++ (norm ∷ [])) - 1 + pick (eqb (pick {A = ℕ} b 3 0) 2) 1 0 ≡ length f.norms
    go true e = omega (arith, length-append f.norms (norm ∷ []))
    go false e = absurd (e refl)

pub solving_off : (c : Task) (f : Field) → (solving c f).end ≢ 0 → 0 < length f.norms → solved_place (solving c f) ≡ length f.norms
unfolding solving
solving_off c f h k = solved_off c.limit f (Solver.pass flat (matrix_of c) c.tolerance f.solve) h k

-- the norms after a pass of solving begin with those before it
solved_norms : (limit : ℕ) (f : Field) (t : Turn) → (more : List Float) × ((solved limit f t).norms ≡ f.norms ++ more)
unfolding solved
solved_norms limit f halted = ([], sym (append-nil f.norms))
solved_norms limit f (reached x r norm) = (norm ∷ [], refl)
solved_norms limit f (moved next norm) = (norm ∷ [], refl)

pub solving_norms : (c : Task) (f : Field) → (more : List Float) × ((solving c f).norms ≡ f.norms ++ more)
unfolding solving
solving_norms c f = solved_norms c.limit f (Solver.pass flat (matrix_of c) c.tolerance f.solve)

-- ---- the start

-- what holds of the trail after the start pass: with a start in one of the triangles, or ended with 8 or 9
pub starting_elim : (P : Trail → Type 0) (c : Task) (us : List Float)
    → ((p : Point) (t e : ℕ) → t < triangle_count c → e ≤ 3 → P (set_out (entry p t e) 0 (gradients flat c.vertices us c.triangles)))
    → ((k : ℕ) → 0 < k → k ≤ 9 → P (set_out None k (gradients flat c.vertices us c.triangles)))
    → P (starting c us)
unfolding starting start_from
starting_elim P c us found lost = given c.start
  where
    from : (s : Option Entry) (k : ℕ) → 0 < k → k ≤ 9 → StartIn (triangle_count c) s → P (set_out s k (gradients flat c.vertices us c.triangles))
    from (Some at) k z m h = found at.point at.triangle at.edge h.0 h.1
    from None k z m h = lost k z m

    given : (g : Option Point) → P (start_from g c us (gradients flat c.vertices us c.triangles))
    given (Some p) = from (triangle_containing c.vertices c.triangles (triangle_count c) p) 8 (omega arith) (omega arith) (containing_in _ _ _ _)
    given None = from (pick_start c.vertices c.triangles c.neighbours c.tags (triangle_count c) us) 9 (omega arith) (omega arith) (pick_start_in _ _ _ _ _ _)

-- ---- a crossing

-- what holds of the walk after a crossing, by its ends: 1 and 2, 7, 3 to 5, or on with 6 or none
pub walked_elim : (P : Walk → Type 0) (room : ℕ) (last : Bool) (w : Walk) (x : Crossing)
    → ((k : ℕ) → 0 < k → k ≤ 7 → P (ended w k))
    → ((l : Leaving) → x ≡ Ok l → w.points + adds x ≤ room → P (gone last w l.point l.beyond (adds x)))
    → P (walked room last w x)
unfolding walked
walked_elim P room last w (Err Halt.Dull) stays goes = stays 1 (omega arith) (omega arith)
walked_elim P room last w (Err Halt.Stuck) stays goes = stays 2 (omega arith) (omega arith)
walked_elim P room last w (Ok l) stays goes = go (ltb room (w.points + (l.pieces - 1 + closes l.beyond))) refl
  where
    go : (t : Bool) → ltb room (w.points + (l.pieces - 1 + closes l.beyond)) ≡ t
        → P (pick t (ended w 7) (gone last w l.point l.beyond (l.pieces - 1 + closes l.beyond)))
    go true e = stays 7 (omega arith) (omega arith)
    go false e = goes l refl (ltb-false room (w.points + (l.pieces - 1 + closes l.beyond)) e)

-- the last crossing has an end
gone_last : (w : Walk) (q : Point) (b : Beyond) (k : ℕ) → (gone true w q b k).end ≢ 0
gone_last w q (Err Barrier.Border) k = omega arith
gone_last w q (Err Barrier.Unnamed) k = omega arith
gone_last w q (Err Barrier.Above) k = omega arith
gone_last w q (Ok t) k = omega arith

pub walked_last : (room : ℕ) (w : Walk) (x : Crossing) → (walked room true w x).end ≢ 0
walked_last room w x =
    walked_elim (λ (v : Walk). v.end ≢ 0) room true w x
    (λ (k : ℕ) (h : 0 < k) (m : k ≤ 7). omega arith)
    (λ (l : Leaving) (e : x ≡ Ok l) (h : w.points + adds x ≤ room). gone_last w l.point l.beyond (adds x))

-- a crossing takes no point away
pub walked_points : (room : ℕ) (last : Bool) (w : Walk) (x : Crossing) → w.points ≤ (walked room last w x).points
walked_points room last w x =
    walked_elim (λ (v : Walk). w.points ≤ v.points) room last w x
    (λ (k : ℕ) (h : 0 < k) (m : k ≤ 7). le_refl w.points)
    (λ (l : Leaving) (e : x ≡ Ok l) (h : w.points + adds x ≤ room). omega (arith, gone_points last w l.point l.beyond (adds x)))

-- a crossing that has no end is not the last, and counts
pub crossing_on : (c : Task) (us : List Float) (t : Trail) → t.crossings < factor * triangle_count c → (crossing_pass c us t).walk.end ≡ 0
    → (crossing_pass c us t).crossings < factor * triangle_count c
unfolding crossing_pass crossed
crossing_on c us t h = go (eqb (t.crossings + 1) (factor * triangle_count c)) refl
  where
    x : Crossing
    x = crossing rule c.vertices c.triangles c.neighbours (triangle_count c) us t.gradients c.step t.walk.position t.walk.triangle t.walk.edge

    go : (b : Bool) → eqb (t.crossings + 1) (factor * triangle_count c) ≡ b → (walked c.room b t.walk x).end ≡ 0 → t.crossings + 1 < factor * triangle_count c
    go true e k = absurd (walked_last c.room t.walk x k)
    go false e k = let n : t.crossings + 1 ≢ factor * triangle_count c = eqb-false _ _ e in omega arith

pub crossing_counts : (c : Task) (us : List Float) (t : Trail) → (crossing_pass c us t).crossings ≡ t.crossings + 1
unfolding crossing_pass crossed
crossing_counts c us t = refl

pub crossing_points : (c : Task) (us : List Float) (t : Trail) → t.walk.points ≤ (crossing_pass c us t).walk.points
unfolding crossing_pass crossed
crossing_points c us t = walked_points c.room (eqb (t.crossings + 1) (factor * triangle_count c)) t.walk _

-- ---- how great an end is

solved-end : (limit : ℕ) (f : Field) (t : Turn) → (solved limit f t).end ≤ 3
unfolding solved
solved-end limit f halted = omega arith
solved-end limit f (reached x r norm) = omega arith
solved-end limit f (moved next norm) = go (leb limit (length f.norms))
  where
    go : (b : Bool) → pick {A = ℕ} b 3 0 ≤ 3
    go true = omega arith
    go false = omega arith

pub solving-end : (c : Task) (f : Field) → (solving c f).end ≤ 3
unfolding solving
solving-end c f = solved-end c.limit f (Solver.pass flat (matrix_of c) c.tolerance f.solve)

gone-end : (last : Bool) (w : Walk) (q : Point) (b : Beyond) (k : ℕ) → (gone last w q b k).end ≤ 9
gone-end last w q (Err Barrier.Border) k = omega arith
gone-end last w q (Err Barrier.Unnamed) k = omega arith
gone-end last w q (Err Barrier.Above) k = omega arith
gone-end last w q (Ok t) k = go last
  where
    go : (b : Bool) → pick {A = ℕ} b 6 0 ≤ 9
    go true = omega arith
    go false = omega arith

pub crossing-end : (c : Task) (us : List Float) (t : Trail) → (crossing_pass c us t).walk.end ≤ 9
unfolding crossing_pass crossed
crossing-end c us t =
    walked_elim (λ (v : Walk). v.end ≤ 9) c.room last t.walk x
    (λ (k : ℕ) (h : 0 < k) (m : k ≤ 7). omega arith)
    (λ (l : Leaving) (e : x ≡ Ok l) (h : t.walk.points + adds x ≤ c.room). gone-end last t.walk l.point l.beyond (adds x))
  where
    last : Bool
    last = eqb (t.crossings + 1) (factor * triangle_count c)

    x : Crossing
    x = crossing rule c.vertices c.triangles c.neighbours (triangle_count c) us t.gradients c.step t.walk.position t.walk.triangle t.walk.edge
