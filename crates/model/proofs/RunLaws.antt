-- Laws of the uninterrupted run, for every task: its last place E, the place at which solving ended, and what grows from place to place. Assumes nothing.
use Rattle.std.specs.Prelude.{ℕ, zero, suc, ◌+◌, ◌-◌, ◌*◌, ◌≤◌, ◌<◌, min, ◌≡◌, refl, ◌≢◌, ◌⊎◌, Bool, true, false, not, List, [], ◌∷◌, ◌++◌, eqb, leb, length, take, Float}
use Rattle.std.proofs.Common.{arith, sym, ap, ◌∙◌, subst, inl, inr, append-nil, length-take, eqb-true, eq-eqb, leb-true, leb-false}
use Rattle.std.proofs.lemmas.List.{length-replicate, take-append-le}
use Rattle.std.proofs.Math.Seq.{take-length}
use Rattle.std.proofs.lemmas.Bool.{eqb-false}
use Rattle.binary64.specs.Constants.{plus_zero}
use Rattle.binary64.specs.Number.{pick}
use Rattle.plane.specs.declared.Point.{Point}
use Rattle.pde.specs.declared.Walk.{Walk}
use Rattle.model.specs.Task.{Task, vertex_count, triangle_count}
use Rattle.model.specs.Space.{factor, farthest}
use Rattle.model.specs.Run.{State, Field, Trail, state, no_trail, matrix_of, right_of, place0, starting, solving, crossing_pass, pass, at, finished, last_from, last_place}
use Rattle.model.specs.SolvedPlace.{solved_place}
use Rattle.model.proofs.PassLaws.{finished-end, unfinished_end, pass_elim, pass-over, pass_solve, pass_begin, pass_cross, solving_on, solving_off, solving_norms, starting_elim, crossing_on, crossing_counts, crossing_points, solving-end, crossing-end}
use Rattle.model.specs.Sized.{Sized, Vectors}
use Rattle.pde.specs.PathLaws.{Stands}
use Rattle.model.proofs.SizeLaws.{matrix-length, right_length, begun_vectors, solving_vectors, gradients-length, crossing_path_length, crossing_room, crossing_walk, crossing_path, crossing-gradients}

-- ---- places in order

-- what holds at q and goes on from each place to the next holds at every later place
from : (P : ℕ → Type 0) (q : ℕ) → P q → ((r : ℕ) → q ≤ r → P r → P (suc r)) → (p : ℕ) → q ≤ p → P p
from P q b s zero h = let e : q ≡ 0 = omega arith in rw e at b
from P q b s (suc p) h = go (leb q p) refl (from P q b s p)
  where
    go : (t : Bool) → leb q p ≡ t → (q ≤ p → P p) → P (suc p)
    go true e f = let k : q ≤ p = leb-true q p e in s p k (f k)
    go false e f = let k : q ≡ suc p = omega (arith, leb-false q p e) in rw k at b

-- ---- a finished place

pub at-over : (c : Task) (p : ℕ) → finished (at c p) ≡ true → at c (suc p) ≡ at c p
unfolding at
at-over c p h = pass-over c (at c p) h

-- every place from a finished one on is that one
pub at_stays : (c : Task) (q p : ℕ) → q ≤ p → finished (at c q) ≡ true → at c p ≡ at c q
at_stays c q p h k =
    from (λ (r : ℕ). at c r ≡ at c q) q refl (λ (r : ℕ) (l : q ≤ r) (e : at c r ≡ at c q). at-over c r (rw e k) ∙ e) p h

finished_stays : (c : Task) (q p : ℕ) → q ≤ p → finished (at c q) ≡ true → finished (at c p) ≡ true
finished_stays c q p h k = rw (at_stays c q p h k) k

unfinished_before : (c : Task) (q p : ℕ) → q ≤ p → finished (at c p) ≡ false → finished (at c q) ≡ false
unfinished_before c q p h k = go (finished (at c q)) refl
  where
    go : (b : Bool) → finished (at c q) ≡ b → b ≡ false
    go true e = sym (finished_stays c q p h e) ∙ k
    go false e = refl

-- ---- solving

-- what stands while the field has no end
pub record Unsolved (c : Task) (p : ℕ) (s : State) : Type 0 where
  pub norms : length s.field.norms ≡ p + 1
  pub below : p < c.limit
  pub trail : s.trail ≡ no_trail (triangle_count c)

unsolved_first : (c : Task) → (place0 c).field.end ≡ 0 → Unsolved c 0 (place0 c)
unfolding place0
unsolved_first c h = go (eqb c.limit 0) refl h
  where
    go : (b : Bool) → eqb c.limit 0 ≡ b → pick {A = ℕ} b 3 0 ≡ 0 → Unsolved c 0 (place0 c)
    go true e k = absurd (omega arith)
    go false e k = let z : c.limit ≢ 0 = eqb-false c.limit 0 e in record { norms = refl; below = omega arith; trail = refl }

unsolved_next : (c : Task) (p : ℕ) (s : State) → (s.field.end ≡ 0 → Unsolved c p s) → (pass c s).field.end ≡ 0 → Unsolved c (suc p) (pass c s)
unsolved_next c p s ih =
    pass_elim (λ (t : State). t.field.end ≡ 0 → Unsolved c (suc p) t) c s
    (λ (h : finished s ≡ true) (e : s.field.end ≡ 0). absurd (finished-end s h (ap (λ (t : Trail). t.walk.end) (ih e).trail)))
    (λ (h : s.trail.walk.end ≡ 0) (e : s.field.end ≡ 0) (k : (solving c s.field).end ≡ 0).
    let o : (length (solving c s.field).norms ≡ length s.field.norms + 1) × (length s.field.norms < c.limit) = solving_on c s.field k in
    let u : Unsolved c p s = ih e in
    record { norms = omega arith; below = omega arith; trail = u.trail })
    (λ (h : s.trail.walk.end ≡ 0) (e : s.field.end ≢ 0) (z : s.trail.walk.points ≡ 0) (k : s.field.end ≡ 0). absurd (e k))
    (λ (h : s.trail.walk.end ≡ 0) (e : s.field.end ≢ 0) (z : s.trail.walk.points ≢ 0) (k : s.field.end ≡ 0). absurd (e k))

pub unsolved : (c : Task) (p : ℕ) → (at c p).field.end ≡ 0 → Unsolved c p (at c p)
unfolding at
unsolved c zero h = unsolved_first c h
unsolved c (suc p) h = unsolved_next c p (at c p) (unsolved c p) h

pub unsolved_trail : (c : Task) (p : ℕ) → (at c p).field.end ≡ 0 → (at c p).trail ≡ no_trail (triangle_count c)
unsolved_trail c p h = (unsolved c p h).trail

pub unsolved_norms : (c : Task) (p : ℕ) → (at c p).field.end ≡ 0 → length (at c p).field.norms ≡ p + 1
unsolved_norms c p h = (unsolved c p h).norms

-- ---- solved

-- a field that has its end stays
field_next : (c : Task) (p : ℕ) → (at c p).field.end ≢ 0 → (at c (suc p)).field ≡ (at c p).field
unfolding at
field_next c p n =
    pass_elim (λ (t : State). t.field ≡ (at c p).field) c (at c p)
    (λ (h : finished (at c p) ≡ true). refl)
    (λ (h : (at c p).trail.walk.end ≡ 0) (e : (at c p).field.end ≡ 0). absurd (n e))
    (λ (h : (at c p).trail.walk.end ≡ 0) (e : (at c p).field.end ≢ 0) (z : (at c p).trail.walk.points ≡ 0). refl)
    (λ (h : (at c p).trail.walk.end ≡ 0) (e : (at c p).field.end ≢ 0) (z : (at c p).trail.walk.points ≢ 0). refl)

field_stays : (c : Task) (q p : ℕ) → q ≤ p → (at c q).field.end ≢ 0 → (at c p).field ≡ (at c q).field
field_stays c q p h n =
    from (λ (r : ℕ). (at c r).field ≡ (at c q).field) q refl
    (λ (r : ℕ) (l : q ≤ r) (e : (at c r).field ≡ (at c q).field). field_next c r (λ (z : (at c r).field.end ≡ 0). n (sym (ap (λ (f : Field). f.end) e) ∙ z)) ∙ e) p h

-- a place before one whose field has no end has none
pub unsolved_before : (c : Task) (q p : ℕ) → q ≤ p → (at c p).field.end ≡ 0 → (at c q).field.end ≡ 0
unsolved_before c q p h z = go (eqb (at c q).field.end 0) refl
  where
    go : (b : Bool) → eqb (at c q).field.end 0 ≡ b → (at c q).field.end ≡ 0
    go true e = eqb-true _ _ e
    go false e = let n : (at c q).field.end ≢ 0 = eqb-false _ _ e in absurd (n (sym (ap (λ (f : Field). f.end) (field_stays c q p h n)) ∙ z))

-- a finished place has a field with its end
pub finished-solved : (c : Task) (p : ℕ) → finished (at c p) ≡ true → (at c p).field.end ≢ 0
finished-solved c p h z = finished-end (at c p) h (ap (λ (t : Trail). t.walk.end) (unsolved_trail c p z))

-- f is the field that solving came to, at place s and not before it
pub record Solved (c : Task) (s : ℕ) (f : Field) : Type 0 where
  pub field : (at c s).field ≡ f
  pub ended : f.end ≢ 0
  pub trail : (at c s).trail ≡ no_trail (triangle_count c)
  pub bound : s ≤ c.limit
  pub before : (q : ℕ) → q < s → (at c q).field.end ≡ 0

-- solving that has ended at p ended there, if the places before it have no end
solved_here : (c : Task) (p : ℕ) → solved_place (at c p).field ≡ p → (at c p).field.end ≢ 0 → (at c p).trail ≡ no_trail (triangle_count c) → p ≤ c.limit
    → ((q : ℕ) → q < p → (at c q).field.end ≡ 0) → (solved_place (at c p).field ≤ p) × Solved c (solved_place (at c p).field) (at c p).field
solved_here c p e n t b k =
    (omega arith, subst (λ (s : ℕ). Solved c s (at c p).field) (sym e) (record { field = refl; ended = n; trail = t; bound = b; before = k }))

first_place : (c : Task) → (place0 c).field.end ≢ 0 → solved_place (place0 c).field ≡ 0
unfolding place0
first_place c n = go (eqb c.limit 0) n
  where
    go : (b : Bool) → pick {A = ℕ} b 3 0 ≢ 0 → 1 - 1 + pick (eqb (pick {A = ℕ} b 3 0) 2) 1 0 ≡ 0
    go true k = refl
    go false k = absurd (k refl)

solved-next : (c : Task) (p : ℕ) → (at c p).field.end ≡ 0 → (at c (suc p)).field.end ≢ 0
    → (solved_place (at c (suc p)).field ≤ suc p) × Solved c (solved_place (at c (suc p)).field) (at c (suc p)).field
unfolding at
solved-next c p z n =
    let u : Unsolved c p (at c p) = unsolved c p z in
    let e : at c (suc p) ≡ state (solving c (at c p).field) (at c p).trail = pass_solve c (at c p) (ap (λ (t : Trail). t.walk.end) u.trail) z in
    let f : (at c (suc p)).field ≡ solving c (at c p).field = ap (λ (s : State). s.field) e in
    let g : solved_place (solving c (at c p).field) ≡ length (at c p).field.norms = solving_off c (at c p).field (rw f at n) (omega arith) in
    solved_here c (suc p) (ap solved_place f ∙ g ∙ omega arith) n (ap (λ (s : State). s.trail) e ∙ u.trail) (omega arith)
    (λ (q : ℕ) (h : q < suc p). unsolved_before c q p (omega arith) z)

pub solved_at_lem : (c : Task) (p : ℕ) → (at c p).field.end ≢ 0 → (solved_place (at c p).field ≤ p) × Solved c (solved_place (at c p).field) (at c p).field
unfolding at
solved_at_lem c zero n = solved_here c 0 (first_place c n) n refl (omega arith) (λ (q : ℕ) (h : q < 0). absurd (omega arith))
solved_at_lem c (suc p) n = go (eqb (at c p).field.end 0) refl (solved_at_lem c p)
  where
    go : (b : Bool) → eqb (at c p).field.end 0 ≡ b → ((at c p).field.end ≢ 0 → (solved_place (at c p).field ≤ p) × Solved c (solved_place (at c p).field) (at c p).field)
        → (solved_place (at c (suc p)).field ≤ suc p) × Solved c (solved_place (at c (suc p)).field) (at c (suc p)).field
    go true e ih = solved-next c p (eqb-true _ _ e) n
    go false e ih =
        let k : (at c p).field.end ≢ 0 = eqb-false _ _ e in
        let r : (solved_place (at c p).field ≤ p) × Solved c (solved_place (at c p).field) (at c p).field = ih k in
        subst (λ (f : Field). (solved_place f ≤ suc p) × Solved c (solved_place f) f) (sym (field_next c p k)) (omega arith, r.1)

-- ---- the solved place, for a place p whose field has its end

module _ (c : Task) (p : ℕ) (n : (at c p).field.end ≢ 0) where
  pub solved-le : solved_place (at c p).field ≤ p
  solved-le = (solved_at_lem c p n).0

  pub solved_bound : solved_place (at c p).field ≤ c.limit
  solved_bound = (solved_at_lem c p n).1.bound

  pub solved_field : (q : ℕ) → solved_place (at c p).field ≤ q → (at c q).field ≡ (at c p).field
  solved_field q h =
      let s : Solved c (solved_place (at c p).field) (at c p).field = (solved_at_lem c p n).1 in
      field_stays c (solved_place (at c p).field) q h (λ (z : (at c (solved_place (at c p).field)).field.end ≡ 0). n (sym (ap (λ (f : Field). f.end) s.field) ∙ z)) ∙ s.field

  pub solved_trail : (at c (solved_place (at c p).field)).trail ≡ no_trail (triangle_count c)
  solved_trail = (solved_at_lem c p n).1.trail

  pub solved-state : at c (solved_place (at c p).field) ≡ state (at c p).field (no_trail (triangle_count c))
  solved-state = λ i. state ((solved_at_lem c p n).1.field i) ((solved_at_lem c p n).1.trail i)

  -- a point is there only after it
  pub solved-lt : (at c p).trail.walk.points ≢ 0 → solved_place (at c p).field < p
  solved-lt k = go (leb p (solved_place (at c p).field)) refl
    where
      go : (b : Bool) → leb p (solved_place (at c p).field) ≡ b → solved_place (at c p).field < p
      go true e =
          let l : p ≤ solved_place (at c p).field = leb-true _ _ e in
          let m : solved_place (at c p).field ≡ p = omega (arith, solved-le) in
          absurd (k (subst (λ (q : ℕ). (at c q).trail.walk.points ≡ 0) m (ap (λ (t : Trail). t.walk.points) solved_trail)))
      go false e = leb-false _ _ e

  pub before_field : (q : ℕ) → q < solved_place (at c p).field → (at c q).field.end ≡ 0
  before_field q h = (solved_at_lem c p n).1.before q h

  pub before_trail : (q : ℕ) → q < solved_place (at c p).field → (at c q).trail ≡ no_trail (triangle_count c)
  before_trail q h = unsolved_trail c q (before_field q h)

-- ---- crossings

-- what stands after the start pass while the path has no end; s is the place at which solving ended
pub record Underway (c : Task) (s p : ℕ) (t : Trail) : Type 0 where
  pub points : 0 < t.walk.points
  pub counted : t.crossings + suc s ≡ p
  pub below : t.crossings < factor * triangle_count c

-- the start pass
pub at-begun : (c : Task) (s : ℕ) (f : Field) → Solved c s f → at c (suc s) ≡ state f (starting c f.solve.x)
unfolding at
at-begun c s f h =
    let w : at c s ≡ state f (no_trail (triangle_count c)) = λ i. state (h.field i) (h.trail i) in
    ap (pass c) w ∙ pass_begin c (state f (no_trail (triangle_count c))) refl h.ended refl

begun-crossing : (c : Task) (s : ℕ) (us : List Float) → (starting c us).walk.end ≡ 0 → Underway c s (suc s) (starting c us)
begun-crossing c s us =
    starting_elim (λ (t : Trail). t.walk.end ≡ 0 → Underway c s (suc s) t) c us
    (λ (p : Point) (t e : ℕ) (h : t < triangle_count c) (k : e ≤ 3) (z : 0 ≡ 0). record { points = omega arith; counted = omega arith; below = omega arith })
    (λ (k : ℕ) (n : 0 < k) (m : k ≤ 9) (z : k ≡ 0). absurd (omega arith))

-- a crossing more
crossing-next : (c : Task) (s p : ℕ) (us : List Float) (t : Trail) → Underway c s p t → (crossing_pass c us t).walk.end ≡ 0 → Underway c s (suc p) (crossing_pass c us t)
crossing-next c s p us t h z =
    record {
      points = omega (arith, crossing_points c us t);
      counted = omega (arith, crossing_counts c us t);
      below = crossing_on c us t h.below z;
    }

pub at-crossing : (c : Task) (s : ℕ) (f : Field) → Solved c s f → (p : ℕ) → suc s ≤ p → finished (at c p) ≡ false → Underway c s p (at c p).trail
unfolding at
at-crossing c s f h = from (λ (p : ℕ). finished (at c p) ≡ false → Underway c s p (at c p).trail) (suc s) base next
  where
    base : finished (at c (suc s)) ≡ false → Underway c s (suc s) (at c (suc s)).trail
    base e =
        let b : (at c (suc s)).trail ≡ starting c f.solve.x = ap (λ (t : State). t.trail) (at-begun c s f h) in
        subst (λ (t : Trail). t.walk.end ≡ 0 → Underway c s (suc s) t) (sym b) (begun-crossing c s f.solve.x) (unfinished_end (at c (suc s)) e)

    next : (r : ℕ) → suc s ≤ r → (finished (at c r) ≡ false → Underway c s r (at c r).trail) → finished (at c (suc r)) ≡ false → Underway c s (suc r) (at c (suc r)).trail
    next r l ih e =
        let u : finished (at c r) ≡ false = unfinished_before c r (suc r) (omega arith) e in
        let w : Underway c s r (at c r).trail = ih u in
        let n : (at c s).field.end ≢ 0 = λ (z : (at c s).field.end ≡ 0). h.ended (sym (ap (λ (g : Field). g.end) h.field) ∙ z) in
        let k : (at c r).field.end ≢ 0 = λ (z : (at c r).field.end ≡ 0). n (sym (ap (λ (g : Field). g.end) (field_stays c s r (omega arith) n)) ∙ z) in
        let q : (at c (suc r)).trail ≡ crossing_pass c (at c r).field.solve.x (at c r).trail =
        ap (λ (t : State). t.trail) (pass_cross c (at c r) (unfinished_end (at c r) u) k (omega arith)) in
        subst (λ (t : Trail). t.walk.end ≡ 0 → Underway c s (suc r) t) (sym q) (crossing-next c s r (at c r).field.solve.x (at c r).trail w) (unfinished_end (at c (suc r)) e)

-- the gradients stay what the start pass made them
pub gradients_stay : (c : Task) (s : ℕ) (f : Field) → Solved c s f → (p : ℕ) → suc s ≤ p → (at c p).trail.gradients ≡ (at c (suc s)).trail.gradients
unfolding at
gradients_stay c s f h = from (λ (p : ℕ). (at c p).trail.gradients ≡ (at c (suc s)).trail.gradients) (suc s) refl next
  where
    next : (r : ℕ) → suc s ≤ r → (at c r).trail.gradients ≡ (at c (suc s)).trail.gradients → (at c (suc r)).trail.gradients ≡ (at c (suc s)).trail.gradients
    next r l ih =
        pass_elim (λ (t : State). t.trail.gradients ≡ (at c (suc s)).trail.gradients) c (at c r)
        (λ (e : finished (at c r) ≡ true). ih)
        (λ (e : (at c r).trail.walk.end ≡ 0) (z : (at c r).field.end ≡ 0). ih)
        (λ (e : (at c r).trail.walk.end ≡ 0) (n : (at c r).field.end ≢ 0) (z : (at c r).trail.walk.points ≡ 0).
        let u : Underway c s r (at c r).trail = at-crossing c s f h r l (ap not (eq-eqb _ 0 e)) in
        absurd (omega arith))
        (λ (e : (at c r).trail.walk.end ≡ 0) (n : (at c r).field.end ≢ 0) (z : (at c r).trail.walk.points ≢ 0). crossing-gradients c (at c r).field.solve.x (at c r).trail ∙ ih)

-- while the path has points and no end, a crossing is left
pub crossings_left : (c : Task) (p : ℕ) → (at c p).trail.walk.points ≢ 0 → (at c p).trail.walk.end ≡ 0 → (at c p).trail.crossings < factor * triangle_count c
crossings_left c p k z = (at-crossing c (solved_place (at c p).field) (at c p).field (solved_at_lem c p n).1 p (solved-lt c p n k) (ap not (eq-eqb _ 0 z))).below
  where
    n : (at c p).field.end ≢ 0
    n e = k (ap (λ (t : Trail). t.walk.points) (unsolved_trail c p e))

-- no more crossings are made than there may be
pub crossings_bound : (c : Task) (p : ℕ) → (at c p).trail.crossings ≤ factor * triangle_count c
unfolding at place0
crossings_bound c zero = omega arith
crossings_bound c (suc p) =
    pass_elim (λ (t : State). t.trail.crossings ≤ factor * triangle_count c) c (at c p)
    (λ (h : finished (at c p) ≡ true). crossings_bound c p)
    (λ (h : (at c p).trail.walk.end ≡ 0) (e : (at c p).field.end ≡ 0). crossings_bound c p)
    (λ (h : (at c p).trail.walk.end ≡ 0) (e : (at c p).field.end ≢ 0) (z : (at c p).trail.walk.points ≡ 0).
    starting_elim (λ (t : Trail). t.crossings ≤ factor * triangle_count c) c (at c p).field.solve.x
    (λ (q : Point) (t d : ℕ) (l : t < triangle_count c) (k : d ≤ 3). omega arith)
    (λ (k : ℕ) (n : 0 < k) (m : k ≤ 9). omega arith))
    (λ (h : (at c p).trail.walk.end ≡ 0) (e : (at c p).field.end ≢ 0) (z : (at c p).trail.walk.points ≢ 0).
    omega (arith, crossings_left c p z h, crossing_counts c (at c p).field.solve.x (at c p).trail))

-- ---- the last place

far-solved : (c : Task) → (at c c.limit).field.end ≢ 0
far-solved c z = let u : Unsolved c c.limit (at c c.limit) = unsolved c c.limit z in omega arith

far-finished : (c : Task) → finished (at c (farthest (triangle_count c) c.limit)) ≡ true
far-finished c = go (finished (at c (farthest (triangle_count c) c.limit))) refl
  where
    s : ℕ
    s = solved_place (at c c.limit).field

    far : ℕ
    far = farthest (triangle_count c) c.limit

    go : (b : Bool) → finished (at c (farthest (triangle_count c) c.limit)) ≡ b → b ≡ true
    go true e = refl
    go false e =
        let h : (s ≤ c.limit) × Solved c s (at c c.limit).field = solved_at_lem c c.limit (far-solved c) in
        let k : Underway c s far (at c far).trail = at-crossing c s (at c c.limit).field h.1 far (omega arith) e in
        absurd (omega arith)

-- r is the first finished place of the k + 1 from p on, or p + k
record First (c : Task) (k p r : ℕ) : Type 0 where
  low : p ≤ r
  high : r ≤ p + k
  done : finished (at c (p + k)) ≡ true → finished (at c r) ≡ true
  before : (q : ℕ) → p ≤ q → q < r → finished (at c q) ≡ false

moved : (c : Task) (p q : ℕ) → p ≡ q → finished (at c p) ≡ true → finished (at c q) ≡ true
moved c p q e h = subst (λ (r : ℕ). finished (at c r) ≡ true) e h

first_from_lem : (c : Task) (k p : ℕ) → First c k p (last_from c k p (finished (at c p)) (at c p))
unfolding last_from at
first_from_lem c zero p = record { low = omega arith; high = omega arith; done = λ (e : finished (at c (p + 0)) ≡ true). moved c (p + 0) p (omega arith) e; before = λ (q : ℕ) (l : p ≤ q) (h : q < p). absurd (omega arith) }
first_from_lem c (suc k) p = go (finished (at c p)) refl (first_from_lem c k (suc p))
  where
    go : (b : Bool) → finished (at c p) ≡ b → First c k (suc p) (last_from c k (suc p) (finished (at c (suc p))) (at c (suc p))) → First c (suc k) p (last_from c (suc k) p b (at c p))
    go true e f = record { low = omega arith; high = omega arith; done = λ (z : finished (at c (p + suc k)) ≡ true). e; before = λ (q : ℕ) (l : p ≤ q) (h : q < p). absurd (omega arith) }
    go false e f =
        record {
          low = omega (arith, f.low);
          high = omega (arith, f.high);
          done = λ (z : finished (at c (p + suc k)) ≡ true). f.done (moved c (p + suc k) (suc p + k) (omega arith) z);
          before = λ (q : ℕ) (l : p ≤ q) (h : q < last_from c k (suc p) (finished (at c (suc p))) (at c (suc p))). later q l (leb (suc p) q) refl (λ (m : suc p ≤ q). f.before q m h);
        }
      where
        later : (q : ℕ) → p ≤ q → (b : Bool) → leb (suc p) q ≡ b → (suc p ≤ q → finished (at c q) ≡ false) → finished (at c q) ≡ false
        later q l true t g = g (leb-true (suc p) q t)
        later q l false t g = let m : p ≡ q = omega (arith, leb-false (suc p) q t) in subst (λ (r : ℕ). finished (at c r) ≡ false) m e

first_last : (c : Task) → First c (farthest (triangle_count c) c.limit) 0 (last_place c)
unfolding last_place at
first_last c = first_from_lem c (farthest (triangle_count c) c.limit) 0

pub last_bound : (c : Task) → last_place c ≤ farthest (triangle_count c) c.limit
last_bound c = omega (arith, (first_last c).high)

pub last_first : (c : Task) (p : ℕ) → p < last_place c → finished (at c p) ≡ false
last_first c p h = (first_last c).before p (omega arith) h

pub last_finished : (c : Task) → finished (at c (last_place c)) ≡ true
last_finished c = (first_last c).done (moved c (farthest (triangle_count c) c.limit) (0 + farthest (triangle_count c) c.limit) (omega arith) (far-finished c))

pub at_min : (c : Task) (p : ℕ) → at c p ≡ at c (min p (last_place c))
at_min c p = go (leb p (last_place c)) refl
  where
    go : (b : Bool) → leb p (last_place c) ≡ b → at c p ≡ at c (min p (last_place c))
    go true e = let k : p ≤ last_place c = leb-true p (last_place c) e in ap (at c) (omega arith)
    go false e =
        let k : last_place c < p = leb-false p (last_place c) e in
        let m : last_place c ≡ min p (last_place c) = omega arith in
        at_stays c (last_place c) p (omega arith) (last_finished c) ∙ ap (at c) m

-- from the start pass to the last place, each place is a crossing more
pub crossings_counted : (c : Task) (p : ℕ) (n : (at c p).field.end ≢ 0) → solved_place (at c p).field < p → p ≤ last_place c
    → (at c p).trail.crossings + suc (solved_place (at c p).field) ≡ p
unfolding at
crossings_counted c p n h = from (λ (r : ℕ). r ≤ last_place c → (at c r).trail.crossings + suc s ≡ r) (suc s) base next p h
  where
    s : ℕ
    s = solved_place (at c p).field

    f : Field
    f = (at c p).field

    base : suc s ≤ last_place c → (at c (suc s)).trail.crossings + suc s ≡ suc s
    base l =
        let b : (at c (suc s)).trail ≡ starting c f.solve.x = ap (λ (t : State). t.trail) (at-begun c s f (solved_at_lem c p n).1) in
        let z : (starting c f.solve.x).crossings ≡ 0 =
        starting_elim (λ (t : Trail). t.crossings ≡ 0) c f.solve.x (λ (q : Point) (t e : ℕ) (i : t < triangle_count c) (k : e ≤ 3). refl) (λ (k : ℕ) (i : 0 < k) (m : k ≤ 9). refl) in
        omega (arith, ap (λ (t : Trail). t.crossings) b)

    next : (r : ℕ) → suc s ≤ r → (r ≤ last_place c → (at c r).trail.crossings + suc s ≡ r) → suc r ≤ last_place c → (at c (suc r)).trail.crossings + suc s ≡ suc r
    next r l ih m =
        let u : finished (at c r) ≡ false = last_first c r m in
        let w : Underway c s r (at c r).trail = at-crossing c s f (solved_at_lem c p n).1 r l u in
        let k : (at c r).field.end ≢ 0 = λ (z : (at c r).field.end ≡ 0). n (sym (ap (λ (g : Field). g.end) (solved_field c p n r (omega arith))) ∙ z) in
        let q : (at c (suc r)).trail ≡ crossing_pass c (at c r).field.solve.x (at c r).trail =
        ap (λ (t : State). t.trail) (pass_cross c (at c r) (unfinished_end (at c r) u) k (omega arith)) in
        omega (arith, ap (λ (t : Trail). t.crossings) q, crossing_counts c (at c r).field.solve.x (at c r).trail, ih (omega arith))

-- ---- what grows

-- a list begins with another
abbrev pub Begins : {A : Type 0} → List A → List A → Type 0
Begins short long = short ≡ take (length short) long

begins_more : {A : Type 0} (a b more : List A) → Begins a b → Begins a (b ++ more)
begins_more a b more h =
    let l : length a ≤ length b = omega (arith, ap length h, length-take (length a) b) in
    h ∙ sym (take-append-le (length a) b more l)

-- every norm stays
norms_next : (c : Task) (p : ℕ) → (more : List Float) × ((at c (suc p)).field.norms ≡ (at c p).field.norms ++ more)
unfolding at
norms_next c p =
    pass_elim (λ (t : State). (more : List Float) × (t.field.norms ≡ (at c p).field.norms ++ more)) c (at c p)
    (λ (h : finished (at c p) ≡ true). same)
    (λ (h : (at c p).trail.walk.end ≡ 0) (e : (at c p).field.end ≡ 0). solving_norms c (at c p).field)
    (λ (h : (at c p).trail.walk.end ≡ 0) (e : (at c p).field.end ≢ 0) (z : (at c p).trail.walk.points ≡ 0). same)
    (λ (h : (at c p).trail.walk.end ≡ 0) (e : (at c p).field.end ≢ 0) (z : (at c p).trail.walk.points ≢ 0). same)
  where
    same : (more : List Float) × ((at c p).field.norms ≡ (at c p).field.norms ++ more)
    same = ([], sym (append-nil (at c p).field.norms))

pub norms_grow : (c : Task) (q p : ℕ) → q ≤ p → (at c q).field.norms ≡ take (length (at c q).field.norms) (at c p).field.norms
norms_grow c q p h =
    from (λ (r : ℕ). Begins (at c q).field.norms (at c r).field.norms) q (sym (take-length (at c q).field.norms))
    (λ (r : ℕ) (l : q ≤ r) (b : Begins (at c q).field.norms (at c r).field.norms).
    rw (norms_next c r).1 (begins_more (at c q).field.norms (at c r).field.norms (norms_next c r).0 b)) p h

-- there is always one, and never more than the limit and one, nor than the limit while the field has no end
pub norms_some : (c : Task) (p : ℕ) → 1 ≤ length (at c p).field.norms
unfolding at place0
norms_some c p = omega (arith, ap length (norms_grow c 0 p (omega arith)), length-take 1 (at c p).field.norms)

pub norms_below : (c : Task) (p : ℕ) → (at c p).field.end ≡ 0 → length (at c p).field.norms ≤ c.limit
norms_below c p z = let u : Unsolved c p (at c p) = unsolved c p z in omega arith

pub norms_bound : (c : Task) (p : ℕ) → length (at c p).field.norms ≤ c.limit + 1
norms_bound c p = go (eqb (at c p).field.end 0) refl
  where
    go : (b : Bool) → eqb (at c p).field.end 0 ≡ b → length (at c p).field.norms ≤ c.limit + 1
    go true e = let u : Unsolved c p (at c p) = unsolved c p (eqb-true _ _ e) in omega arith
    go false e = omega (arith, solved_bound c p (eqb-false _ _ e))

-- ---- what holds at every place, by the kinds of pass

-- what the trail of every place has: of none, kept by a start and by a crossing
trail_ind : (c : Task) (P : Trail → Type 0) → P (no_trail (triangle_count c)) → ((us : List Float) → P (starting c us))
    → ((us : List Float) (t : Trail) → 0 < t.walk.points → P t → P (crossing_pass c us t)) → (p : ℕ) → P (at c p).trail
unfolding at place0
trail_ind c P n b x zero = n
trail_ind c P n b x (suc p) = go (at c p) (trail_ind c P n b x p)
  where
    go : (s : State) → P s.trail → P (pass c s).trail
    go s ih =
        pass_elim (λ (t : State). P t.trail) c s
        (λ (h : finished s ≡ true). ih)
        (λ (h : s.trail.walk.end ≡ 0) (e : s.field.end ≡ 0). ih)
        (λ (h : s.trail.walk.end ≡ 0) (e : s.field.end ≢ 0) (z : s.trail.walk.points ≡ 0). b s.field.solve.x)
        (λ (h : s.trail.walk.end ≡ 0) (e : s.field.end ≢ 0) (z : s.trail.walk.points ≢ 0). x s.field.solve.x s.trail (omega arith) ih)

-- ---- sizes

-- x, r and p have n places
pub vectors_sized : (c : Task) (p : ℕ) → Vectors (vertex_count c) (at c p).field.solve
unfolding at place0
vectors_sized c zero = begun_vectors (matrix_of c) (right_of c) (vertex_count c) (matrix-length c) (right_length c)
vectors_sized c (suc p) = go (at c p) (vectors_sized c p)
  where
    go : (s : State) → Vectors (vertex_count c) s.field.solve → Vectors (vertex_count c) (pass c s).field.solve
    go s ih =
        pass_elim (λ (t : State). Vectors (vertex_count c) t.field.solve) c s
        (λ (h : finished s ≡ true). ih)
        (λ (h : s.trail.walk.end ≡ 0) (e : s.field.end ≡ 0). solving_vectors c s.field ih)
        (λ (h : s.trail.walk.end ≡ 0) (e : s.field.end ≢ 0) (z : s.trail.walk.points ≡ 0). ih)
        (λ (h : s.trail.walk.end ≡ 0) (e : s.field.end ≢ 0) (z : s.trail.walk.points ≢ 0). ih)

pub gradients_sized : (c : Task) (p : ℕ) → length (at c p).trail.gradients ≡ 2 * triangle_count c
gradients_sized c =
    trail_ind c (λ (t : Trail). length t.gradients ≡ 2 * triangle_count c) (length-replicate (2 * triangle_count c) plus_zero)
    (λ (us : List Float).
    starting_elim (λ (t : Trail). length t.gradients ≡ 2 * triangle_count c) c us
    (λ (q : Point) (t e : ℕ) (h : t < triangle_count c) (k : e ≤ 3). gradients-length c.vertices us c.triangles)
    (λ (k : ℕ) (n : 0 < k) (m : k ≤ 9). gradients-length c.vertices us c.triangles))
    (λ (us : List Float) (t : Trail) (h : 0 < t.walk.points) (ih : length t.gradients ≡ 2 * triangle_count c). ap length (crossing-gradients c us t) ∙ ih)

-- as many points as are counted
pub path_sized : (c : Task) (p : ℕ) → length (at c p).trail.path ≡ (at c p).trail.walk.points
path_sized c =
    trail_ind c (λ (t : Trail). length t.path ≡ t.walk.points) refl
    (λ (us : List Float).
    starting_elim (λ (t : Trail). length t.path ≡ t.walk.points) c us
    (λ (q : Point) (t e : ℕ) (h : t < triangle_count c) (k : e ≤ 3). refl)
    (λ (k : ℕ) (n : 0 < k) (m : k ≤ 9). refl))
    (λ (us : List Float) (t : Trail) (h : 0 < t.walk.points) (ih : length t.path ≡ t.walk.points). crossing_path_length c us t ih)

pub points_bound : (c : Task) → 1 ≤ c.room → (p : ℕ) → (at c p).trail.walk.points ≤ c.room
points_bound c r =
    trail_ind c (λ (t : Trail). t.walk.points ≤ c.room) (omega arith)
    (λ (us : List Float).
    starting_elim (λ (t : Trail). t.walk.points ≤ c.room) c us
    (λ (q : Point) (t e : ℕ) (h : t < triangle_count c) (k : e ≤ 3). r)
    (λ (k : ℕ) (n : 0 < k) (m : k ≤ 9). omega arith))
    (λ (us : List Float) (t : Trail) (h : 0 < t.walk.points) (ih : t.walk.points ≤ c.room). crossing_room c us t ih)

-- a path with points is in one of the triangles, which it entered by an edge or none; one without has triangle 0
record Inside (T : ℕ) (w : Walk) : Type 0 where
  triangle : 0 < w.points → w.triangle < T
  zero_or_below : (w.triangle ≡ 0) ⊎ (w.triangle < T)
  edge : w.edge ≤ 3

inside : (c : Task) → Sized c → (p : ℕ) → Inside (triangle_count c) (at c p).trail.walk
inside c s =
    trail_ind c (λ (t : Trail). Inside (triangle_count c) t.walk) (record { triangle = λ (z : 0 < 0). absurd (omega arith); zero_or_below = inl refl; edge = omega arith })
    (λ (us : List Float).
    starting_elim (λ (t : Trail). Inside (triangle_count c) t.walk) c us
    (λ (q : Point) (t e : ℕ) (h : t < triangle_count c) (k : e ≤ 3). record { triangle = λ (z : 0 < 1). h; zero_or_below = inr h; edge = k })
    (λ (k : ℕ) (n : 0 < k) (m : k ≤ 9). record { triangle = λ (z : 0 < 0). absurd (omega arith); zero_or_below = inl refl; edge = omega arith }))
    (λ (us : List Float) (t : Trail) (h : 0 < t.walk.points) (ih : Inside (triangle_count c) t.walk).
    let w : Stands (triangle_count c) (crossing_pass c us t).walk = crossing_walk c s us t (record { triangle_below = ih.triangle h; edge_most = ih.edge }) in
    record { triangle = λ (z : 0 < (crossing_pass c us t).walk.points). w.triangle_below; zero_or_below = inr w.triangle_below; edge = w.edge_most })

pub walk_triangle : (c : Task) → Sized c → (p : ℕ) → 0 < (at c p).trail.walk.points → (at c p).trail.walk.triangle < triangle_count c
walk_triangle c s p h = (inside c s p).triangle h

pub walk_zero_or_below : (c : Task) → Sized c → (p : ℕ) → ((at c p).trail.walk.triangle ≡ 0) ⊎ ((at c p).trail.walk.triangle < triangle_count c)
walk_zero_or_below c s p = (inside c s p).zero_or_below

pub walk_edge : (c : Task) → Sized c → (p : ℕ) → (at c p).trail.walk.edge ≤ 3
walk_edge c s p = (inside c s p).edge

-- every point stays
nil : (l : List Point) → length l ≡ 0 → l ≡ []
nil [] h = refl
nil (x ∷ xs) h = absurd (omega arith)

path_next : (c : Task) (p : ℕ) → (more : List Point) × ((at c (suc p)).trail.path ≡ (at c p).trail.path ++ more)
unfolding at
path_next c p =
    pass_elim (λ (t : State). (more : List Point) × (t.trail.path ≡ (at c p).trail.path ++ more)) c (at c p)
    (λ (h : finished (at c p) ≡ true). same)
    (λ (h : (at c p).trail.walk.end ≡ 0) (e : (at c p).field.end ≡ 0). same)
    (λ (h : (at c p).trail.walk.end ≡ 0) (e : (at c p).field.end ≢ 0) (z : (at c p).trail.walk.points ≡ 0).
    ((starting c (at c p).field.solve.x).path, rw (nil (at c p).trail.path (omega (arith, path_sized c p)))))
    (λ (h : (at c p).trail.walk.end ≡ 0) (e : (at c p).field.end ≢ 0) (z : (at c p).trail.walk.points ≢ 0). crossing_path c (at c p).field.solve.x (at c p).trail)
  where
    same : (more : List Point) × ((at c p).trail.path ≡ (at c p).trail.path ++ more)
    same = ([], sym (append-nil (at c p).trail.path))

pub path_grows : (c : Task) (q p : ℕ) → q ≤ p → (at c q).trail.path ≡ take (length (at c q).trail.path) (at c p).trail.path
path_grows c q p h =
    from (λ (r : ℕ). Begins (at c q).trail.path (at c r).trail.path) q (sym (take-length (at c q).trail.path))
    (λ (r : ℕ) (l : q ≤ r) (b : Begins (at c q).trail.path (at c r).trail.path).
    rw (path_next c r).1 (begins_more (at c q).trail.path (at c r).trail.path (path_next c r).0 b)) p h

-- ---- ends

pub field_end_bound : (c : Task) (p : ℕ) → (at c p).field.end ≤ 3
unfolding at place0
field_end_bound c zero = go (eqb c.limit 0)
  where
    go : (b : Bool) → pick {A = ℕ} b 3 0 ≤ 3
    go true = omega arith
    go false = omega arith
field_end_bound c (suc p) =
    pass_elim (λ (t : State). t.field.end ≤ 3) c (at c p)
    (λ (h : finished (at c p) ≡ true). field_end_bound c p)
    (λ (h : (at c p).trail.walk.end ≡ 0) (e : (at c p).field.end ≡ 0). solving-end c (at c p).field)
    (λ (h : (at c p).trail.walk.end ≡ 0) (e : (at c p).field.end ≢ 0) (z : (at c p).trail.walk.points ≡ 0). field_end_bound c p)
    (λ (h : (at c p).trail.walk.end ≡ 0) (e : (at c p).field.end ≢ 0) (z : (at c p).trail.walk.points ≢ 0). field_end_bound c p)

pub path_end_bound : (c : Task) (p : ℕ) → (at c p).trail.walk.end ≤ 9
path_end_bound c =
    trail_ind c (λ (t : Trail). t.walk.end ≤ 9) (omega arith)
    (λ (us : List Float).
    starting_elim (λ (t : Trail). t.walk.end ≤ 9) c us
    (λ (q : Point) (t e : ℕ) (h : t < triangle_count c) (k : e ≤ 3). omega arith)
    (λ (k : ℕ) (n : 0 < k) (m : k ≤ 9). m))
    (λ (us : List Float) (t : Trail) (h : 0 < t.walk.points) (ih : t.walk.end ≤ 9). crossing-end c us t)
