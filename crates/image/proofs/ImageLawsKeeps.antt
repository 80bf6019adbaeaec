-- Whatever the record's scalars and the buffers hold within the ranges that the calls check: passes, the way to another place and a mark keep the lengths of floats and path, and all that lies past the places used.
-- Assumes nothing.
use Rattle.std.specs.Prelude.{ℕ, ◌+◌, ◌*◌, ◌≤◌, ◌≡◌, Bool, List, [], ◌∷◌, ◌++◌, eqb, length, drop, Float, Option, Some, None}
use Rattle.std.proofs.Math.Path.{refl}
use Rattle.std.proofs.Common.{sym, ap, ◌∙◌, length-take, drop-drop}
use Rattle.std.proofs.Math.Bool.{true, false}
use native.Mathlib.Omega.{arith}
use Rattle.std.proofs.Math.Dec.{leb}
use Rattle.std.proofs.Math.Seq.{drop-append-add}
use borrow.Author.Tests.{leb-false}
use Rattle.binary64.specs.Number.{pick}
use Rattle.stretch.specs.Stretch.{part, splice}
use Rattle.stretch.specs.StretchLaws.{length-splice, drop-splice-after}
use Rattle.sparse.specs.Stored.{matrix}
use Rattle.mesh.specs.Element.{flat}
use Rattle.conjugate.specs.Solver as Solver
use Rattle.conjugate.specs.Solver.{Turn, halted, reached, moved}
use Rattle.pde.specs.declared.Walk.{Walk}
use Rattle.pde.specs.Outcome.{Crossing}
use Rattle.pde.specs.PathLaws.{length_coordinates, walked_more, walked-most}
use Rattle.pde.specs.Path.{point_floats, coordinates_of, added}
use Rattle.model.specs.Space.{factor}
use Rattle.model.specs.Run.{next_by}
use Rattle.work.specs.declared.Plan.{Plan}
use Rattle.work.specs.declared.Stand.{Stand}
use Rattle.work.specs.declared.Gives.{Gives}
use Rattle.work.specs.Layout.{at_norms, matrix_at}
use Rattle.work.specs.Memory.{Stepped, vectors_in, solved_step, set_out_step, solve_step, start_by, begin_step, crossing_of, cross_step, step_by, next_of, step_on, Work, floats_given, path_given, front_of, beyond_front, once}
use Rattle.image.proofs.ImageLawsDry.{front_long, joined_long}
use Rattle.plane.specs.declared.Point.{Point}
use Rattle.pde.specs.declared.Entry.{Entry}

-- ---- one list

-- l' is as long as l, and the same from place k on
pub record Kept-from (k : ℕ) (l l' : List Float) : Type 0 where
  pub long : length l' ≡ length l
  pub rest : drop k l' ≡ drop k l

abbrev pub same : (k : ℕ) (l : List Float) → Kept-from k l l
same k l = record { long = refl; rest = refl }

both : {k : ℕ} {l l' l'' : List Float} → Kept-from k l l' → Kept-from k l' l'' → Kept-from k l l''
both a b = record { long = b.long ∙ a.long; rest = b.rest ∙ a.rest }

pub kept_splice : (k : ℕ) (l : List Float) (at : ℕ) (new : List Float) → at + length new ≤ k → Kept-from k l (splice l at new)
kept_splice k l at new h = record { long = length-splice l at new; rest = drop-splice-after l at new k h }

-- a write of a stretch behind another write
pub then_splice : {k : ℕ} {l l' : List Float} → Kept-from k l l' → (at : ℕ) (new : List Float) → at + length new ≤ k → Kept-from k l (splice l' at new)
then_splice {k} {l} {l'} a at new h = both a (kept_splice k l' at new h)

pub part_short : (l : List Float) (at n : ℕ) → length (part l at n) ≤ n
unfolding part
part_short l at n = omega (arith, length-take n (drop at l))

-- ---- both lists of the work

abbrev pub used_by : Plan → ℕ
used_by plan = at_norms plan.n plan.t + (plan.limit + 1 + 3 * plan.n)

pub record Keeps (plan : Plan) (w w' : Work) : Type 0 where
  pub floats : Kept-from (used_by plan) w.floats w'.floats
  pub path : Kept-from (point_floats * plan.room) w.path w'.path

pub keeps_none : (plan : Plan) (w : Work) → Keeps plan w w
keeps_none plan w = record { floats = same (used_by plan) w.floats; path = same (point_floats * plan.room) w.path }

pub keeps_both : {plan : Plan} {w w' w'' : Work} → Keeps plan w w' → Keeps plan w' w'' → Keeps plan w w''
keeps_both a b = record { floats = both a.floats b.floats; path = both a.path b.path }

-- the ranges: while solving a norm more fits, and the points fit the room
pub record InRange (plan : Plan) (s : Stand) : Type 0 where
  pub norms : s.norms ≤ plan.limit + pick (eqb s.end 0) 0 1
  pub points : s.walk.points ≤ plan.room

pub norms_most : (plan : Plan) (s : Stand) → InRange plan s → s.norms ≤ plan.limit + 1
norms_most plan s h = go (eqb s.end 0) h.norms
  where
    go : (b : Bool) → s.norms ≤ plan.limit + pick b 0 1 → s.norms ≤ plan.limit + 1
    go true k = omega arith
    go false k = omega arith

-- ---- what a crossing adds fits

crossing-fits : (room : ℕ) (last : Bool) (w : Walk) (x : Crossing) → w.points ≤ room → point_floats * w.points + length (coordinates_of (added room w x)) ≤ point_floats * room
crossing-fits room last w x h = omega (arith, length_coordinates (added room w x), walked_more room last w x, walked-most room last w x h)

-- ---- a pass

-- what a pass gives fits where it is written
abbrev GivesIn : Plan → Stand → Gives → Type 0
GivesIn plan s Gives.Nothing = Unit
GivesIn plan s (Gives.Norm v) = s.norms ≤ plan.limit
GivesIn plan s (Gives.First p) = 1 ≤ plan.room
GivesIn plan s (Gives.Crossed x) = s.walk.points ≤ plan.room

record Fine (plan : Plan) (s : Stand) (d : Stepped) : Type 0 where
  gives : GivesIn plan s d.gives
  stand : InRange plan d.stand

module _ (plan : Plan) (words : List ℕ) (room : 1 ≤ plan.room) where
  solved_fine : (s : Stand) (f : List Float) (u : Turn) → InRange plan s → s.norms ≤ plan.limit → Fine plan s (solved_step plan s f u)
  unfolding solved_step
  solved_fine s f halted h k = record { gives = tt; stand = record { norms = omega arith; points = h.points } }
  solved_fine s f (reached x r norm) h k = record { gives = k; stand = record { norms = omega arith; points = h.points } }
  solved_fine s f (moved next norm) h k = record { gives = k; stand = record { norms = go (leb plan.limit s.norms) refl; points = h.points } }
    where
      go : (b : Bool) → leb plan.limit s.norms ≡ b → s.norms + 1 ≤ plan.limit + pick (eqb (pick {A = ℕ} b 3 0) 0) 0 1
      go true e = omega arith
      go false e = omega (arith, leb-false plan.limit s.norms e)

  set_fine : (s : Stand) (f : List Float) (k : ℕ) (st : Option Entry) → InRange plan s → Fine plan s (set_out_step s f k st)
  unfolding set_out_step
  set_fine s f k (Some at) h = record { gives = room; stand = record { norms = h.norms; points = room } }
  set_fine s f k None h = record { gives = tt; stand = record { norms = h.norms; points = omega arith } }

  start_fine : (f : List Float) (s : Stand) (g : Option Point) → InRange plan s → Fine plan s (start_by plan words f s g)
  start_fine f s (Some p) h = set_fine s _ _ _ h
  start_fine f s None h = set_fine s _ _ _ h

  cross_fine : (f : List Float) (s : Stand) → InRange plan s → Fine plan s (cross_step plan words f s)
  unfolding cross_step
  cross_fine f s h =
      record { gives = h.points; stand = record { norms = h.norms; points = walked-most plan.room (eqb (s.crossings + 1) (factor * plan.t)) s.walk (crossing_of plan words f s) h.points } }

  by_fine : (f : List Float) (s : Stand) → InRange plan s → (e b g : Bool) → eqb s.end 0 ≡ b → Fine plan s (step_by plan words f s (next_by e b g))
  unfolding solve_step begin_step
  by_fine f s h false b g q = record { gives = tt; stand = h }
  by_fine f s h true true g q =
      let k : s.norms ≤ plan.limit + pick true 0 1 = rw q at h.norms in
      solved_fine s f (Solver.pass flat (matrix words f (matrix_at plan.n plan.t)) plan.tolerance (vectors_in plan.n plan.t f s.rs)) h (omega arith)
  by_fine f s h true false true q = start_fine f s plan.start h
  by_fine f s h true false false q = cross_fine f s h

  step_fine : (f : List Float) (s : Stand) → InRange plan s → Fine plan s (step_on plan words f s)
  unfolding step_on next_of
  step_fine f s h = by_fine f s h (eqb s.walk.end 0) (eqb s.end 0) (eqb s.walk.points 0) refl

  -- ---- what is written of it

  floats_given_lem : (s : Stand) (g : Gives) (l m : List Float) → GivesIn plan s g → Kept-from (used_by plan) l m → Kept-from (used_by plan) l (floats_given plan s g m)
  floats_given_lem s Gives.Nothing l m h a = a
  floats_given_lem s (Gives.Norm v) l m h a = then_splice a (at_norms plan.n plan.t + s.norms) (v ∷ []) (omega arith)
  floats_given_lem s (Gives.First p) l m h a = a
  floats_given_lem s (Gives.Crossed x) l m h a = a

  path_given_lem : (s : Stand) (g : Gives) (p : List Float) → GivesIn plan s g → Kept-from (point_floats * plan.room) p (path_given plan s g p)
  path_given_lem s Gives.Nothing p h = same (point_floats * plan.room) p
  path_given_lem s (Gives.Norm v) p h = same (point_floats * plan.room) p
  path_given_lem s (Gives.First q) p h = kept_splice (point_floats * plan.room) p 0 (coordinates_of (q ∷ [])) (omega (arith, length_coordinates (q ∷ [])))
  path_given_lem s (Gives.Crossed x) p h = kept_splice (point_floats * plan.room) p (point_floats * s.walk.points) (coordinates_of (added plan.room s.walk x)) (crossing-fits plan.room true s.walk x h)

  -- a changed front, and what lies beyond it
  module _ (w : Work) (fits : at_norms plan.n plan.t ≤ length w.floats) where
    front_kept : Kept-from (used_by plan) w.floats ((step_on plan words (front_of plan w.floats) w.stand).front ++ beyond_front plan w.floats)
    front_kept =
        let d = (step_on plan words (front_of plan w.floats) w.stand).front in
        let a = at_norms plan.n plan.t in
        let e : a ≡ length d = sym (front_long plan words w fits) in
        record {
          long = joined_long plan words w fits;
          rest =
              ap (λ (i : ℕ). drop (i + (plan.limit + 1 + 3 * plan.n)) (d ++ beyond_front plan w.floats)) e
              ∙ drop-append-add d (beyond_front plan w.floats) (plan.limit + 1 + 3 * plan.n)
              ∙ drop-drop (plan.limit + 1 + 3 * plan.n) a w.floats;
        }

    pub keeps_once : InRange plan w.stand → Keeps plan w (once plan words w)
    unfolding once
    keeps_once h =
        let f = step_fine (front_of plan w.floats) w.stand h in
        record {
          floats = floats_given_lem w.stand (step_on plan words (front_of plan w.floats) w.stand).gives w.floats _ f.gives front_kept;
          path = path_given_lem w.stand (step_on plan words (front_of plan w.floats) w.stand).gives w.path f.gives;
        }

    pub in_once : InRange plan w.stand → InRange plan (once plan words w).stand
    unfolding once
    in_once h = (step_fine (front_of plan w.floats) w.stand h).stand
