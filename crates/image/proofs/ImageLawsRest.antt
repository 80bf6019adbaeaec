-- Whatever the record and the buffers hold: a call keeps the lengths of floats and path, all that lies past the places used, and every word. Within the ranges that a call checks, so do passes in a row and the way to a place.
-- Assumes nothing.
use Prim.Native.Nat.{ℕ, zero, suc, ◌+◌, ◌-◌, ◌*◌, ◌≤◌}
use Rattle.std.specs.Prelude.{◌≡◌, Bool, not, ◌&&◌, List, [], ◌∷◌, eqb, ltb, Float, Option, Some, None}
use Rattle.std.proofs.Math.Path.{refl, subst}
use Rattle.std.proofs.Common.{sym, leb-true, eqb-true}
use Rattle.std.proofs.Math.Bool.{true, false}
use Rattle.std.proofs.lemmas.Bool.{false≢true, eqb-false, not-true}
use native.Mathlib.Omega.{arith}
use Rattle.std.proofs.Math.Dec.{leb}
use Rattle.std.proofs.Math.ListN.{length, length-replicate}
use Rattle.binary64.specs.Constants.{plus_zero}
use Rattle.binary64.specs.Number.{pick}
use Rattle.binary64.specs.Root.{root}
use Rattle.stretch.specs.Stretch.{part, splice}
use Rattle.stretch.specs.StretchLaws.{length_part}
use Rattle.pde.specs.Path.{point_floats}
use Rattle.sparse.specs.Stored.{matrix}
use Rattle.sparse.specs.ProductLaws.{length-rows_of}
use Rattle.model.specs.Sized.{Vectors}
use Rattle.model.specs.SolvedPlace.{solved_at}
use Rattle.model.proofs.SizeLaws.{begun_vectors}
use Rattle.model.specs.Machine.{Call, advance, back, mark, return}
use Rattle.work.specs.declared.Plan.{Plan}
use Rattle.work.specs.declared.Kept.{Kept}
use Rattle.work.specs.declared.Origin.{Origin}
use Rattle.work.specs.declared.Run.{Run}
use Rattle.work.specs.Layout.{at_right, at_x, at_r, at_p, at_product, at_kept, at_gradients, at_norms, matrix_at}
use Rattle.work.specs.Memory.{Work, once, goes, from_mark, origin_of, path_erased, begun_again, to_started, to_solved, to_kept, to_zero, from_origin, seek, kept_floats}
use Rattle.work.specs.StartedLaws.{started_stand, started_path}
use Rattle.image.specs.Accepted.{Accepted}
use Rattle.image.proofs.AcceptedLaws.{accepted, then_none}
use Rattle.image.specs.Calls.{Buffers, buffers, held_fault, work_of, gone, late_fault, fault, buffers_after}
use Rattle.image.specs.CallLaws.{and_true}
use Rattle.image.proofs.ImageLawsSegments.{zeros}
use Rattle.image.proofs.ImageLawsKeeps.{Kept-from, same, kept_splice, then_splice, part_short, used_by, Keeps, keeps_none, keeps_both, InRange, norms_most, keeps_once, in_once}

-- kept, and in range again
pub record Moves (plan : Plan) (w w' : Work) : Type 0 where
  pub keeps : Keeps plan w w'
  pub within : InRange plan w'.stand

moves_both : {plan : Plan} {w w' w'' : Work} → Moves plan w w' → Moves plan w' w'' → Moves plan w w''
moves_both a b = record { keeps = keeps_both a.keeps b.keeps; within = b.within }

module _ (plan : Plan) (words : List ℕ) (room : 1 ≤ plan.room) where
  abbrev n : ℕ
  n = plan.n

  abbrev t : ℕ
  t = plan.t

  -- ---- passes in a row

  once_moves : (w : Work) → used_by plan ≤ length w.floats → InRange plan w.stand → Moves plan w (once plan words w)
  once_moves w f h = record { keeps = keeps_once plan words room w (omega arith) h; within = in_once plan words room w (omega arith) h }

  pub goes_moves : (w : Work) → used_by plan ≤ length w.floats → InRange plan w.stand → (k : ℕ) → Moves plan w (goes plan words k w)
  unfolding goes
  goes_moves w f h zero = record { keeps = keeps_none plan w; within = h }
  goes_moves w f h (suc k) =
      let a : Moves plan w (goes plan words k w) = goes_moves w f h k in
      moves_both a (once_moves (goes plan words k w) (omega (arith, a.keeps.floats.long)) a.within)

  -- ---- back to an earlier place

  module _ (w : Work) (fits : used_by plan ≤ length w.floats) (h : InRange plan w.stand) where
    path_kept : Kept-from (point_floats * plan.room) w.path (path_erased w.stand w.path)
    path_kept = kept_splice (point_floats * plan.room) w.path 0 (zeros (point_floats * w.stand.walk.points)) (omega (arith, h.points, length-replicate (point_floats * w.stand.walk.points) plus_zero))

    solved_moves : Moves plan w (to_solved plan w)
    unfolding to_solved
    solved_moves = record {
      keeps = record { floats = kept_splice (used_by plan) w.floats (at_gradients n t) (zeros (2 * t)) (omega (arith, length-replicate (2 * t) plus_zero)); path = path_kept };
      within = record { norms = h.norms; points = omega arith };
    }

    -- path and stand are those of the start pass from there
    started_moves : (w.stand.end ≡ 0 → ⊥) → Moves plan w (to_started plan words w)
    unfolding to_started
    started_moves n =
        let o = once plan words (to_solved plan w) in
        let a : Moves plan w o = moves_both solved_moves (once_moves (to_solved plan w) (omega (arith, solved_moves.keeps.floats.long)) solved_moves.within) in
        record {
          keeps = record { floats = same (used_by plan) w.floats; path = subst (Kept-from (point_floats * plan.room) w.path) (sym (started_path plan words w n)) a.keeps.path };
          within = subst (InRange plan) (sym (started_stand plan words w n)) a.within;
        }

    kept_moves : (k : Kept) → k.norms ≤ plan.limit → Moves plan w (to_kept plan k w)
    unfolding to_kept
    kept_moves k e =
        let most : w.stand.norms ≤ plan.limit + 1 = norms_most plan w.stand h in
        let vectors = part w.floats (at_kept n t plan.limit) (3 * n) in
        let short : length vectors ≤ 3 * n = part_short w.floats (at_kept n t plan.limit) (3 * n) in
        let a : Kept-from (used_by plan) w.floats (splice w.floats (at_x n t) vectors) = kept_splice (used_by plan) w.floats (at_x n t) vectors (omega arith) in
        let b : Kept-from (used_by plan) w.floats (splice (splice w.floats (at_x n t) vectors) (at_gradients n t) (zeros (2 * t))) =
        then_splice a (at_gradients n t) (zeros (2 * t)) (omega (arith, length-replicate (2 * t) plus_zero)) in
        record {
          keeps = record {
            floats = then_splice b (at_norms n t + k.norms) (zeros (w.stand.norms - k.norms)) (omega (arith, length-replicate (w.stand.norms - k.norms) plus_zero));
            path = path_kept;
          };
          within = record { norms = omega arith; points = omega arith };
        }

    first_norm : (b : Bool) → eqb plan.limit 0 ≡ b → 1 ≤ plan.limit + pick (eqb (pick {A = ℕ} b 3 0) 0) 0 1
    first_norm true e = omega arith
    first_norm false e = positive plan.limit e
      where
        positive : (k : ℕ) → eqb k 0 ≡ false → 1 ≤ k + 0
        positive zero y = absurd (false≢true (sym y))
        positive (suc k) y = omega arith

    zero_moves : Moves plan w (to_zero plan words w)
    unfolding to_zero
    zero_moves =
        let s = begun_again plan words w.floats in
        let v : Vectors n s =
        begun_vectors (matrix words w.floats (matrix_at n t)) (part w.floats (at_right n t) n) n (length-rows_of words w.floats (matrix_at n t) n) (length_part w.floats (at_right n t) n (omega arith)) in
        let m0 = w.floats in
        let m1 = splice m0 (at_x n t) s.x in
        let m2 = splice m1 (at_r n t) s.r in
        let m3 = splice m2 (at_p n t) s.p in
        let m4 = splice m3 (at_product n t) (zeros n) in
        let m5 = splice m4 (at_gradients n t) (zeros (2 * t)) in
        let m6 = splice m5 (at_norms n t + 0) (zeros (w.stand.norms - 0)) in
        let most : w.stand.norms ≤ plan.limit + 1 = norms_most plan w.stand h in
        let a1 : Kept-from (used_by plan) m0 m1 = kept_splice (used_by plan) m0 (at_x n t) s.x (omega (arith, v.x)) in
        let a2 : Kept-from (used_by plan) m0 m2 = then_splice a1 (at_r n t) s.r (omega (arith, v.r)) in
        let a3 : Kept-from (used_by plan) m0 m3 = then_splice a2 (at_p n t) s.p (omega (arith, v.p)) in
        let a4 : Kept-from (used_by plan) m0 m4 = then_splice a3 (at_product n t) (zeros n) (omega (arith, length-replicate n plus_zero)) in
        let a5 : Kept-from (used_by plan) m0 m5 = then_splice a4 (at_gradients n t) (zeros (2 * t)) (omega (arith, length-replicate (2 * t) plus_zero)) in
        let a6 : Kept-from (used_by plan) m0 m6 = then_splice a5 (at_norms n t + 0) (zeros (w.stand.norms - 0)) (omega (arith, length-replicate (w.stand.norms - 0) plus_zero)) in
        record {
          keeps = record { floats = then_splice a6 (at_norms n t) (root s.rs ∷ []) (omega arith); path = path_kept };
          within = record { norms = first_norm (eqb plan.limit 0) refl; points = omega arith };
        }

    -- ---- the place sought

    mark_moves : (m : Option Kept) (target : ℕ) → Moves plan w (from_origin plan words (from_mark plan.limit m target) w)
    mark_moves None target = zero_moves
    mark_moves (Some k) target = go (leb k.place target && leb k.norms plan.limit) refl
      where
        go : (b : Bool) → (leb k.place target && leb k.norms plan.limit) ≡ b → Moves plan w (from_origin plan words (pick b (Origin.Kept k) Origin.Zero) w)
        go true e = kept_moves k (leb-true k.norms plan.limit (and_true (leb k.place target) (leb k.norms plan.limit) e).1)
        go false e = zero_moves

    abbrev solved_place_of : ℕ
    solved_place_of = solved_at w.stand.norms w.stand.end

    ended_moves : (b : Bool) → (w.stand.end ≡ 0 → ⊥) → Moves plan w (from_origin plan words (pick b Origin.Started Origin.Solved) w)
    ended_moves true n = started_moves n
    ended_moves false n = solved_moves

    any_moves : (m : Option Kept) (target : ℕ) (a b : Bool) → (not (eqb w.stand.end 0) && leb solved_place_of target) ≡ b
        → Moves plan w (from_origin plan words (pick a Origin.Here (pick b (pick (ltb solved_place_of target) Origin.Started Origin.Solved) (from_mark plan.limit m target))) w)
    any_moves m target true b e = record { keeps = keeps_none plan w; within = h }
    any_moves m target false true e =
        ended_moves (ltb solved_place_of target) (eqb-false w.stand.end 0 (not-true (eqb w.stand.end 0) (and_true (not (eqb w.stand.end 0)) (leb solved_place_of target) e).0))
    any_moves m target false false e = mark_moves m target

    origin_moves : (m : Option Kept) (target : ℕ) → Moves plan w (from_origin plan words (origin_of plan.limit w.stand m target) w)
    unfolding origin_of
    origin_moves m target = any_moves m target (leb w.stand.place target) (not (eqb w.stand.end 0) && leb (solved_at w.stand.norms w.stand.end) target) refl

    pub seek_moves : (m : Option Kept) (target : ℕ) → Moves plan w (seek plan words m target w)
    unfolding seek
    seek_moves m target =
        let o = from_origin plan words (origin_of plan.limit w.stand m target) w in
        let a : Moves plan w o = origin_moves m target in
        moves_both a (goes_moves o (omega (arith, a.keeps.floats.long)) a.within (target - o.stand.place))

  -- ---- a mark

  pub mark_keeps : (floats : List Float) → Kept-from (used_by plan) floats (kept_floats plan floats)
  unfolding kept_floats
  mark_keeps floats = kept_splice (used_by plan) floats (at_kept n t plan.limit) (part floats (at_x n t) (3 * n)) (omega (arith, part_short floats (at_x n t) (3 * n)))

-- ---- a call

ranged : (r : Run) (b : Buffers) → Accepted r b → InRange r.plan r.stand
ranged r b h = record { norms = h.standing.norms_most; points = h.standing.points_most }

module _ (r : Run) (b : Buffers) where
  pub gone_keeps : (c : Call) → Accepted r b → Keeps r.plan (work_of r b) (gone c r b)
  unfolding gone
  gone_keeps (advance k) h = (seek_moves r.plan b.words h.ready.room_least (work_of r b) (omega (arith, h.roomy.floats_fit)) (ranged r b h) r.mark _).keeps
  gone_keeps (back k) h = (seek_moves r.plan b.words h.ready.room_least (work_of r b) (omega (arith, h.roomy.floats_fit)) (ranged r b h) r.mark _).keeps
  gone_keeps mark h = record { floats = mark_keeps r.plan b.words h.ready.room_least b.floats; path = same (point_floats * r.plan.room) b.path }
  gone_keeps return h = (seek_moves r.plan b.words h.ready.room_least (work_of r b) (omega (arith, h.roomy.floats_fit)) (ranged r b h) r.mark _).keeps

  -- what any call keeps
  pub record KeptBy (b' : Buffers) : Type 0 where
    pub floats : Kept-from (used_by r.plan) b.floats b'.floats
    pub words : b'.words ≡ b.words
    pub path : Kept-from (point_floats * r.plan.room) b.path b'.path

  by_fault : (c : Call) (t : Bool) → eqb (fault c r b) 0 ≡ t → KeptBy (pick t (buffers (gone c r b).floats b.words (gone c r b).path) b)
  unfolding fault
  by_fault c true e =
      let k : Keeps r.plan (work_of r b) (gone c r b) = gone_keeps c (accepted r b (then_none (held_fault r b) (late_fault c r b) (eqb-true (fault c r b) 0 e)).0) in
      record { floats = k.floats; words = refl; path = k.path }
  by_fault c false e = record { floats = same (used_by r.plan) b.floats; words = refl; path = same (point_floats * r.plan.room) b.path }

  pub keeps_call : (c : Call) → KeptBy (buffers_after c r b)
  unfolding buffers_after
  keeps_call c = by_fault c (eqb (fault c r b) 0) refl
