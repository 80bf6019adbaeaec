-- Whose record and buffers no call is refused on for what they hold: what is known of them (`Accepted`), by what the tests of a call say. Assumes nothing.
use Rattle.std.specs.Prelude.{ℕ, zero, suc, ◌+◌, ◌*◌, ◌≤◌, ◌<◌, ◌≡◌, refl, ◌⊎◌, Bool, true, false, ◌&&◌, ◌||◌, not, List, [], ◌∷◌, leb, ltb, eqb, get_or, Option, Some, None}
use Rattle.std.proofs.Common.{inl, inr, arith}
use Rattle.std.proofs.Math.ListN.{length}
use borrow.Author.Tests.{ltb-true, leb-true, eqb-true, eq-eqb}
use Rattle.binary64.specs.Number.{pick}
use Rattle.stretch.specs.Stretch.{part}
use Rattle.stretch.specs.StretchLaws.{length_part, get_d_part}
use Rattle.sparse.specs.Scan.{all_below, rises}
use Rattle.sparse.specs.ScanLaws.{below_of, sound_of}
use Rattle.mesh.specs.Mesh.{no_neighbour}
use Rattle.mesh.specs.Work.{Linked, Below, triangles_of, neighbours_of}
use Rattle.format.specs.Refusal.{◌then◌}
use Rattle.model.specs.Space.{factor, farthest, word_space}
use Rattle.work.specs.declared.Plan.{Plan}
use Rattle.work.specs.declared.Stand.{Stand}
use Rattle.work.specs.declared.Run.{Run}
use Rattle.work.specs.Layout.{at_neighbours, at_starts, at_columns, matrix_at, mesh_at}
use Rattle.work.specs.Ready.{Ready, Standing, MarkKeeping}
use Rattle.image.specs.Calls.{Buffers, unless10, counts_fault, space_fault, triangle_sound, stand_sound, mark_sound, all_none_or_below, words_sound, held_fault}
use Rattle.image.specs.CallLaws.{and_true, Counted, Enough, asked, lacking, lacking_none}
use Rattle.image.specs.Shown.{lengths_of}
use Rattle.image.specs.Accepted.{PlaceIn, MarkIn, EndsIn, TriangleIn, Accepted}
use Rattle.work.specs.declared.Kept.{Kept}

-- ---- tests

or_true : (a b : Bool) → (a || b) ≡ true → (a ≡ true) ⊎ (b ≡ true)
or_true true b e = inl refl
or_true false b e = inr e

-- ---- one refusal after another

pub then_first : (j k : ℕ) → (j ≡ 0 → ⊥) → (j then k) ≡ j
then_first zero k h = absurd (h refl)
then_first (suc j) k h = refl

pub then_second : (j k : ℕ) → j ≡ 0 → (j then k) ≡ k
then_second zero k h = refl
then_second (suc j) k h = absurd (omega arith)

pub then_none : (j k : ℕ) → (j then k) ≡ 0 → (j ≡ 0) × (k ≡ 0)
then_none zero k h = (refl, h)
then_none (suc j) k h = absurd (omega arith)

unless_none : (b : Bool) → unless10 b ≡ 0 → b ≡ true
unless_none true h = refl
unless_none false h = absurd (omega arith)

-- ---- the plan's counts

pub counted : (p : Plan) → counts_fault p ≡ 0 → Counted p
counted p h =
    let a = and_true _ _ (unless_none _ h) in
    let b = and_true _ _ a.1 in
    let c = and_true _ _ b.1 in
    let d = and_true _ _ c.1 in
    record {
      vertices = leb-true _ _ a.0;
      triangles = leb-true _ _ b.0;
      limit = leb-true _ _ c.0;
      least = leb-true _ _ d.0;
      room = leb-true _ _ d.1;
    }

-- ---- the space

pub pick_eight : (b : Bool) → pick {A = ℕ} b 8 0 ≡ 0 → b ≡ false
pick_eight true h = absurd (omega arith)
pick_eight false h = refl

pub enough : (p : Plan) (b : Buffers) → space_fault p b ≡ 0 → Enough (asked p) (lengths_of b)
enough p b h = lacking_none (asked p) (lengths_of b) (pick_eight (lacking (asked p) (lengths_of b)) h)

named_in : (p : Plan) (k : ℕ) → triangle_sound p.t k ≡ true → TriangleIn p k
named_in p k h = by (or_true (eqb k 0) (ltb k p.t) h)
  where
    by : (eqb k 0 ≡ true) ⊎ (ltb k p.t ≡ true) → TriangleIn p k
    by (inl x) = inl (eqb-true k 0 x)
    by (inr x) = inr (ltb-true k p.t x)

module _ (p : Plan) (s : Stand) where
  abbrev left : Bool
  left = not (eqb s.walk.end 0) || ltb s.crossings (factor * p.t)

  abbrev within : Bool
  within = ltb s.walk.triangle p.t && left

  abbrev walking : Bool
  walking = leb s.walk.points p.room && (leb s.crossings (factor * p.t) && (eqb s.walk.points 0 || within))

  abbrev named : Bool
  named = triangle_sound p.t s.walk.triangle

  abbrev ends : Bool
  ends = leb s.end 3 && (leb s.walk.end 9 && (leb s.walk.edge 3 && (named && walking)))

  abbrev norms : Bool
  norms = leb s.norms (p.limit + pick (eqb s.end 0) 0 1)

  on_path : (eqb s.walk.points 0 || within) ≡ true → 0 < s.walk.points → within ≡ true
  on_path e k = by (or_true (eqb s.walk.points 0) within e)
    where
      by : (eqb s.walk.points 0 ≡ true) ⊎ (within ≡ true) → within ≡ true
      by (inl x) = absurd (omega (arith, eqb-true s.walk.points 0 x))
      by (inr x) = x

  one_left : left ≡ true → s.walk.end ≡ 0 → s.crossings < factor * p.t
  one_left e z = ltb-true s.crossings (factor * p.t) (rw (eq-eqb s.walk.end 0 z) at e)

  pub standing : stand_sound p s ≡ true → PlaceIn p s.place × Standing p s × TriangleIn p s.walk.triangle × EndsIn p s
  unfolding stand_sound
  standing h =
      let a = and_true (leb s.place (farthest p.t p.limit)) (leb 1 s.norms && (norms && ends)) h in
      let b = and_true (leb 1 s.norms) (norms && ends) a.1 in
      let c = and_true norms ends b.1 in
      let d = and_true (leb s.end 3) (leb s.walk.end 9 && (leb s.walk.edge 3 && (named && walking))) c.1 in
      let e = and_true (leb s.walk.end 9) (leb s.walk.edge 3 && (named && walking)) d.1 in
      let f = and_true (leb s.walk.edge 3) (named && walking) e.1 in
      let n = and_true named walking f.1 in
      let g = and_true (leb s.walk.points p.room) (leb s.crossings (factor * p.t) && (eqb s.walk.points 0 || within)) n.1 in
      let i = and_true (leb s.crossings (factor * p.t)) (eqb s.walk.points 0 || within) g.1 in (
        leb-true s.place (farthest p.t p.limit) a.0,
        record {
          norms_least = leb-true 1 s.norms b.0;
          norms_most = leb-true s.norms (p.limit + pick (eqb s.end 0) 0 1) c.0;
          points_most = leb-true s.walk.points p.room g.0;
          triangle_in = λ k. ltb-true s.walk.triangle p.t (and_true (ltb s.walk.triangle p.t) left (on_path i.1 k)).0;
          edge_in = leb-true s.walk.edge 3 f.0;
          crossings_left = λ z k. one_left (and_true (ltb s.walk.triangle p.t) left (on_path i.1 k)).1 z;
        },
        named_in p s.walk.triangle n.0,
        record {
          field_end = leb-true s.end 3 d.0;
          path_end_lem = leb-true s.walk.end 9 e.0;
          crossings_most = leb-true s.crossings (factor * p.t) i.0;
        },
      )

pub keeping : (p : Plan) (m : Option Kept) → mark_sound p m ≡ true → MarkIn p m × MarkKeeping p m
unfolding mark_sound
keeping p None h = (tt, tt)
keeping p (Some k) h =
    let a = and_true (leb k.place (farthest p.t p.limit)) (leb 1 k.norms && leb k.norms (p.limit + 1)) h in
    let b = and_true (leb 1 k.norms) (leb k.norms (p.limit + 1)) a.1 in
    let least = leb-true 1 k.norms b.0 in
    ((leb-true k.place (farthest p.t p.limit) a.0, least, leb-true k.norms (p.limit + 1) b.1), record { least = least })

-- ---- the indices in the words

none_or_below_at : (t : ℕ) (l : List ℕ) → all_none_or_below t l ≡ true → (k : ℕ) → k < length l → (get_or l k 0 ≡ no_neighbour) ⊎ (get_or l k 0 < t)
unfolding all_none_or_below
none_or_below_at t [] e k j = absurd (omega arith)
none_or_below_at t (w ∷ ws) e zero j = by (or_true (eqb w no_neighbour) (ltb w t) (and_true (eqb w no_neighbour || ltb w t) (all_none_or_below t ws) e).0)
  where
    by : (eqb w no_neighbour ≡ true) ⊎ (ltb w t ≡ true) → (w ≡ no_neighbour) ⊎ (w < t)
    by (inl x) = inl (eqb-true w no_neighbour x)
    by (inr x) = inr (ltb-true w t x)
none_or_below_at t (w ∷ ws) e (suc k) j = none_or_below_at t ws (and_true (eqb w no_neighbour || ltb w t) (all_none_or_below t ws) e).1 k (omega arith)

module _ (p : Plan) (ws : List ℕ) (counts : Counted p) (fits : word_space p.n p.t ≤ length ws) (sound : words_sound p ws ≡ true) where
  abbrev n : ℕ
  n = p.n

  abbrev t : ℕ
  t = p.t

  abbrev rising : Bool
  rising = rises (9 * t + n) (part ws (at_starts n t) (n + 1))

  abbrev columns : Bool
  columns = all_below n (part ws (at_columns n t) (9 * t + n))

  -- corners, neighbours, row starts and columns
  parted : (all_below n (part ws 0 (3 * t)) ≡ true) × (all_none_or_below t (part ws (at_neighbours t) (3 * t)) ≡ true) × (rising ≡ true) × (columns ≡ true)
  unfolding words_sound
  parted =
      let a = and_true (all_below n (part ws 0 (3 * t))) (all_none_or_below t (part ws (at_neighbours t) (3 * t)) && (rising && columns)) sound in
      let b = and_true (all_none_or_below t (part ws (at_neighbours t) (3 * t))) (rising && columns) a.1 in
      let c = and_true rising columns b.1 in
      (a.0, b.0, c.0, c.1)

  corners_below : Below n (triangles_of ws (mesh_at n t))
  unfolding triangles_of
  corners_below =
      let l : length (part ws 0 (3 * t)) ≡ 3 * t = length_part ws 0 (3 * t) (omega arith) in
      record { at = λ k j. rw (get_d_part ws 0 (3 * t) k 0 (omega arith)) ((below_of ws 0 n (3 * t) (omega arith) parted.0).at k (omega arith)) }

  pub linked : Linked ws (mesh_at n t)
  unfolding neighbours_of
  linked = record {
    n_most = counts.vertices;
    t_most = counts.triangles;
    triangles_fit = omega arith;
    neighbours_fit = omega arith;
    tags_fit = omega arith;
    corners = corners_below;
    neighbours = record { at = none_or_below_at t (part ws (at_neighbours t) (3 * t)) parted.1 };
  }

  pub ready : Ready p ws
  ready = record {
    n_most = counts.vertices;
    t_most = counts.triangles;
    limit-most = counts.limit;
    room_least = counts.least;
    room_most = counts.room;
    sound = sound_of ws (matrix_at n t) (omega arith) (omega arith) parted.2 parted.3;
    linked = linked;
  }

-- ---- all of it

pub accepted : (r : Run) (b : Buffers) → held_fault r b ≡ 0 → Accepted r b
unfolding held_fault
accepted r b h =
    let stand = stand_sound r.plan r.stand in
    let mark = mark_sound r.plan r.mark in
    let words = words_sound r.plan b.words in
    let one = then_none (counts_fault r.plan) (space_fault r.plan b then unless10 (stand && (mark && words))) h in
    let two = then_none (space_fault r.plan b) (unless10 (stand && (mark && words))) one.1 in
    let s = and_true stand (mark && words) (unless_none (stand && (mark && words)) two.1) in
    let m = and_true mark words s.1 in
    let count = counted r.plan one.0 in
    let space = enough r.plan b two.0 in
    let here = standing r.plan r.stand s.0 in
    let kept = keeping r.plan r.mark m.0 in
    record {
      ready = ready r.plan b.words count space.words m.1;
      standing = here.1;
      place_in = here.0;
      triangle_in = here.2;
      ends_in = here.3;
      roomy = record { floats_fit = space.floats; path_fit = space.path };
      keeping = kept.1;
      mark_in = kept.0;
    }
