-- Laws of the four calls for every record and all buffers, altered ones too: what a refused call leaves, and when the record and the buffers refuse nothing.
-- Assumes nothing.
use Rattle.std.specs.Prelude.{◌≤◌, ◌≡◌, Bool, ◌&&◌, ◌||◌, List, [], leb, ltb, eqb, length, Float}
use Rattle.std.proofs.Math.Path.{refl}
use Rattle.std.proofs.Common.{sym, ap, le-leb, ltb-false, ne_eqb}
use Rattle.std.proofs.Math.Bool.{true, false}
use Rattle.std.proofs.lemmas.Bool.{false≢true}
use Rattle.stretch.specs.Stretch.{part}
use Rattle.binary64.specs.Number.{pick}
use Rattle.format.specs.Content.{max_vertices, max_triangles, max_limit, max_room}
use Rattle.model.specs.Space.{float_space, word_space, path_space}
use Rattle.model.specs.Machine.{Call, Space}
use Rattle.work.specs.declared.Plan.{Plan}
use Rattle.work.specs.declared.Run.{Run}
use Rattle.work.specs.Record.{no_run}
use Rattle.image.specs.Calls.{Buffers, buffers, unless10, counts_fault, stand_sound, mark_sound, words_sound, held_fault, gone, fault, run_after, buffers_after}
use Rattle.image.specs.Parts.{within, field_of, norms_of, gradients_of}
use Rattle.image.specs.Points.{points_of}
use Rattle.image.specs.Shown.{lengths_of}

-- ---- what a call leaves

module _ (c : Call) (r : Run) (b : Buffers) where
  -- A refused call leaves the record and every lent place as they were.
  pub refused_unchanged : (fault c r b ≡ 0 → ⊥) → (run_after c r b ≡ r) × (buffers_after c r b ≡ b)
  unfolding run_after buffers_after
  refused_unchanged n = (rw (ne_eqb (fault c r b) 0 n), rw (ne_eqb (fault c r b) 0 n))

  -- No call changes a word.
  pub words_unchanged : (buffers_after c r b).words ≡ b.words
  unfolding buffers_after
  words_unchanged = go (eqb (fault c r b) 0)
    where
      go : (t : Bool) → (pick t (buffers (gone c r b).floats b.words (gone c r b).path) b).words ≡ b.words
      go true = refl
      go false = refl

-- Every call on no run is refused.
pub none_refused : (c : Call) (b : Buffers) → fault c no_run b ≡ 10
unfolding fault held_fault no_run
none_refused c b = refl

-- It shows nothing, whatever it is lent.
pub none_shown : (floats path : List Float) → (field_of no_run floats ≡ []) × (norms_of no_run floats ≡ []) × (gradients_of no_run floats ≡ []) × (points_of no_run path ≡ [])
unfolding field_of norms_of gradients_of points_of within no_run part
none_shown floats path = (either (leb 0 (length floats)), either (leb 0 (length floats)), either (leb 0 (length floats)), either (leb 0 (length path)))
  where
    either : (t : Bool) → pick {A = List Float} t [] [] ≡ []
    either true = refl
    either false = refl

-- ---- tests

pub and_true : (a b : Bool) → (a && b) ≡ true → (a ≡ true) × (b ≡ true)
and_true true b e = (refl, e)
and_true false b e = absurd (false≢true e)

pub both : (x y : Bool) → x ≡ true → y ≡ true → (x && y) ≡ true
both x y e f = rw (e, f)

neither : (x y : Bool) → (x || y) ≡ false → (x ≡ false) × (y ≡ false)
neither true y e = absurd (false≢true (sym e))
neither false y e = (refl, e)

-- ---- when nothing refuses

-- counts in document 01's ranges
pub record Counted (p : Plan) : Type 0 where
  pub vertices : p.n ≤ max_vertices
  pub triangles : p.t ≤ max_triangles
  pub limit : p.limit ≤ max_limit
  pub least : 1 ≤ p.room
  pub room : p.room ≤ max_room

pub counts_fine : (p : Plan) → Counted p → counts_fault p ≡ 0
counts_fine p h =
    ap unless10
    (both _ _ (le-leb _ _ h.vertices) (both _ _ (le-leb _ _ h.triangles) (both _ _ (le-leb _ _ h.limit) (both _ _ (le-leb _ _ h.least) (le-leb _ _ h.room)))))

-- of two spaces: no buffer of the second is shorter
pub record Enough (need lent : Space) : Type 0 where
  pub floats : need.floats ≤ lent.floats
  pub words : need.words ≤ lent.words
  pub path : need.path ≤ lent.path

abbrev pub lacking : Space → Space → Bool
lacking need lent = ltb lent.floats need.floats || (ltb lent.words need.words || ltb lent.path need.path)

pub lacking_none : (need lent : Space) → lacking need lent ≡ false → Enough need lent
lacking_none need lent e =
    let a : _ = neither (ltb lent.floats need.floats) _ e in
    let b : _ = neither (ltb lent.words need.words) _ a.1 in
    record { floats = ltb-false _ _ a.0; words = ltb-false _ _ b.0; path = ltb-false _ _ b.1 }

-- the space that a record asks for
abbrev pub asked : Plan → Space
asked p = record { floats = float_space p.n p.t p.limit; words = word_space p.n p.t; path = path_space p.room }

module _ (r : Run) (b : Buffers) (counted : Counted r.plan) where
  -- too little space is refused by 8
  pub held-short : lacking (asked r.plan) (lengths_of b) ≡ true → held_fault r b ≡ 8
  unfolding held_fault
  held-short e = rw (counts_fine r.plan counted, e)

  pub held_fine : lacking (asked r.plan) (lengths_of b) ≡ false → stand_sound r.plan r.stand ≡ true → mark_sound r.plan r.mark ≡ true → words_sound r.plan b.words ≡ true
      → held_fault r b ≡ 0
  unfolding held_fault
  held_fine e s m w = rw (counts_fine r.plan counted, e, s, m, w)
