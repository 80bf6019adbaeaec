-- The four calls as total definitions of the record, the arguments and the lent buffers: the refusal's number, the record and the buffers after the call, whatever they hold.
-- The order of refusals is document 01's: 10 for n, T, limit or room; 8; every other 10; 9. Definitions only. Assumes nothing.
use Rattle.std.specs.Prelude.{ℕ, ◌+◌, ◌-◌, ◌*◌, min, Bool, true, ◌&&◌, ◌||◌, not, ◌≡◌, List, [], ◌∷◌, leb, ltb, eqb, length, Float, Option, Some, None, Result, Ok, Err}
use Rattle.refusal.specs.declared.Refusal.{Refusal}
use Rattle.refusal.specs.Refusal.{number_of}
use Rattle.binary64.specs.Number.{pick}
use Rattle.stretch.specs.Stretch.{part}
use Rattle.sparse.specs.Scan.{all_below, rises}
use Rattle.mesh.specs.Mesh.{no_neighbour}
use Rattle.format.specs.Content.{max_vertices, max_triangles, max_limit, max_room}
use Rattle.format.specs.Refusal.{◌then◌}
use Rattle.model.specs.Space.{factor, farthest, float_space, word_space, path_space}
use Rattle.model.specs.Machine.{Call, advance, back, mark, return, most}
use Rattle.work.specs.declared.Plan.{Plan}
use Rattle.work.specs.declared.Stand.{Stand}
use Rattle.work.specs.declared.Run.{Run}
use Rattle.work.specs.Layout.{at_neighbours, at_starts, at_columns}
use Rattle.work.specs.Memory.{Work, work, seek, kept_floats, kept_of}
use Rattle.work.specs.declared.Kept.{Kept}
use Rattle.image.specs.Answer.{Answer}

-- the three lent buffers
pub record Buffers : Type 0 where
  pub floats : List Float
  pub words : List ℕ
  pub path : List Float

abbrev pub buffers : List Float → List ℕ → List Float → Buffers
buffers f w p = record { floats = f; words = w; path = p }

-- a refusal's number, 0 if there is none, with a record
abbrev pub answered : ℕ → Run → Answer
answered k r = record { refused = k; run = r }

-- what an outcome answers: the run that it gives, or its refusal's number with the run from before
abbrev pub answer_of : Run → Result Run Refusal → Answer
answer_of before (Ok r) = answered 0 r
answer_of before (Err e) = answered (number_of e) before

-- ---- what refuses a call

-- 10 unless a test passes, and 8 where one fails
abbrev pub unless10 : Bool → ℕ
unless10 b = pick b 0 10

abbrev pub counts_fault : Plan → ℕ
counts_fault p = unless10 (leb p.n max_vertices && (leb p.t max_triangles && (leb p.limit max_limit && (leb 1 p.room && leb p.room max_room))))

abbrev pub short_fault : Plan → ℕ → ℕ → ℕ → ℕ
short_fault p floats words path =
    pick (ltb floats (float_space p.n p.t p.limit) || (ltb words (word_space p.n p.t) || ltb path (path_space p.room))) 8 0

abbrev pub space_fault : Plan → Buffers → ℕ
space_fault p b = short_fault p (length b.floats) (length b.words) (length b.path)

-- a triangle's number, or 0 where there may be none
abbrev pub triangle_sound : ℕ → ℕ → Bool
triangle_sound count t = eqb t 0 || ltb t count

-- the counts of a place: its number, its norms, both ends, the entry edge, the triangle, the points; while solving a norm more fits, and while crossing there is a triangle and a crossing left
unfoldable pub stand_sound : Plan → Stand → Bool
stand_sound p s =
    leb s.place (farthest p.t p.limit)
    && (leb 1 s.norms && (leb s.norms (p.limit + pick (eqb s.end 0) 0 1)
    && (leb s.end 3 && (leb s.walk.end 9 && (leb s.walk.edge 3 && (triangle_sound p.t s.walk.triangle && (leb s.walk.points p.room
    && (leb s.crossings (factor * p.t)
    && (eqb s.walk.points 0 || (ltb s.walk.triangle p.t && (not (eqb s.walk.end 0) || ltb s.crossings (factor * p.t))))))))))))

unfoldable pub mark_sound : Plan → Option Kept → Bool
mark_sound p None = true
mark_sound p (Some k) = leb k.place (farthest p.t p.limit) && (leb 1 k.norms && leb k.norms (p.limit + 1))

-- every word is −1's or below t
unfoldable pub all_none_or_below : ℕ → List ℕ → Bool
all_none_or_below t [] = true
all_none_or_below t (w ∷ ws) = (eqb w no_neighbour || ltb w t) && all_none_or_below t ws

-- the indices in the words: corners, neighbours, row starts and columns
unfoldable pub words_sound : Plan → List ℕ → Bool
words_sound p ws =
    all_below p.n (part ws 0 (3 * p.t))
    && (all_none_or_below p.t (part ws (at_neighbours p.t) (3 * p.t))
    && (rises (9 * p.t + p.n) (part ws (at_starts p.n p.t) (p.n + 1))
    && all_below p.n (part ws (at_columns p.n p.t) (9 * p.t + p.n))))

-- what refuses any call on this record and these buffers
unfoldable pub held_fault : Run → Buffers → ℕ
held_fault r b =
    counts_fault r.plan then space_fault r.plan b then unless10 (stand_sound r.plan r.stand && (mark_sound r.plan r.mark && words_sound r.plan b.words))

-- ---- where a call leads that is not refused

abbrev pub work_of : Run → Buffers → Work
work_of r b = work b.floats b.path r.stand

abbrev pub sought_at : Run → Buffers → ℕ → Work
sought_at r b target = seek r.plan b.words r.mark target (work_of r b)

abbrev pub mark_place : Option Kept → ℕ → ℕ
mark_place None p = p
mark_place (Some k) p = k.place

unfoldable pub gone : Call → Run → Buffers → Work
gone (advance k) r b = sought_at r b (min (r.stand.place + k) (farthest r.plan.t r.plan.limit))
gone (back k) r b = sought_at r b (r.stand.place - k)
gone mark r b = work (kept_floats r.plan b.floats) b.path r.stand
gone return r b = sought_at r b (mark_place r.mark r.stand.place)

-- an advance that would carry passes too far, a return with no mark
abbrev pub late_fault : Call → Run → Buffers → ℕ
late_fault (advance k) r b = pick (ltb most (r.passes + ((gone (advance k) r b).stand.place - r.stand.place))) 10 0
late_fault (back k) r b = 0
late_fault mark r b = 0
late_fault return r b = no_mark_fault r.mark
  where
    no_mark_fault : Option Kept → ℕ
    no_mark_fault None = 9
    no_mark_fault (Some k) = 0

-- the refusal's number, 0 if there is none
unfoldable pub fault : Call → Run → Buffers → ℕ
unfolding held_fault gone
fault c r b = held_fault r b then late_fault c r b

abbrev pub mark_after : Call → Run → Option Kept
mark_after (advance k) r = r.mark
mark_after (back k) r = r.mark
mark_after mark r = Some (kept_of r.stand)
mark_after return r = r.mark

abbrev pub passes_after : Call → Run → Work → ℕ
passes_after (advance k) r w = r.passes + (w.stand.place - r.stand.place)
passes_after (back k) r w = r.passes
passes_after mark r w = r.passes
passes_after return r w = r.passes

unfoldable pub next_run : Call → Run → Buffers → Run
unfolding gone
next_run c r b = record { plan = r.plan; stand = (gone c r b).stand; mark = mark_after c r; passes = passes_after c r (gone c r b) }

-- ---- the call, whatever the record and the buffers

unfoldable pub run_after : Call → Run → Buffers → Run
unfolding fault next_run
run_after c r b = pick (eqb (fault c r b) 0) (next_run c r b) r

unfoldable pub buffers_after : Call → Run → Buffers → Buffers
unfolding fault gone
buffers_after c r b = pick (eqb (fault c r b) 0) (buffers (gone c r b).floats b.words (gone c r b).path) b

-- what each call ensures
pub record Does (c : Call) (r : Run) (b : Buffers) (a : Answer) (b' : Buffers) : Type 0 where
  pub said : a.refused ≡ fault c r b
  pub left : a.run ≡ run_after c r b
  pub held : b' ≡ buffers_after c r b
