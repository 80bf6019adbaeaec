-- Document 01's counter machine: place, mark and passes, fed which call, its arguments and how much space it is lent. Definitions only. Assumes nothing.
use Rattle.std.specs.Prelude.{ℕ, ◌+◌, ◌-◌, min, ◌||◌, List, [], ◌∷◌, ◌++◌, ltb, eqb, Option, Some, None}
use Rattle.binary64.specs.Number.{pick}
use Rattle.model.specs.Task.{Task, vertex_count, triangle_count}
use Rattle.model.specs.Space.{float_space, word_space, path_space}

pub data Call : Type 0 where
  advance : ℕ → Call
  back : ℕ → Call
  mark : Call
  return : Call

-- how many places of each buffer a call is lent, or needs
pub record Space : Type 0 where
  pub floats : ℕ
  pub words : ℕ
  pub path : ℕ

pub record Counter : Type 0 where
  pub place : ℕ
  pub mark : Option ℕ
  pub passes : ℕ

abbrev pub fresh : Counter
fresh = record { place = 0; mark = None; passes = 0 }

-- 2^64 − 1
abbrev pub most : ℕ
most = 18446744073709551615

unfoldable pub needs : Task → Space
needs c = record {
  floats = float_space (vertex_count c) (triangle_count c) c.limit;
  words = word_space (vertex_count c) (triangle_count c);
  path = path_space c.room;
}

abbrev pub short : Space → Space → ℕ
short need lent = pick (ltb lent.floats need.floats || (ltb lent.words need.words || ltb lent.path need.path)) 8 0

-- where an advance by k comes from a place
abbrev pub ahead : ℕ → ℕ → ℕ → ℕ
ahead last k place = min (place + k) last

abbrev pub no_mark : Option ℕ → ℕ
no_mark None = 9
no_mark (Some p) = 0

-- of a call that is lent enough: 10 for an advance that would carry passes too far, 9 for a return with no mark
abbrev pub late : ℕ → Call → Counter → ℕ
late last (advance k) s = pick (ltb most (s.passes + (ahead last k s.place - s.place))) 10 0
late last (back k) s = 0
late last mark s = 0
late last return s = no_mark s.mark

unfoldable pub refused : Space → ℕ → Call → Space → Counter → ℕ
refused need last call lent s = pick (eqb (short need lent) 0) (late last call s) (short need lent)

abbrev pub mark_or : Option ℕ → ℕ → ℕ
mark_or None p = p
mark_or (Some q) p = q

abbrev pub moved : ℕ → Call → Counter → Counter
moved last (advance k) s = record { place = ahead last k s.place; mark = s.mark; passes = s.passes + (ahead last k s.place - s.place) }
moved last (back k) s = record { place = s.place - k; mark = s.mark; passes = s.passes }
moved last mark s = record { place = s.place; mark = Some s.place; passes = s.passes }
moved last return s = record { place = mark_or s.mark s.place; mark = s.mark; passes = s.passes }

-- a refused call leaves the state unchanged
unfoldable pub tick : Space → ℕ → Call → Space → Counter → Counter
unfolding refused
tick need last call lent s = pick (eqb (refused need last call lent s) 0) (moved last call s) s

-- ---- a list of calls

-- a call with the space that it is lent
pub record Lent : Type 0 where
  pub call : Call
  pub space : Space

-- the machine after a list of calls, and each call's refusal
pub record Ticked : Type 0 where
  pub counter : Counter
  pub said : List ℕ

-- no call is lent more than there is
abbrev pub within : Space → Space → Space
within all lent = record { floats = min lent.floats all.floats; words = min lent.words all.words; path = min lent.path all.path }

unfoldable pub ticks : Space → Space → ℕ → List Lent → Ticked → Ticked
unfolding tick
ticks need all last [] t = t
ticks need all last (l ∷ ls) t =
    ticks need all last ls (record {
      counter = tick need last l.call (within all l.space) t.counter;
      said = t.said ++ (refused need last l.call (within all l.space) t.counter ∷ []);
    })
