-- The record of a run as two lists of numbers, which C's callers hold: 17 whole numbers and 8 reals. Definitions only. Assumes nothing.
-- Whole numbers: 0 n, 1 T, 2 limit, 3 room, 4 whether a start is given, 5 place, 6 norms, 7 field end, 8 triangle, 9 edge, 10 points, 11 path end, 12 crossings, 13 whether there is a mark, 14 its place, 15 its norms, 16 passes.
-- Reals: 0 tolerance, 1 step, 2 and 3 the start, 4 r·r, 5 and 6 the position, 7 the mark's r·r.
use Rattle.std.specs.Prelude.{ℕ, zero, suc, Bool, ◌&&◌, List, get_or, set, length, Float, leb, ◌≡◌, true, Option, Some, None}
use Rattle.binary64.specs.Constants.{plus_zero}
use Rattle.plane.specs.Plane.{point}
use Rattle.pde.specs.declared.Walk.{Walk}
use Rattle.work.specs.declared.Plan.{Plan}
use Rattle.work.specs.declared.Stand.{Stand}
use Rattle.work.specs.declared.Run.{Run}
use Rattle.plane.specs.declared.Point.{Point}
use Rattle.work.specs.declared.Kept.{Kept}
use Rattle.records.specs.declared.lists.Lists.{Lists}

-- ---- the two lists

pub record Listed : Type 0 where
  pub wholes : List ℕ
  pub reals : List Float

abbrev pub listed : List ℕ → List Float → Listed
listed ns xs = record { wholes = ns; reals = xs }

-- what two slices hold
abbrev pub listed_in : Lists → Listed
listed_in l = listed l.wholes.now l.reals.now

-- whether they have so many places
abbrev pub placed : ℕ → ℕ → Listed → Bool
placed wholes reals l = leb wholes (length l.wholes) && leb reals (length l.reals)

-- ---- lists that hold a record

-- by their lengths
abbrev pub fitting : ℕ → ℕ → Bool
fitting wholes reals = leb 17 wholes && leb 8 reals

unfoldable pub fits : Listed → Bool
fits l = placed 17 8 l

-- whether both flags are 0 or 1
abbrev pub flags : List ℕ → Bool
flags ns = leb (get_or ns 4 0) 1 && leb (get_or ns 13 0) 1

unfoldable pub flagged : Listed → Bool
flagged l = flags l.wholes

-- ---- a record from its numbers; what has no place reads as 0

abbrev pub whole : List ℕ → ℕ → ℕ
whole ns i = get_or ns i 0

abbrev pub real : List Float → ℕ → Float
real xs i = get_or xs i plus_zero

-- an option from a presence and its value
abbrev pub given_by : {A : Type 0} → ℕ → A → Option A
given_by zero v = None
given_by (suc k) v = Some v

abbrev pub start_from : Listed → Option Point
start_from l = given_by (whole l.wholes 4) (point (real l.reals 2) (real l.reals 3))

unfoldable pub plan_from : Listed → Plan
plan_from l = record { n = whole l.wholes 0; t = whole l.wholes 1; limit = whole l.wholes 2; room = whole l.wholes 3; tolerance = real l.reals 0; step = real l.reals 1; start = start_from l }

unfoldable pub walk_from : Listed → Walk
walk_from l = record { position = point (real l.reals 5) (real l.reals 6); triangle = whole l.wholes 8; edge = whole l.wholes 9; points = whole l.wholes 10; end = whole l.wholes 11 }

unfoldable pub stand_from : Listed → Stand
stand_from l = record { place = whole l.wholes 5; rs = real l.reals 4; norms = whole l.wholes 6; end = whole l.wholes 7; walk = walk_from l; crossings = whole l.wholes 12 }

abbrev pub mark_from : Listed → Option Kept
mark_from l = given_by (whole l.wholes 13) (record { place = whole l.wholes 14; rs = real l.reals 7; norms = whole l.wholes 15 })

unfoldable pub run_from : Listed → Run
run_from l = record { plan = plan_from l; stand = stand_from l; mark = mark_from l; passes = whole l.wholes 16 }

-- ---- the numbers of a record, put at their places; what has no place is left out

abbrev pub start_put : Option Point → Listed → Listed
start_put None l = listed (set l.wholes 4 0) l.reals
start_put (Some p) l = listed (set l.wholes 4 1) (set (set l.reals 2 p.x) 3 p.y)

unfoldable pub plan_put : Plan → Listed → Listed
plan_put plan l = start_put plan.start (listed (set (set (set (set l.wholes 0 plan.n) 1 plan.t) 2 plan.limit) 3 plan.room) (set (set l.reals 0 plan.tolerance) 1 plan.step))

unfoldable pub walk_put : Walk → Listed → Listed
walk_put w l = listed (set (set (set (set l.wholes 8 w.triangle) 9 w.edge) 10 w.points) 11 w.end) (set (set l.reals 5 w.position.x) 6 w.position.y)

unfoldable pub stand_put : Stand → Listed → Listed
stand_put s l = walk_put s.walk (listed (set (set (set (set l.wholes 5 s.place) 6 s.norms) 7 s.end) 12 s.crossings) (set l.reals 4 s.rs))

abbrev pub mark_put : Option Kept → Listed → Listed
mark_put None l = listed (set l.wholes 13 0) l.reals
mark_put (Some k) l = listed (set (set (set l.wholes 13 1) 14 k.place) 15 k.norms) (set l.reals 7 k.rs)

unfoldable pub run_put : Run → Listed → Listed
run_put r l = mark_put r.mark (stand_put r.stand (plan_put r.plan (listed (set l.wholes 16 r.passes) l.reals)))

-- the lists l hold the record r
pub record Holds (r : Run) (l : Listed) : Type 0 where
  pub reads : run_from l ≡ r
  pub flags : flagged l ≡ true
  pub fit : fits l ≡ true
