-- Opening, the four calls and what a run shows, where a run's record is two lists of numbers (crate records): answers, refusals, and every lent place, whatever it holds. Definitions only. Assumes nothing.
use Rattle.std.specs.Prelude.{ℕ, Bool, ◌&&◌, ◌≡◌, List, leb, eqb, length, set, Float}
use Rattle.binary64.specs.Number.{pick}
use Rattle.pde.specs.Path.{length_of}
use Rattle.format.specs.Content.{max_vertices, max_triangles, max_limit, max_room}
use Rattle.format.specs.Refusal.{◌then◌, whole_fault}
use Rattle.model.specs.Space.{float_space, word_space, path_space}
use Rattle.model.specs.Machine.{Call}
use Rattle.work.specs.declared.Run.{Run}
use Rattle.image.specs.Calls.{Buffers, held_fault, late_fault, run_after, buffers_after}
use Rattle.image.specs.Points.{points_of}
use Rattle.image.specs.Replay.{opened}
use Rattle.sheet.specs.Answer.{Checked, Accepted, Refused}
use Rattle.showing.specs.declared.parts.Shown.{Shown}
use Rattle.showing.specs.Shown.{part_of}
use Rattle.records.specs.Numbers.{Listed, fits, flagged, run_from, run_put}

-- ---- what refuses

-- of a record with a flag that is neither 0 nor 1: its own 8 stays, and whatever else it is, it is 10
abbrev pub flag_fault : ℕ → ℕ
flag_fault k = pick (eqb k 8) 8 10

-- lists and flags: 8 where the lists have not the places of a record; then what refuses one with such a flag
abbrev pub flags_fault : Listed → Buffers → ℕ
flags_fault l b = pick (fits l) (pick (flagged l) 0 (flag_fault (held_fault (run_from l) b))) 8

-- any call: 8 where the lists have not the places of a record; then what refuses the record
unfoldable pub held_fault_in : Listed → Buffers → ℕ
held_fault_in l b = pick (fits l) (pick (flagged l) (held_fault (run_from l) b) (flag_fault (held_fault (run_from l) b))) 8

-- one call
unfoldable pub fault_in : Call → Listed → Buffers → ℕ
fault_in c l b = held_fault_in l b then late_fault c (run_from l) b

-- opening: the sheet's refusal, then 8 for a short buffer or short lists
unfoldable pub open_fault_in : List ℕ → Listed → Buffers → ℕ
open_fault_in sheet l b = (opened sheet b).answer.refused then pick (fits l) 0 8

-- what refuses a sheet, or 8
abbrev pub refusal_or8 : Checked → ℕ
refusal_or8 (Refused k) = k
refusal_or8 (Accepted h) = 8

-- the length: as a call, then 8 where there is no place for it
unfoldable pub length_fault_in : Listed → Buffers → List Float → ℕ
length_fault_in l b out = held_fault_in l b then pick (leb 1 (length out)) 0 8

-- the space rule: a count past its limit 2, a setting outside its range 7, then 8
unfoldable pub needed_by : ℕ → ℕ → ℕ → ℕ → ℕ → ℕ
needed_by n t limit room places =
    pick (leb n max_vertices && leb t max_triangles) 0 2 then (whole_fault 0 max_limit limit then whole_fault 1 max_room room) then pick (leb 3 places) 0 8

abbrev pub needed_fault : ℕ → ℕ → ℕ → ℕ → List ℕ → ℕ
needed_fault n t limit room out = needed_by n t limit room (length out)

-- ---- what is left: what is refused leaves every place as it was

-- what a list is after an answer: the new one where nothing refused
abbrev pub unless_refused : {A : Type 0} → ℕ → A → A → A
unless_refused k new old = pick (eqb k 0) new old

pub record OpenedIn (sheet : List ℕ) (l : Listed) (b : Buffers) (r : ℕ) (l' : Listed) (b' : Buffers) : Type 0 where
  pub said : r ≡ open_fault_in sheet l b
  pub lists : l' ≡ unless_refused (open_fault_in sheet l b) (run_put (opened sheet b).answer.run l) l
  pub held : b' ≡ unless_refused (open_fault_in sheet l b) (opened sheet b).all b

pub record Called (c : Call) (l : Listed) (b : Buffers) (r : ℕ) (l' : Listed) (b' : Buffers) : Type 0 where
  pub said : r ≡ fault_in c l b
  pub lists : l' ≡ unless_refused (fault_in c l b) (run_put (run_after c (run_from l) b) l) l
  pub held : b' ≡ unless_refused (fault_in c l b) (buffers_after c (run_from l) b) b

-- the length of the path's points
pub record Measured (l : Listed) (b : Buffers) (out : List Float) (r : ℕ) (out' : List Float) : Type 0 where
  pub said : r ≡ length_fault_in l b out
  pub left : out' ≡ unless_refused (length_fault_in l b out) (set out 0 (length_of (points_of (run_from l) b.path))) out

-- where a part starts that is not empty, and how many doubles it has; 8 where there are no lists for a record, or not two places for the answer
abbrev pub start_by : ℕ → ℕ → ℕ
start_by at count = pick (eqb count 0) 0 at

abbrev pub hand_fault : Bool → List ℕ → ℕ
hand_fault fit out = pick (fit && leb 2 (length out)) 0 8

pub record HandedBy (at count : ℕ) (fit : Bool) (out : List ℕ) (r : ℕ) (out' : List ℕ) : Type 0 where
  pub said : r ≡ hand_fault fit out
  pub left : out' ≡ unless_refused (hand_fault fit out) (set (set out 0 (start_by at count)) 1 count) out

-- a part of a buffer that stands at a place
abbrev pub Handed : ℕ → List Float → Listed → List ℕ → ℕ → List ℕ → Type 0
Handed at part l out r out' = HandedBy at (length part) (fits l) out r out'

-- where field, norms and gradients stand in the floats: 0 for counts that no sheet has
abbrev pub shown_at : Shown → Run → ℕ
shown_at s r = (part_of s r).at

pub record Needed (n t limit room : ℕ) (out : List ℕ) (r : ℕ) (out' : List ℕ) : Type 0 where
  pub said : r ≡ needed_fault n t limit room out
  pub left : out' ≡ unless_refused (needed_fault n t limit room out) (set (set (set out 0 (float_space n t limit)) 1 (word_space n t)) 2 (path_space room)) out
