-- An accepted sheet's head and settings as lists of numbers, which C's callers hold, and a sheet written from them. Definitions only. Assumes nothing.
-- Settings, 8 whole numbers: 0 whether there is a limit, 1 limit, 2 to 5 whether there are a tolerance, a step, a start's x and y, 6 whether there is a room, 7 room; 4 reals: 0 tolerance, 1 step, 2 and 3 the start.
-- Head, 6 whole numbers: 0 n, 1 T, 2 to 5 where the items of sections 1 to 4 start.
use Rattle.std.specs.Prelude.{ℕ, zero, suc, Bool, ◌&&◌, ◌≡◌, List, get_or, set, length, Float, leb, Option, Some, None}
use Rattle.binary64.specs.Number.{pick}
use Rattle.format.specs.declared.Settings.{Settings}
use Rattle.format.specs.Content.{Content}
use Rattle.format.specs.Sheet.{parse, bytes_of}
use Rattle.sheet.specs.declared.Header.{Header}
use Rattle.sheet.specs.Answer.{Checked, Accepted, Refused, checked_of}
use Rattle.sheet.specs.Write.{content_by, write_refusal, buffer_by}
use Rattle.records.specs.Numbers.{Listed, listed, placed, whole, real, given_by}

-- whether the lists have the places of settings
abbrev pub settings_fit : Listed → Bool
settings_fit l = placed 8 4 l

-- ---- settings from their numbers; what has no place reads as 0

unfoldable pub settings_from : Listed → Settings
settings_from l = record {
  limit = given_by (whole l.wholes 0) (whole l.wholes 1);
  tolerance = given_by (whole l.wholes 2) (real l.reals 0);
  step = given_by (whole l.wholes 3) (real l.reals 1);
  x = given_by (whole l.wholes 4) (real l.reals 2);
  y = given_by (whole l.wholes 5) (real l.reals 3);
  room = given_by (whole l.wholes 6) (whole l.wholes 7);
}

-- ---- the numbers of settings, put at their places; what has no place is left out

abbrev pub presence : {A : Type 0} → Option A → ℕ
presence None = 0
presence (Some v) = 1

-- an absent one's place stays as it was
abbrev pub number_put : {A : Type 0} → Option A → ℕ → List A → List A
number_put None i l = l
number_put (Some v) i l = set l i v

unfoldable pub settings_put : Settings → Listed → Listed
settings_put s l =
    let limit : List ℕ = number_put s.limit 1 (set l.wholes 0 (presence s.limit)) in
    let reals : List ℕ = set (set (set (set limit 2 (presence s.tolerance)) 3 (presence s.step)) 4 (presence s.x)) 5 (presence s.y) in
    listed (number_put s.room 7 (set reals 6 (presence s.room))) (number_put s.y 3 (number_put s.x 2 (number_put s.step 1 (number_put s.tolerance 0 l.reals))))

-- ---- a head

unfoldable pub head_numbers : Header → List ℕ → List ℕ
head_numbers h hs = set (set (set (set (set (set hs 0 h.n) 1 h.t) 2 h.vertices) 3 h.triangles) 4 h.neighbours) 5 h.tags

-- ---- a sheet that is checked: hs is the list for its head, l the lists for its settings

-- where nothing refuses the new one, else the old one
abbrev pub left_by : {A : Type 0} → ℕ → A → A → A
left_by zero new old = new
left_by (suc k) new old = old

abbrev pub check_fault : Checked → List ℕ → Listed → ℕ
check_fault (Refused k) hs l = k
check_fault (Accepted h) hs l = pick (leb 6 (length hs) && settings_fit l) 0 8

abbrev pub head_checked : Checked → List ℕ → Listed → List ℕ
head_checked (Refused k) hs l = hs
head_checked (Accepted h) hs l = left_by (check_fault (Accepted h) hs l) (head_numbers h hs) hs

abbrev pub settings_checked : Checked → List ℕ → Listed → Listed
settings_checked (Refused k) hs l = l
settings_checked (Accepted h) hs l = left_by (check_fault (Accepted h) hs l) (settings_put h.settings l) l

-- a sheet and the lists, what is answered, and the lists after it
pub record Checks (sheet hs : List ℕ) (l : Listed) (r : ℕ) (hs' : List ℕ) (l' : Listed) : Type 0 where
  pub said : r ≡ check_fault (checked_of (parse sheet)) hs l
  pub head : hs' ≡ head_checked (checked_of (parse sheet)) hs l
  pub settings : l' ≡ settings_checked (checked_of (parse sheet)) hs l

-- ---- a sheet that is written

-- the content of the lists
abbrev pub content_from : List Float → List ℕ → List ℕ → List ℕ → Listed → Content
content_from vertices triangles neighbours tags l = content_by vertices triangles neighbours tags (settings_from l)

-- what refuses a content by its settings' lists, with so many places for its length and so much space
abbrev pub write_fault : Content → Listed → ℕ → ℕ → ℕ
write_fault c l written space = pick (settings_fit l && leb 1 written) (write_refusal c space) 8

-- the lists, the buffer and the place for its length, what is answered, and the two after it
pub record WritesFrom (vertices : List Float) (triangles neighbours tags : List ℕ) (l : Listed) (out written : List ℕ) (r : ℕ) (out' written' : List ℕ) : Type 0 where
  pub said : r ≡ write_fault (content_from vertices triangles neighbours tags l) l (length written) (length out)
  pub left : out' ≡ buffer_by r (bytes_of (content_from vertices triangles neighbours tags l)) out
  pub told : written' ≡ left_by r (set written 0 (length (bytes_of (content_from vertices triangles neighbours tags l)))) written

-- the list hs has the head h
pub record HasHead (h : Header) (hs : List ℕ) : Type 0 where
  pub n : get_or hs 0 0 ≡ h.n
  pub t : get_or hs 1 0 ≡ h.t
  pub vertices : get_or hs 2 0 ≡ h.vertices
  pub triangles : get_or hs 3 0 ≡ h.triangles
  pub neighbours : get_or hs 4 0 ≡ h.neighbours
  pub tags : get_or hs 5 0 ≡ h.tags
