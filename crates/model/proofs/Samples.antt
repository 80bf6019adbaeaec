-- Document 01's samples S1 to S6 and S8 to S10, computed from the definitions: what `spiral` prints, the counter machine, and what the sheet's reader accepts and refuses. S7 is the square root's.
-- Assumes nothing.
use Rattle.std.specs.Prelude.{ℕ, ◌-◌, ◌≡◌, refl, List, [], ◌∷◌, Float, Option, Some, None}
use Rattle.std.specs.Float.{nan, binary64}
use Rattle.std.specs.Float.Ieee.{of_bits, to_bits}
use Rattle.plane.specs.Plane.{point}
use Rattle.pde.specs.Path.{coordinates_of, length_from, length_of}
use Rattle.format.specs.declared.Settings.{Settings}
use Rattle.format.specs.Content.{Content}
use Rattle.format.specs.Sheet.{accepted, refused}
use Rattle.model.specs.Task.{task}
use Rattle.model.specs.Run.{at, last_place}
use Rattle.model.specs.Machine.{Call, advance, back, mark, return, Space, Counter, fresh, needs, Lent, Ticked, ticks}
use Rattle.model.specs.Shown.{Shown, shown, sheet_read}

-- ---- the sheets

abbrev float : ℕ → Float
float b = of_bits binary64 b

-- 0.5, 1, 2, 3, −0, and 2^−1000
abbrev half : Float
half = float 0x3fe0_0000_0000_0000

abbrev one : Float
one = float 0x3ff0_0000_0000_0000

abbrev two : Float
two = float 0x4000_0000_0000_0000

abbrev three : Float
three = float 0x4008_0000_0000_0000

abbrev minus_zero : Float
minus_zero = float 0x8000_0000_0000_0000

abbrev little : Float
little = float 0x0170_0000_0000_0000

-- vertices (0, 0) inner, (2, 0) outer, (0, 2) none; triangle 0 1 2; neighbours −1
abbrev triangle : Settings → Content
triangle s = record {
  vertices = float 0 ∷ float 0 ∷ two ∷ float 0 ∷ float 0 ∷ two ∷ [];
  triangles = 0 ∷ 1 ∷ 2 ∷ [];
  neighbours = 4294967295 ∷ 4294967295 ∷ 4294967295 ∷ [];
  tags = 2 ∷ 1 ∷ 0 ∷ [];
  settings = s;
}

-- the same behind an untagged vertex in no triangle
abbrev behind_unused : Settings → Content
behind_unused s = record {
  vertices = three ∷ three ∷ float 0 ∷ float 0 ∷ two ∷ float 0 ∷ float 0 ∷ two ∷ [];
  triangles = 1 ∷ 2 ∷ 3 ∷ [];
  neighbours = 4294967295 ∷ 4294967295 ∷ 4294967295 ∷ [];
  tags = 0 ∷ 2 ∷ 1 ∷ 0 ∷ [];
  settings = s;
}

abbrev nothing : Settings → Content
nothing s = record { vertices = []; triangles = []; neighbours = []; tags = []; settings = s }

abbrev settings : Option ℕ → Option Float → Float → Option Float → Option Float → ℕ → Settings
settings limit tolerance step x y room = record { limit = limit; tolerance = tolerance; step = Some step; x = x; y = y; room = Some room }

-- S1's settings but for the room, and but for the start
abbrev of_room : ℕ → Settings
of_room room = settings None None little (Some half) (Some half) room

abbrev of_start : Option Float → Option Float → Settings
of_start x y = settings None None little x y 100

abbrev start_at : Float → Float → Content
start_at x y = triangle (of_start (Some x) (Some y))

abbrev pub s1 : Content
s1 = triangle (of_room 100)

-- S2: room
abbrev pub s2 : ℕ → Content
s2 room = triangle (of_room room)

-- S3: limit 0
abbrev pub s3 : Content
s3 = triangle (settings (Some 0) None little (Some half) (Some half) 100)

-- S4: tolerance 0
abbrev pub s4 : Content
s4 = triangle (settings None (Some (float 0)) little (Some half) (Some half) 100)

-- S6: n = T = 0
abbrev pub s6 : Content
s6 = nothing (of_room 100)

-- S9: step −0
abbrev pub s9 : Content
s9 = triangle (settings None None minus_zero (Some half) (Some half) 100)

-- S10: an untagged unused vertex first, no start
abbrev pub s10 : Content
s10 = behind_unused (of_start None None)

-- ---- S1

-- also of S4, but for the place and the field's end
abbrev pub traced : ℕ → ℕ → Shown
traced place field_end = record {
  place = place;
  field_end = field_end;
  path_end = 3;
  us = 0x0000_0000_0000_0000 ∷ 0x3ff0_0000_0000_0000 ∷ 0x0000_0000_0000_0000 ∷ [];
  rs = 0x3ff0_0000_0000_0000 ∷ 0x0000_0000_0000_0000 ∷ [];
  gs = 0x3fe0_0000_0000_0000 ∷ 0x0000_0000_0000_0000 ∷ [];
  ps =
      0x3fe0_0000_0000_0000 ∷ 0x3fe0_0000_0000_0000
      ∷ 0x3fe0_0000_0000_0000 ∷ 0x3fe6_6666_6666_6666
      ∷ 0x3fe0_0000_0000_0000 ∷ 0x3fec_cccc_cccc_cccd
      ∷ 0x3fe0_0000_0000_0000 ∷ 0x3ff1_9999_9999_999a
      ∷ 0x3fe0_0000_0000_0000 ∷ 0x3ff4_cccc_cccc_cccd
      ∷ [];
}

pub s1-shown : shown s1 ≡ traced 3 1
unfolding shown
s1-shown = refl

-- the length of its path: 0.8, left to right from +0
pub s1-length : to_bits binary64 (length_of (coordinates_of (at (task s1) (last_place (task s1))).trail.path)) ≡ 0x3fe9_9999_9999_999a
unfolding shown length_of length_from
s1-length = refl

-- the space that it needs: 12 · 3 + 12 + 1,000 + 32 floats, 8 · 3 + 32 + 32 words, 2 · 100 places of the path
pub s1-needs : needs (task s1) ≡ record { floats = 1080; words = 88; path = 200 }
unfolding shown needs
s1-needs = refl

-- its sheet is accepted and says what it was made of
pub s1-read : sheet_read s1 ≡ accepted s1
unfolding sheet_read
s1-read = refl

-- ---- S2

pub s2_room_5 : shown (s2 5) ≡ traced 3 1
unfolding shown
s2_room_5 = refl

pub s2_room_4 : shown (s2 4) ≡ record {
  place = 3;
  field_end = 1;
  path_end = 7;
  us = 0x0000_0000_0000_0000 ∷ 0x3ff0_0000_0000_0000 ∷ 0x0000_0000_0000_0000 ∷ [];
  rs = 0x3ff0_0000_0000_0000 ∷ 0x0000_0000_0000_0000 ∷ [];
  gs = 0x3fe0_0000_0000_0000 ∷ 0x0000_0000_0000_0000 ∷ [];
  ps = 0x3fe0_0000_0000_0000 ∷ 0x3fe0_0000_0000_0000 ∷ [];
}
unfolding shown
s2_room_4 = refl

pub s2_read_5 : sheet_read (s2 5) ≡ accepted (s2 5)
unfolding sheet_read
s2_read_5 = refl

pub s2_read_4 : sheet_read (s2 4) ≡ accepted (s2 4)
unfolding sheet_read
s2_read_4 = refl

-- ---- S3

pub s3-shown : shown s3 ≡ record {
  place = 2;
  field_end = 3;
  path_end = 1;
  us = 0 ∷ 0 ∷ 0 ∷ [];
  rs = 0x3ff0_0000_0000_0000 ∷ [];
  gs = 0 ∷ 0 ∷ [];
  ps = 0x3fe0_0000_0000_0000 ∷ 0x3fe0_0000_0000_0000 ∷ [];
}
unfolding shown
s3-shown = refl

pub s3-read : sheet_read s3 ≡ accepted s3
unfolding sheet_read
s3-read = refl

-- ---- S4

pub s4-shown : shown s4 ≡ traced 4 2
unfolding shown
s4-shown = refl

pub s4-read : sheet_read s4 ≡ accepted s4
unfolding sheet_read
s4-read = refl

-- ---- S5: on S1's sheet, each call lent what is needed

abbrev lent : Call → Lent
lent call = record { call = call; space = needs (task s1) }

abbrev pub s5 : List Lent
s5 = lent (advance 10) ∷ lent (back 1) ∷ lent mark ∷ lent (advance 1) ∷ lent return ∷ []

pub s5-ticked : ticks (needs (task s1)) (needs (task s1)) (last_place (task s1)) s5 (record { counter = fresh; said = [] })
    ≡ record { counter = record { place = 2; mark = Some 2; passes = 4 }; said = 0 ∷ 0 ∷ 0 ∷ 0 ∷ 0 ∷ [] }
unfolding shown ticks needs
s5-ticked = refl

-- ---- refusals of the counter machine, on S1's sheet, whose last place is 3

-- what one call comes to from a state, lent some space
abbrev ticked : Call → Space → Counter → Ticked
ticked call space s = ticks (needs (task s1)) (needs (task s1)) (last_place (task s1)) (record { call = call; space = space } ∷ []) (record { counter = s; said = [] })

-- the refusal's number, with the state as it was; 0 if the call is not refused
abbrev said : ℕ → Counter → Ticked
said k s = record { counter = s; said = k ∷ [] }

-- at a place with no mark and so many passes
abbrev unmarked : ℕ → ℕ → Counter
unmarked place passes = record { place = place; mark = None; passes = passes }

-- 2^64 − 1 passes
abbrev full : ℕ
full = 18446744073709551615

-- a place too few of one buffer
abbrev few_floats : Space
few_floats = record { floats = (needs (task s1)).floats - 1; words = (needs (task s1)).words; path = (needs (task s1)).path }

abbrev few_words : Space
few_words = record { floats = (needs (task s1)).floats; words = (needs (task s1)).words - 1; path = (needs (task s1)).path }

abbrev few_points : Space
few_points = record { floats = (needs (task s1)).floats; words = (needs (task s1)).words; path = (needs (task s1)).path - 1 }

-- 8 before 9, whichever buffer is short, and before 10
pub return_short : ticked return few_floats (unmarked 2 2) ≡ said 8 (unmarked 2 2)
unfolding shown ticks needs
return_short = refl

pub back_short : ticked (back 1) few_words (unmarked 2 2) ≡ said 8 (unmarked 2 2)
unfolding shown ticks needs
back_short = refl

pub mark_short : ticked mark few_points (unmarked 2 2) ≡ said 8 (unmarked 2 2)
unfolding shown ticks needs
mark_short = refl

pub advance_short : ticked (advance 1) few_floats (unmarked 2 full) ≡ said 8 (unmarked 2 full)
unfolding shown ticks needs
advance_short = refl

pub return_unmarked : ticked return (needs (task s1)) (unmarked 2 2) ≡ said 9 (unmarked 2 2)
unfolding shown ticks needs
return_unmarked = refl

-- an advance that gains a pass at 2^64 − 1
pub advance_too_far : ticked (advance 1) (needs (task s1)) (unmarked 2 full) ≡ said 10 (unmarked 2 full)
unfolding shown ticks needs
advance_too_far = refl

-- it gains three, and there is room for two
pub advance_three : ticked (advance 4294967295) (needs (task s1)) (unmarked 0 (full - 2)) ≡ said 10 (unmarked 0 (full - 2))
unfolding shown ticks needs
advance_three = refl

-- it gains the one that there is room for
pub advance_one : ticked (advance 4294967295) (needs (task s1)) (unmarked 2 (full - 1)) ≡ said 0 (unmarked 3 full)
unfolding shown ticks needs
advance_one = refl

-- it gains none: at the last place, and by 0
pub advance_at_last : ticked (advance 1) (needs (task s1)) (unmarked 3 full) ≡ said 0 (unmarked 3 full)
unfolding shown ticks needs
advance_at_last = refl

pub advance_by_none : ticked (advance 0) (needs (task s1)) (unmarked 2 full) ≡ said 0 (unmarked 2 full)
unfolding shown ticks needs
advance_by_none = refl

-- ---- S6

pub s6-shown : shown s6 ≡ record { place = 2; field_end = 2; path_end = 8; us = []; rs = 0 ∷ []; gs = []; ps = [] }
unfolding shown
s6-shown = refl

pub s6-read : sheet_read s6 ≡ accepted s6
unfolding sheet_read
s6-read = refl

-- ---- S8

-- after the start pass, at place 2, the path from (1, 1) is in triangle 0
pub s8_accepted : (at (task (start_at one one)) 2).trail.walk ≡ record { position = point one one; triangle = 0; edge = 3; points = 1; end = 0 }
unfolding shown
s8_accepted = refl

pub s8_outside : (shown (start_at three three)).path_end ≡ 8
unfolding shown
s8_outside = refl

pub s8_read_accepted : sheet_read (start_at one one) ≡ accepted (start_at one one)
unfolding sheet_read
s8_read_accepted = refl

pub s8_read_outside : sheet_read (start_at three three) ≡ accepted (start_at three three)
unfolding sheet_read
s8_read_outside = refl

pub s8_nan_x : sheet_read (start_at nan one) ≡ refused 6
unfolding sheet_read
s8_nan_x = refl

pub s8_nan_y : sheet_read (start_at one nan) ≡ refused 6
unfolding sheet_read
s8_nan_y = refl

-- ---- S9

pub s9-refused : sheet_read s9 ≡ refused 7
unfolding sheet_read
s9-refused = refl

-- ---- S10

pub s10-shown : shown s10 ≡ record {
  place = 2;
  field_end = 1;
  path_end = 9;
  us = 0 ∷ 0 ∷ 0x3ff0_0000_0000_0000 ∷ 0 ∷ [];
  rs = 0x3ff0_0000_0000_0000 ∷ 0 ∷ [];
  gs = 0x3fe0_0000_0000_0000 ∷ 0 ∷ [];
  ps = [];
}
unfolding shown
s10-shown = refl

pub s10-read : sheet_read s10 ≡ accepted s10
unfolding sheet_read
s10-read = refl
