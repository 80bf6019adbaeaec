-- The sheet's bytes and what they say (document 01, section Sheet; the order of refusals by Length, writer, program): five sections, each a u32 count and its items. Definitions only.
-- Assumes nothing.
use Rattle.std.specs.Prelude.{ℕ, Some, None, zero, suc, ◌+◌, ◌*◌, ◌/◌, ◌%◌, List, [], ◌∷◌, ◌++◌, map, leb, ltb, eqb, length, drop, Float}
use Rattle.std.specs.Float.{binary64}
use Rattle.std.specs.Float.Ieee.{of_bits, to_bits, nan_bits}
use Rattle.binary64.specs.Number.{pick}
use Rattle.format.specs.declared.Settings.{Settings}
use Rattle.format.specs.Setting.{Setting, Limit, Tolerance, Step, StartX, StartY, Room, Unknown, NotANumber}
use Rattle.format.specs.Bytes.{number, bytes, numbers, all_bytes}
use Rattle.format.specs.Content.{Content, vertex_count, triangle_count, max_vertices, max_triangles, max_settings}
use Rattle.format.specs.Refusal.{◌then◌, each, over, unlike, vertex_fault, neighbour_fault, tag_fault, coordinate_fault, setting_fault, present, missing}

-- ---- a setting is a kind byte and 8 value bytes, so a number of 9 bytes

unfoldable pub kind_of : Setting → ℕ
kind_of (Limit v) = 1
kind_of (Tolerance x) = 2
kind_of (Step x) = 3
kind_of (StartX x) = 4
kind_of (StartY x) = 5
kind_of (Room v) = 6
kind_of Unknown = 0
kind_of NotANumber = 0

unfoldable pub value_of : Setting → ℕ
value_of (Limit v) = v
value_of (Tolerance x) = to_bits binary64 x
value_of (Step x) = to_bits binary64 x
value_of (StartX x) = to_bits binary64 x
value_of (StartY x) = to_bits binary64 x
value_of (Room v) = v
value_of Unknown = 0
value_of NotANumber = 0

unfoldable pub item_of : Setting → ℕ
item_of s = kind_of s + 256 * value_of s

abbrev pub real_of : (Float → Setting) → ℕ → Setting
real_of make v = pick (nan_bits binary64 v) NotANumber (make (of_bits binary64 v))

-- what a kind and a value say
unfoldable pub setting_of : ℕ → ℕ → Setting
setting_of kind v =
    pick (eqb kind 1) (Limit v)
    (pick (eqb kind 2) (real_of Tolerance v)
    (pick (eqb kind 3) (real_of Step v)
    (pick (eqb kind 4) (real_of StartX v)
    (pick (eqb kind 5) (real_of StartY v)
    (pick (eqb kind 6) (Room v) Unknown)))))

abbrev pub item_kind : ℕ → ℕ
item_kind x = x % 256

abbrev pub item_setting : ℕ → Setting
item_setting x = setting_of (x % 256) (x / 256)

-- the items of section 5, each in turn, behind one of kind `last`: a kind unknown or not rising, then the value
unfoldable pub in_turn : ℕ → List ℕ → ℕ
in_turn last [] = 0
in_turn last (x ∷ xs) = pick (ltb last (item_kind x)) 0 5 then setting_fault (item_setting x) then in_turn (item_kind x) xs

abbrev pub no_settings : Settings
no_settings = record { limit = None; tolerance = None; step = None; x = None; y = None; room = None }

-- the settings with one more
unfoldable pub adding : Settings → Setting → Settings
adding s (Limit v) = record { limit = Some v; tolerance = s.tolerance; step = s.step; x = s.x; y = s.y; room = s.room }
adding s (Tolerance v) = record { limit = s.limit; tolerance = Some v; step = s.step; x = s.x; y = s.y; room = s.room }
adding s (Step v) = record { limit = s.limit; tolerance = s.tolerance; step = Some v; x = s.x; y = s.y; room = s.room }
adding s (StartX v) = record { limit = s.limit; tolerance = s.tolerance; step = s.step; x = Some v; y = s.y; room = s.room }
adding s (StartY v) = record { limit = s.limit; tolerance = s.tolerance; step = s.step; x = s.x; y = Some v; room = s.room }
adding s (Room v) = record { limit = s.limit; tolerance = s.tolerance; step = s.step; x = s.x; y = s.y; room = Some v }
adding s Unknown = s
adding s NotANumber = s

unfoldable pub gathered : Settings → List Setting → Settings
gathered s [] = s
gathered s (x ∷ xs) = gathered (adding s x) xs

-- ---- the sheet of a content

-- a count, and numbers of w bytes
unfoldable pub section : ℕ → ℕ → List ℕ → List ℕ
section w k xs = bytes 4 k ++ all_bytes w xs

unfoldable pub bytes_of : Content → List ℕ
bytes_of c =
    section 8 (vertex_count c) (map (to_bits binary64) c.vertices)
    ++ (section 4 (triangle_count c) c.triangles
    ++ (section 4 (length c.neighbours) c.neighbours
    ++ (section 1 (length c.tags) c.tags
    ++ section 9 (length (present c.settings)) (map item_of (present c.settings)))))

-- ---- the content of a sheet. s is the sheet from a section's count on.

abbrev pub count : List ℕ → ℕ
count s = number 4 s

-- the sheet behind a section whose items have `size` bytes
unfoldable pub behind : ℕ → List ℕ → List ℕ
behind size s = drop (4 + size * count s) s

-- the sheet from sections 2 to 5 on, and what is behind them
abbrev pub from2 : List ℕ → List ℕ
from2 b = behind 16 b

abbrev pub from3 : List ℕ → List ℕ
from3 b = behind 12 (from2 b)

abbrev pub from4 : List ℕ → List ℕ
from4 b = behind 4 (from3 b)

abbrev pub from5 : List ℕ → List ℕ
from5 b = behind 1 (from4 b)

abbrev pub leftover : List ℕ → List ℕ
leftover b = behind 9 (from5 b)

-- the items of each section, read through the part behind its count
abbrev pub vertices_in : List ℕ → List Float
vertices_in s = map (of_bits binary64) (numbers 8 (2 * count s) (drop 4 s))

abbrev pub triangles_in : List ℕ → List ℕ
triangles_in s = numbers 4 (3 * count s) (drop 4 s)

abbrev pub neighbours_in : List ℕ → List ℕ
neighbours_in s = numbers 4 (count s) (drop 4 s)

abbrev pub tags_in : List ℕ → List ℕ
tags_in s = numbers 1 (count s) (drop 4 s)

abbrev pub items_in : List ℕ → List ℕ
items_in s = numbers 9 (count s) (drop 4 s)

unfoldable pub content_of : List ℕ → Content
content_of b = record {
  vertices = vertices_in b;
  triangles = triangles_in (from2 b);
  neighbours = neighbours_in (from3 b);
  tags = tags_in (from4 b);
  settings = gathered no_settings (map item_setting (items_in (from5 b)));
}

-- ---- what refuses a sheet

-- fewer than k bytes
abbrev pub cut : ℕ → List ℕ → ℕ
cut k s = pick (leb k (length s)) 0 1

-- a section before its items are read: its count cut short, its count refused, its items cut short
abbrev pub head_fault : (ℕ → ℕ) → ℕ → List ℕ → ℕ
head_fault rule size s = cut 4 s then rule (count s) then cut (4 + size * count s) s

unfoldable pub vertices_fault : List ℕ → ℕ
vertices_fault s = head_fault (over max_vertices) 16 s then each coordinate_fault (vertices_in s)

unfoldable pub triangles_fault : ℕ → List ℕ → ℕ
triangles_fault n s = head_fault (over max_triangles) 12 s then each (vertex_fault n) (triangles_in s)

unfoldable pub neighbours_fault : ℕ → List ℕ → ℕ
neighbours_fault T s = head_fault (unlike (3 * T)) 4 s then each (neighbour_fault T) (neighbours_in s)

unfoldable pub tags_fault : ℕ → List ℕ → ℕ
tags_fault n s = head_fault (unlike n) 1 s then each tag_fault (tags_in s)

unfoldable pub settings_fault : List ℕ → ℕ
settings_fault s = head_fault (over max_settings) 9 s then in_turn 0 (items_in s)

unfoldable pub fault_of : List ℕ → ℕ
fault_of b =
    vertices_fault b
    then triangles_fault (count b) (from2 b)
    then neighbours_fault (count (from2 b)) (from3 b)
    then tags_fault (count b) (from4 b)
    then settings_fault (from5 b)
    then pick (eqb (length (leftover b)) 0) 0 1
    then missing (content_of b).settings

-- ---- reading

pub data Parsed : Type 0 where
  accepted : Content → Parsed
  refused : ℕ → Parsed

abbrev pub decide : ℕ → Content → Parsed
decide zero c = accepted c
decide (suc k) c = refused (suc k)

unfoldable pub parse : List ℕ → Parsed
parse b = decide (fault_of b) (content_of b)
