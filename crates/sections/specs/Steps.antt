-- The steps of a sheet's check: what refuses sections 1 to 4, and what section 5 answers (document 01, section Sheet). Definitions only.
-- Assumes nothing.
use Rattle.std.specs.Prelude.{ℕ, zero, suc, ◌*◌, ◌≤◌, ◌≡◌, List, map, take, drop, Result, Ok, Err}
use Rattle.refusal.specs.Refusal.{number_of}
use Rattle.refusal.specs.declared.Refusal.{Refusal}
use Rattle.format.specs.declared.Settings.{Settings}
use Rattle.format.specs.Refusal.{◌then◌, over, unlike}
use Rattle.format.specs.Sheet.{item_setting, in_turn, no_settings, gathered, count, behind, from2, from3, from4, from5, items_in, vertices_fault, triangles_fault, neighbours_fault, tags_fault, settings_fault}
use Rattle.sections.specs.declared.Rule.{Rule}
use Rattle.sections.specs.declared.Rule.TheVariants.{AtMost, Exactly}
use Rattle.sections.specs.declared.Section.{Section}
use Rattle.sections.specs.declared.mesh.Mesh.{Mesh}
use Rattle.sections.specs.declared.Last.{Last}

-- ---- a section

-- what refuses a count
abbrev pub rule_of : Rule → ℕ → ℕ
rule_of (AtMost limit) k = over limit k
rule_of (Exactly expected) k = unlike expected k

-- the greatest count that is not refused
abbrev pub most : Rule → ℕ
most (AtMost limit) = limit
most (Exactly expected) = expected

-- what a section of items of `size` bytes hands on: its count, its items, and the sheet behind it
pub record Follows (high size : ℕ) (s : List ℕ) (r : Section) : Type 0 where
  pub counted : r.count ≡ count s
  pub few : r.count ≤ high
  pub items : r.items.now ≡ take (size * count s) (drop 4 s)
  pub next : r.behind.now ≡ behind size s

-- ---- sections 1 to 4

unfoldable pub mesh_fault : List ℕ → ℕ
mesh_fault b =
    vertices_fault b
    then triangles_fault (count b) (from2 b)
    then neighbours_fault (count (from2 b)) (from3 b)
    then tags_fault (count b) (from4 b)

-- what they hand on; that n and t are no more than a sheet may have is in the type
pub record Holds (b : List ℕ) (m : Mesh) : Type 0 where
  pub n : m.n ≡ count b
  pub t : m.t ≡ count (from2 b)
  pub next : m.behind.now ≡ from5 b

-- ---- section 5

-- its settings, or what refuses them
pub data Items : Type 0 where
  Read : Settings → Items
  Refused : ℕ → Items

-- what the reader answers
abbrev pub items_of : Result Settings Refusal → Items
items_of (Ok s) = Read s
items_of (Err r) = Refused (number_of r)

-- what section 5 answers
abbrev pub last_of : Result Last Refusal → Items
last_of (Ok r) = Read r.settings
last_of (Err r) = Refused (number_of r)

abbrev pub items_by : ℕ → Settings → Items
items_by zero s = Read s
items_by (suc k) s = Refused (suc k)

unfoldable pub items_read : List ℕ → Items
items_read xs = items_by (in_turn 0 xs) (gathered no_settings (map item_setting xs))

unfoldable pub settings_read : List ℕ → Items
settings_read s = items_by (settings_fault s) (gathered no_settings (map item_setting (items_in s)))
