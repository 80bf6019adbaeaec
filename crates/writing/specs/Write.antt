-- The steps of writing a sheet: what refuses a content list by list, and what each step puts down (document 01, Length, writer, program). Definitions only.
-- Assumes nothing.
use Rattle.std.specs.Prelude.{ℕ, Option, Some, None, ◌++◌, ◌+◌, ◌*◌, ◌/◌, ◌≡◌, ◌≤◌, ◌<◌, ◌^◌, List, [], ◌∷◌, length, Float}
use Rattle.format.specs.declared.Settings.{Settings}
use Rattle.format.specs.declared.Setting as code
use Rattle.format.specs.declared.Content as lending
use Rattle.format.specs.Setting.{Setting, said}
use Rattle.format.specs.Content.{Content, max_vertices, max_triangles}
use Rattle.format.specs.Bytes.{bytes}
use Rattle.format.specs.Place.{placed}
use Rattle.writing.specs.declared.putting.Output.{Output}
use Rattle.format.specs.Sheet.{item_of}
use Rattle.format.specs.Refusal.{◌then◌, each, over, unlike, coordinate_fault, vertex_fault, neighbour_fault, tag_fault, setting_fault, present}

abbrev pub content_by : List Float → List ℕ → List ℕ → List ℕ → Settings → Content
content_by vs ts ns gs st = record { vertices = vs; triangles = ts; neighbours = ns; tags = gs; settings = st }

-- a content that is lent
abbrev pub lent : lending.Content → Content
lent c = content_by c.vertices.now c.triangles.now c.neighbours.now c.tags.now c.settings

-- ---- the steps of the refusal: a list by itself

unfoldable pub vertices_refusal : List Float → ℕ
vertices_refusal xs = over max_vertices (length xs / 2) then unlike (2 * (length xs / 2)) (length xs) then each coordinate_fault xs

unfoldable pub triangles_refusal : ℕ → List ℕ → ℕ
triangles_refusal n xs = over max_triangles (length xs / 3) then unlike (3 * (length xs / 3)) (length xs) then each (vertex_fault n) xs

unfoldable pub neighbours_refusal : ℕ → List ℕ → ℕ
neighbours_refusal t xs = unlike (3 * t) (length xs) then each (neighbour_fault t) xs

unfoldable pub tags_refusal : ℕ → List ℕ → ℕ
tags_refusal n xs = unlike n (length xs) then each tag_fault xs

unfoldable pub mesh_refusal : List Float → List ℕ → List ℕ → List ℕ → ℕ
mesh_refusal vs ts ns gs =
    vertices_refusal vs
    then triangles_refusal (length vs / 2) ts
    then neighbours_refusal (length ts / 3) ns
    then tags_refusal (length vs / 2) gs

-- a setting that is not given is not refused
abbrev pub slot_fault : Option code.Setting → ℕ
slot_fault None = 0
slot_fault (Some s) = setting_fault (said s)

-- ---- the steps of the writing

-- the settings that are given
abbrev pub given_in : List (Option code.Setting) → List Setting
given_in [] = []
given_in (None ∷ slots) = given_in slots
given_in (Some s ∷ slots) = said s ∷ given_in slots

-- the item of a setting, where it is given
abbrev pub slot_bytes : Option code.Setting → List ℕ
slot_bytes None = []
slot_bytes (Some s) = bytes 9 (item_of (said s))

-- items laid down, each by its bytes
unfoldable pub laid_all : {A : Type 0} → (A → List ℕ) → List A → List ℕ
laid_all laid [] = []
laid_all laid (x ∷ xs) = laid x ++ laid_all laid xs

-- the counts are u32, and the sheet has room
pub record Fits (c : Content) (space : ℕ) : Type 0 where
  pub pairs : length c.vertices < 2 ^ 32
  pub triples : length c.triangles < 2 ^ 32
  pub edges : length c.neighbours < 2 ^ 32
  pub tagged : length c.tags < 2 ^ 32
  pub room : 20 + 8 * length c.vertices + 4 * length c.triangles + 4 * length c.neighbours + length c.tags + 9 * length (present c.settings) ≤ space

-- there is room for the bytes behind what stands in the output
pub record HasRoom (out : Output) (laid : List ℕ) : Type 0 where
  pub room : out.at + length laid ≤ length out.bytes.now

-- The bytes are put behind what stands in the output, in the same lent bytes.
pub record Adds (old new : Output) (laid : List ℕ) : Type 0 where
  pub same : new.bytes.ghost_name ≡ old.bytes.ghost_name
  pub down : new.bytes.now ≡ placed old.bytes.now old.at laid
  pub next : new.at ≡ old.at + length laid
