-- What the calls on a sheet answer, by the definitions of the format (document 01, sections Sheet and Length, writer, program). Definitions only.
-- Assumes nothing.
use Rattle.std.specs.Prelude.{ℕ, zero, suc, ◌+◌, ◌*◌, List, eqb, length, Result, Ok, Err}
use Rattle.binary64.specs.Number.{pick}
use Rattle.format.specs.declared.Settings.{Settings}
use Rattle.format.specs.Content.{Content, vertex_count, triangle_count}
use Rattle.format.specs.Refusal.{◌then◌, missing}
use Rattle.format.specs.Sheet.{behind, Parsed, accepted, refused}
use Rattle.sheet.specs.declared.Header.{Header}
use Rattle.refusal.specs.Refusal.{number_of}
use Rattle.refusal.specs.declared.Refusal.{Refusal}

-- ---- a sheet that is checked

-- the header of a sheet that is accepted, or the number of what refuses it
pub data Checked : Type 0 where
  Accepted : Header → Checked
  Refused : ℕ → Checked

-- what the check answers
abbrev pub checked : Result Header Refusal → Checked
checked (Ok h) = Accepted h
checked (Err r) = Refused (number_of r)

-- Where the items of sections 1 to 4 start: each section is a count of 4 bytes, and 16, 12, 4 and 1 bytes an item.
abbrev pub header_by : ℕ → ℕ → Settings → Header
header_by n t s = record {
  n = n;
  t = t;
  vertices = 4;
  triangles = 8 + 16 * n;
  neighbours = 12 + 16 * n + 12 * t;
  tags = 16 + 16 * n + 24 * t;
  settings = s;
}

abbrev pub header_of : Content → Header
header_of c = header_by (vertex_count c) (triangle_count c) c.settings

-- the number, or the header of the content
abbrev pub checked_of : Parsed → Checked
checked_of (accepted c) = Accepted (header_of c)
checked_of (refused k) = Refused k

abbrev pub checked_by : ℕ → Header → Checked
checked_by zero h = Accepted h
checked_by (suc k) h = Refused (suc k)

-- s is what stands behind section 5
abbrev pub ended : ℕ → ℕ → Settings → List ℕ → Checked
ended n t st s = checked_by (pick (eqb (length s) 0) 0 1 then missing st) (header_by n t st)

-- s is the sheet from section 5 on
unfoldable pub finished : ℕ → ℕ → Settings → List ℕ → Checked
finished n t st s = ended n t st (behind 9 s)
