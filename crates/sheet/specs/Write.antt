-- What writing a sheet answers and leaves (document 01, Length, writer, program): the reader's refusals, then 8 where the buffer is shorter than the sheet. Definitions only.
-- Assumes nothing.
use Rattle.std.specs.Prelude.{ℕ, zero, suc, ◌≡◌, ◌≤◌, List, ◌++◌, leb, length, drop, Result, Ok, Err}
use Rattle.binary64.specs.Number.{pick}
use Rattle.format.specs.Content.{Content}
use Rattle.format.specs.Refusal.{◌then◌, present, refusal_of}
use Rattle.format.specs.Sheet.{bytes_of}
use Rattle.refusal.specs.Refusal.{number_of}
use Rattle.refusal.specs.declared.Refusal.{Refusal}
pub use Rattle.writing.specs.Write.{content_by, lent}

-- what refuses a content with so much space
unfoldable pub write_refusal : Content → ℕ → ℕ
write_refusal c space = refusal_of c then pick (leb (length (bytes_of c)) space) 0 8

-- how many bytes a sheet that was written has, or the number of what refused it
pub data Written : Type 0 where
  Bytes : ℕ → Written
  Refused : ℕ → Written

-- what the writer answers
abbrev pub written : Result ℕ Refusal → Written
written (Ok n) = Bytes n
written (Err r) = Refused (number_of r)

abbrev pub written_by : ℕ → ℕ → Written
written_by zero n = Bytes n
written_by (suc k) n = Refused (suc k)

-- where nothing refuses, the front holds the sheet and the rest is as it was; else all is
abbrev pub buffer_by : ℕ → List ℕ → List ℕ → List ℕ
buffer_by zero bytes out = bytes ++ drop (length bytes) out
buffer_by (suc k) bytes out = out

-- a content that is not refused is small
pub record Small (c : Content) : Type 0 where
  pub pairs : length c.vertices ≤ 8192
  pub triples : length c.triangles ≤ 24576
  pub edges : length c.neighbours ≤ 24576
  pub tagged : length c.tags ≤ 4096
  pub settings : length (present c.settings) ≤ 6

-- a buffer, what is answered, and the buffer after it
pub record Writes (c : Content) (out : List ℕ) (answer : Written) (last : List ℕ) : Type 0 where
  pub said : answer ≡ written_by (write_refusal c (length out)) (length (bytes_of c))
  pub left : last ≡ buffer_by (write_refusal c (length out)) (bytes_of c) out
