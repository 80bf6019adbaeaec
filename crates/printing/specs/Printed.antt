-- What the program `spiral` prints of a sheet's bytes (document 01, Length, writer, program), as bytes, and what the lent buffers hold afterwards. Definitions only. Assumes nothing.
use Rattle.std.specs.Prelude.{ℕ, ◌+◌, ◌≡◌, List, ltb, eqb, length, take, None}
use Rattle.binary64.specs.Number.{pick}
use Rattle.format.specs.Sheet.{Parsed, accepted, refused, parse}
use Rattle.pde.specs.Path.{coordinates_of}
use Rattle.model.specs.Task.{Task, task}
use Rattle.model.specs.Space.{path_space}
use Rattle.model.specs.Machine.{Space, Counter, needs, short}
use Rattle.model.specs.Run.{State, at, last_place}
use Rattle.image.specs.Calls.{Buffers}
use Rattle.image.specs.Image.{image, rest_of}
use Rattle.image.specs.Shown.{lengths_of}
use Rattle.text.specs.Text.{run_text, refused_text}
use Rattle.text.specs.Put.{Printed}

-- ---- the limits

-- the most bytes of a sheet
abbrev pub most_bytes : ℕ
most_bytes = 65536

-- float, whole-number and point places
abbrev pub places : Space
places = record { floats = 8192; words = 16384; path = path_space 4096 }

-- ---- the text

-- what stands at a place of the uninterrupted run
unfoldable pub state_text : ℕ → State → List ℕ
state_text place s = run_text place s.field.end s.trail.walk.end s.field.solve.x s.field.norms s.trail.gradients (coordinates_of s.trail.path)

-- of a task: its last place, where the places suffice
unfoldable pub task_text : Task → List ℕ
unfolding state_text
task_text c = pick (eqb (short (needs c) places) 0) (state_text (last_place c) (at c (last_place c))) (refused_text 8)

abbrev pub parsed_text : Parsed → List ℕ
parsed_text (refused k) = refused_text k
parsed_text (accepted c) = task_text (task c)

-- too many bytes come before any other refusal
unfoldable pub printed : List ℕ → List ℕ
printed sheet = pick (ltb most_bytes (length sheet)) (refused_text 8) (parsed_text (parse sheet))

-- ---- the lent buffers

-- the machine at the last place, after one advance
abbrev pub at_last : Task → Counter
at_last c = record { place = last_place c; mark = None; passes = last_place c }

-- as they were where the sheet or the space is refused; else those of the last place
abbrev pub parsed_buffers : Parsed → Buffers → Buffers
parsed_buffers (refused k) b = b
parsed_buffers (accepted c) b = pick (eqb (short (needs (task c)) (lengths_of b)) 0) (image (task c) (at_last (task c)) (rest_of (task c) b)) b

unfoldable pub printed_buffers : List ℕ → Buffers → Buffers
printed_buffers sheet b = pick (ltb most_bytes (length sheet)) b (parsed_buffers (parse sheet) b)

-- what `print_sheet` ensures: the text from the front of the lent bytes on, how many bytes it has, and every lent place
pub record Prints (sheet : List ℕ) (b : Buffers) (out : List ℕ) (r : ℕ) (b' : Buffers) (out' : List ℕ) : Type 0 where
  pub text : Printed out 0 (printed sheet) r out'
  pub held : b' ≡ printed_buffers sheet b

-- what `print_read` ensures: the space has one byte more than a sheet may have, so that too many are seen, and what was read into it is printed
pub record PrintsRead (space : List ℕ) (got : ℕ) (b : Buffers) (out : List ℕ) (r : ℕ) (b' : Buffers) (out' : List ℕ) : Type 0 where
  pub one_more : length space ≡ most_bytes + 1
  pub prints : Prints (take got space) b out r b' out'
