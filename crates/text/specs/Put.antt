-- What a function that puts text into lent bytes does, and a text of which a part is still to be put. Definitions only. Assumes nothing.
use Rattle.std.specs.Prelude.{◌≡◌, List, ℕ, ◌+◌, ◌≤◌, length, take}
use Rattle.stretch.specs.Stretch.{splice}
use Rattle.text.specs.declared.Shown.{Shown}
use Rattle.text.specs.declared.raw.Output.{Output}
use Rattle.text.specs.Text.{run_text}

-- The text stands from `at` on, and nothing else is changed; next is the place behind it. s is the buffer before, l after.
pub record Puts (s : List ℕ) (at : ℕ) (text : List ℕ) (next : ℕ) (l : List ℕ) : Type 0 where
  pub is : l ≡ splice s at text
  pub goes : next ≡ at + length text
  pub long : length l ≡ length s

-- The same of a whole text, with what lending the bytes before `next` asks.
pub record Printed (s : List ℕ) (at : ℕ) (text : List ℕ) (next : ℕ) (l : List ℕ) : Type 0 where
  pub puts : Puts s at text next l
  pub within : next ≤ length l
  pub front : next ≡ length (take next l)

-- there is room for the text behind what stands in the output
abbrev pub Room : Output → List ℕ → Type 0
Room o text = o.at + length text ≤ length o.bytes.now

-- The text is put behind what stands in the output, in the same lent bytes.
pub record Adds (old new : Output) (text : List ℕ) : Type 0 where
  pub same : new.bytes.ghost_name ≡ old.bytes.ghost_name
  pub put : Puts old.bytes.now old.at text new.at new.bytes.now

-- Putting the rest from `next` on into the buffer, as it is now, puts the text from `at` on into the old one.
pub record LeftAt (s : List ℕ) (at : ℕ) (text : List ℕ) (l : List ℕ) (next : ℕ) (rest : List ℕ) : Type 0 where
  pub is : splice l next rest ≡ splice s at text
  pub goes : next + length rest ≡ at + length text
  pub long : length l ≡ length s

-- The same of an output: putting the rest into it, as it is now, puts the text into the old one.
pub record Left (old : Output) (text : List ℕ) (now : Output) (rest : List ℕ) : Type 0 where
  pub same : now.bytes.ghost_name ≡ old.bytes.ghost_name
  pub left : LeftAt old.bytes.now old.at text now.bytes.now now.at rest

-- the text of what is printed of a run
abbrev pub text_of : Shown → List ℕ
text_of s = run_text s.place s.field_end s.path_end s.field.now s.norms.now s.gradients.now s.points.now
