-- What is printed on the way, of any record and buffers: what a run shows, and what stands after an advance to the last place. Definitions only. Assumes nothing.
use Rattle.std.specs.Prelude.{ℕ, ◌+◌, ◌*◌, ◌≤◌, ◌≡◌, List, eqb, length, Float}
use Rattle.binary64.specs.Number.{pick}
use Rattle.model.specs.Machine.{Call, advance}
use Rattle.work.specs.declared.Run.{Run}
use Rattle.image.specs.Calls.{Buffers, fault, run_after, buffers_after}
use Rattle.image.specs.Parts.{field_of, norms_of, gradients_of}
use Rattle.image.specs.Points.{points_of}
use Rattle.text.specs.Text.{run_text, refused_text}
use Rattle.text.specs.Put.{Printed}

-- the bytes suffice for the text of lists that stand in these buffers
pub record Room (floats path : List Float) (out : List ℕ) : Type 0 where
  pub fits : 67 + (19 * (2 * length floats) + 18 * (length floats + length path)) ≤ length out

unfoldable pub shown_text : Run → List Float → List Float → List ℕ
shown_text r floats path =
    run_text r.stand.place r.stand.end r.stand.walk.end (field_of r floats) (norms_of r floats) (gradients_of r floats) (points_of r path)

-- more places than any run has
abbrev pub far : Call
far = advance 4294967295

unfoldable pub last_text : Run → Buffers → List ℕ
unfolding shown_text
last_text r b = pick (eqb (fault far r b) 0) (shown_text (run_after far r b) (buffers_after far r b).floats (buffers_after far r b).path) (refused_text (fault far r b))

-- what `put_last` ensures
pub record PutsLast (r : Run) (b : Buffers) (out : List ℕ) (k : ℕ) (b' : Buffers) (out' : List ℕ) : Type 0 where
  pub text : Printed out 0 (last_text r b) k out'
  pub held : b' ≡ buffers_after far r b
