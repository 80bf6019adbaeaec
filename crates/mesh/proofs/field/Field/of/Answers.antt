-- `Field::of` meets its contract: the mesh is what `Mesh::of` ensures, and the values are the n numbers from u. Assumes nothing.
use Rattle.std.proofs.Common.{◌≡◌, ℕ, ◌+◌, ◌-◌, ◌∙◌, sym, ap, List, length, arith}
use Rattle.stretch.specs.Stretch.{part}
use Rattle.stretch.specs.StretchLaws.{length_part}
use Rattle.mesh.specs.Work.{tags_of, field_of}
use Rattle.mesh.proofs.field.Field.of.Goals as goal

from : (u n : ℕ) → u + n - u ≡ n
from u n = omega arith

pub invariant_of-result : goal.invariant_of-result
unfolding part tags_of
invariant_of-result c =
    let a = c.args in
    let w = c.requires.meshed.linked in
    record {
      one_each = rw (from a.u a.n) (length_part a.floats.now a.u a.n c.requires.field_fits ∙ sym (length_part a.words.now _ a.n w.tags_fit) ∙ ap (λ (l : List ℕ). length l) (sym c.of.ensures.tags));
    }

pub returns : goal.returns
unfolding part field_of
returns c = record { mesh = c.of.ensures; values = rw (from c.args.u c.args.n) }
