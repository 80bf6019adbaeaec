-- `Counted::matrix` meets its contract: its slices are the parts of the two buffers. Assumes nothing.
use Rattle.std.specs.Prelude.{◌≡◌, ◌+◌, ◌*◌}
use Rattle.std.proofs.Common.{arith, ap, ◌∙◌}
use lib.ListN.{length}
use Rattle.stretch.specs.StretchLaws.{length_part, part_lent}
use Rattle.sparse.specs.ByRowsLaws.{matrix_of_parts, by_rows_of_parts}
use Rattle.work.specs.Layout as Layout
use Rattle.work.proofs.layout.Counted.matrix.Goals as goal

pub invariant_of-result : goal.invariant_of-result
invariant_of-result c =
    let a = c.args in
    let n = a.self.now.plan.n in
    let t = a.self.now.plan.t in
    record {
      by_rows = by_rows_of_parts a.words.now a.floats.now (Layout.matrix_at n t) c.requires.sound (omega (arith, c.requires.values)) c.row_words.ensures.starts c.row_words.ensures.columns
          (rw (c.places-values.ensures, c.entries.ensures) (part_lent a.floats.now (4 * n) (4 * n + (9 * t + n)) (9 * t + n) (omega arith)));
    }

pub returns-clause-is : goal.returns-clause-is
returns-clause-is c =
    let a = c.args in
    let n = a.self.now.plan.n in
    let t = a.self.now.plan.t in
    matrix_of_parts a.words.now a.floats.now (Layout.matrix_at n t) c.requires.sound (omega (arith, c.requires.values)) c.row_words.ensures.starts c.row_words.ensures.columns
    (rw (c.places-values.ensures, c.entries.ensures) (part_lent a.floats.now (4 * n) (4 * n + (9 * t + n)) (9 * t + n) (omega arith)))

pub returns-clause-long : goal.returns-clause-long
returns-clause-long c =
    let a = c.args in
    let n = a.self.now.plan.n in
    let t = a.self.now.plan.t in
    let l = ap length c.row_words.ensures.starts ∙ length_part a.words.now (Layout.at_starts n t) (n + 1) (omega (arith, c.requires.sound.starts_fit)) in
    omega (arith, l)
