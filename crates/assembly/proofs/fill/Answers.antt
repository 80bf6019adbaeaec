-- The rows are put down over zeros. Assumes nothing.
use Rattle.std.proofs.Common.{rules, arith, ap, ◌∙◌, ℕ, List, length, replicate}
use Rattle.std.specs.Prelude.{Float}
use Rattle.binary64.specs.Constants.{plus_zero}
use Rattle.stretch.specs.Stretch.{splice}
use Rattle.laplace.specs.Placed.{values_of, columns_of}
use Rattle.laplace.specs.Rows.{rows_of, room_of}
use Rattle.laplace.proofs.LawsPlaced.{padded_on, length-values_of, length-columns_of}
use Rattle.laplace.proofs.LawsMatrix.{rows_few}
use Rattle.assembly.proofs.fill.Goals as goal

pub returns-clause-put : goal.returns-clause-put
returns-clause-put c =
    let pre = c.requires in
    let m = c.args.mesh.now in
    let rs = rows_of m (length m.tags.now) in
    let few = rows_few m pre.mesh (length m.tags.now) (omega arith) in
    let rows = c.fill-5.ensures.put in
    let put = rows.put in
    record {
      same = record { starts = rows.same.starts; cols = rows.same.cols; values = rows.same.values };
      total = put.total;
      starts = put.start;
      columns =
          put.columns ∙ ap (λ (l : List ℕ). splice l 0 (columns_of rs)) (c.fill-4.ensures.after (λ y h. search rules) ∙ ap (λ (n : ℕ). replicate n 0) pre.cols_long)
          ∙ padded_on (room_of m) 0 (columns_of rs) (omega (arith, few, length-columns_of rs));
      values =
          put.entries ∙ ap (λ (l : List Float). splice l 0 (values_of rs)) (c.fill-3.ensures.after (λ y h. search rules) ∙ ap (λ (n : ℕ). replicate n plus_zero) pre.values_long)
          ∙ padded_on (room_of m) plus_zero (values_of rs) (omega (arith, few, length-values_of rs));
    }
