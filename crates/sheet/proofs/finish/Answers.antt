-- `sheet::finish` meets its contract: at each return the tests that led there say which of the last two links of `fault_of` refuses, if any.
-- Assumes nothing.
use borrow.Author.Rules.{rules}
use mathlib.Core.Path.{◌≡◌, ap, ◌∙◌}
use lib.ListN.{length}
use Rattle.format.specs.TriesLaws.{handed}
use Rattle.sheet.specs.Answer.{checked}
use Rattle.sheet.proofs.Check.{end_left, end_missing, end_whole}
use Rattle.sheet.proofs.finish.Goals as goal

pub returns-then-not-is_empty : goal.returns-then-not-is_empty
returns-then-not-is_empty c =
    let a = c.args in
    end_left a.mesh.n a.mesh.t a.last.settings a.last.behind.now (search rules)

pub returns-in_err-missing_fault : goal.returns-in_err-missing_fault
returns-in_err-missing_fault c =
    let a = c.args in
    let e : length a.last.behind.now ≡ 0 = search rules in
    ap checked (handed _ _ c.from_residual.ensures.1)
    ∙ end_missing a.mesh.n a.mesh.t a.last.settings a.last.behind.now _ e c.in_err-missing_fault.ensures

pub returns : goal.returns
returns c =
    let a = c.args in
    let e : length a.last.behind.now ≡ 0 = search rules in
    end_whole a.mesh.n a.mesh.t a.last.settings a.last.behind.now _ e c.in_ok-missing_fault.ensures c.header_of.ensures
