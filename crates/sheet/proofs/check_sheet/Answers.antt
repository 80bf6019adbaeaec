-- `sheet::check_sheet` meets its contract: its steps are the links of `fault_of` in their order.
-- Assumes nothing.
use mathlib.Core.Path.{sym, ap, ◌∙◌}
use Rattle.format.specs.Sheet.{behind}
use Rattle.format.specs.TriesLaws.{handed}
use Rattle.sections.specs.Steps.{settings_read}
use Rattle.sheet.specs.Answer.{checked, ended}
use Rattle.sheet.proofs.Check.{check_mesh, check_settings, check_last}
use Rattle.sheet.proofs.check_sheet.Goals as goal

pub returns-in_err-mesh : goal.returns-in_err-mesh
returns-in_err-mesh c =
    ap checked (handed _ _ c.from_residual.ensures.1)
    ∙ check_mesh _ _ c.in_err-mesh.ensures.refused

pub returns-in_err-last : goal.returns-in_err-last
returns-in_err-last c =
    let m = c.in_ok-mesh.ensures in
    ap checked (handed _ _ c.from_residual-in_err-last.ensures.1)
    ∙ check_settings c.args.s.now _ m.refused (c.in_err-last.ensures.read ∙ ap settings_read m.holds.next)

pub returns : goal.returns
returns c =
    let m = c.in_ok-mesh.ensures in
    let last = c.in_ok-last.ensures in
    check_last c.args.s.now _ _ _ _ m.refused m.holds.n (sym m.holds.t) (last.read ∙ ap settings_read m.holds.next)
    (c.finish.ensures ∙ ap (ended _ _ _) (last.behind ∙ ap (behind 9) m.holds.next))
