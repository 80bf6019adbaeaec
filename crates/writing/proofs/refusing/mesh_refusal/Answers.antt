-- `writing::refusing::mesh_refusal` meets its contract: its steps are those of the definition.
-- Assumes nothing.
use mathlib.Core.Path.{sym, ap, ◌∙◌}
use Prim.Native.Nat.{ℕ, ◌≤◌}
use Rattle.std.proofs.Common.{subst}
use Rattle.format.specs.TriesLaws.{handed_on, fault_first, fault_second}
use Rattle.writing.specs.Write.{mesh_refusal, triangles_refusal, neighbours_refusal, tags_refusal}
use Rattle.writing.proofs.Whole.{triangles_few}
use Rattle.writing.proofs.refusing.mesh_refusal.Goals as goal

pub returns-in_err-vertices_refusal : goal.returns-in_err-vertices_refusal
unfolding mesh_refusal
returns-in_err-vertices_refusal c =
    handed_on _ _ c.from_residual.ensures.1 ∙ fault_first _ _ c.in_err-vertices_refusal.ensures

pub returns-in_err-triangles_refusal : goal.returns-in_err-triangles_refusal
unfolding mesh_refusal
returns-in_err-triangles_refusal c =
    let x = c.args.content.now in
    handed_on _ _ c.from_residual-in_err-triangles_refusal.ensures.1
    ∙ fault_second _ c.in_ok-vertices_refusal.ensures
    (fault_first _ _ (c.in_err-triangles_refusal.ensures ∙ ap (λ (n : ℕ). triangles_refusal n x.triangles.now) c.vertex_count-n.ensures))

pub neighbours_refusal-requires : goal.neighbours_refusal-requires
neighbours_refusal-requires c =
    subst (λ (t : ℕ). t ≤ 8192) (sym c.triangle_count-t.ensures) (triangles_few _ c.args.content.now.triangles.now (sym c.in_ok-triangles_refusal.ensures))

pub returns-in_err-neighbours_refusal : goal.returns-in_err-neighbours_refusal
unfolding mesh_refusal
returns-in_err-neighbours_refusal c =
    let x = c.args.content.now in
    handed_on _ _ c.from_residual-in_err-neighbours_refusal.ensures.1
    ∙ fault_second _ c.in_ok-vertices_refusal.ensures
    (fault_second _ (c.in_ok-triangles_refusal.ensures ∙ ap (λ (n : ℕ). triangles_refusal n x.triangles.now) c.vertex_count-n.ensures)
    (fault_first _ _ (c.in_err-neighbours_refusal.ensures ∙ ap (λ (t : ℕ). neighbours_refusal t x.neighbours.now) c.triangle_count-t.ensures)))

pub returns : goal.returns
unfolding mesh_refusal
returns c =
    let x = c.args.content.now in
    fault_second _ c.in_ok-vertices_refusal.ensures
    (fault_second _ (c.in_ok-triangles_refusal.ensures ∙ ap (λ (n : ℕ). triangles_refusal n x.triangles.now) c.vertex_count-n.ensures)
    (fault_second _ (c.in_ok-neighbours_refusal.ensures ∙ ap (λ (t : ℕ). neighbours_refusal t x.neighbours.now) c.triangle_count-t.ensures)
    (c.tags_refusal.ensures ∙ ap (λ (n : ℕ). tags_refusal n x.tags.now) c.vertex_count-n.ensures)))
