-- `sections::mesh_fault` meets its contract: each section begins where the one before it ends.
-- Assumes nothing.
use mathlib.Core.Path.{ap, ap₂, ◌∙◌}
use Rattle.format.specs.Sheet.{count, behind, triangles_fault, neighbours_fault, tags_fault}
use Rattle.sections.specs.Steps.{mesh_fault}
use Rattle.format.specs.TriesLaws.{handed_on, fault_first, fault_second}
use Rattle.sections.proofs.mesh_fault.Goals as goal

pub returns-in_err-first-clause-refused : goal.returns-in_err-first-clause-refused
unfolding mesh_fault
returns-in_err-first-clause-refused c =
    handed_on _ _ c.from_residual.ensures.1 ∙ fault_first _ _ c.in_err-first.ensures.refused

pub returns-in_err-second-clause-refused : goal.returns-in_err-second-clause-refused
unfolding mesh_fault
returns-in_err-second-clause-refused c =
    let one = c.in_ok-first.ensures in
    handed_on _ _ c.from_residual-in_err-second.ensures.1
    ∙ fault_second _ one.refused
    (fault_first _ _ (c.in_err-second.ensures.refused ∙ ap₂ triangles_fault one.follows.counted one.follows.next))

pub returns-in_err-third-clause-refused : goal.returns-in_err-third-clause-refused
unfolding mesh_fault
returns-in_err-third-clause-refused c =
    let one = c.in_ok-first.ensures in
    let two = c.in_ok-second.ensures in
    handed_on _ _ c.from_residual-in_err-third.ensures.1
    ∙ fault_second _ one.refused
    (fault_second _ (two.refused ∙ ap₂ triangles_fault one.follows.counted one.follows.next)
    (fault_first _ _ (c.in_err-third.ensures.refused ∙ ap₂ neighbours_fault (two.follows.counted ∙ ap count one.follows.next) (two.follows.next ∙ ap (behind 12) one.follows.next))))

pub returns-in_err-fourth-clause-refused : goal.returns-in_err-fourth-clause-refused
unfolding mesh_fault
returns-in_err-fourth-clause-refused c =
    let one = c.in_ok-first.ensures in
    let two = c.in_ok-second.ensures in
    let three = c.in_ok-third.ensures in
    handed_on _ _ c.from_residual-in_err-fourth.ensures.1
    ∙ fault_second _ one.refused
    (fault_second _ (two.refused ∙ ap₂ triangles_fault one.follows.counted one.follows.next)
    (fault_second _ (three.refused ∙ ap₂ neighbours_fault (two.follows.counted ∙ ap count one.follows.next) (two.follows.next ∙ ap (behind 12) one.follows.next))
    (c.in_err-fourth.ensures.refused ∙ ap₂ tags_fault one.follows.counted (three.follows.next ∙ ap (behind 4) (two.follows.next ∙ ap (behind 12) one.follows.next)))))

pub returns : goal.returns
unfolding mesh_fault
returns c =
    let one = c.in_ok-first.ensures in
    let two = c.in_ok-second.ensures in
    let three = c.in_ok-third.ensures in
    let four = c.in_ok-fourth.ensures in
    let from3_is = two.follows.next ∙ ap (behind 12) one.follows.next in
    let from4_is = three.follows.next ∙ ap (behind 4) from3_is in
    record {
      refused =
          fault_second _ one.refused
          (fault_second _ (two.refused ∙ ap₂ triangles_fault one.follows.counted one.follows.next)
          (fault_second _ (three.refused ∙ ap₂ neighbours_fault (two.follows.counted ∙ ap count one.follows.next) from3_is)
          (four.refused ∙ ap₂ tags_fault one.follows.counted from4_is)));
      holds = record {
        n = one.follows.counted;
        t = two.follows.counted ∙ ap count one.follows.next;
        next = four.follows.next ∙ ap (behind 1) from4_is;
      };
    }
