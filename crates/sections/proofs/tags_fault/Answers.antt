-- `sections::tags_fault` meets its contract: its head is tested, and then each number of its items.
-- Assumes nothing.
use borrow.Author.Rules.{rules}
use Prim.Native.Nat.{ℕ}
use mathlib.Core.Path.{◌≡◌, ap, ◌∙◌}
use mathlib.Core.List.{List}
use Rattle.format.specs.Refusal.{unlike}
use Rattle.format.specs.Sheet.{head_fault, tags_fault}
use Rattle.format.specs.TriesLaws.{handed_on, fault_first}
use Rattle.sections.proofs.Scan.{tags_tested}
use Rattle.sections.proofs.tags_fault.Goals as goal

-- the count that the rule asks for is the one that the section has to have
as_many : (m n : ℕ) (s : List ℕ) (k : ℕ) → k ≡ head_fault (unlike m) 1 s → m ≡ n → k ≡ head_fault (unlike n) 1 s
as_many m n s k h e = h ∙ ap (λ (x : ℕ). head_fault (unlike x) 1 s) e

pub returns-in_err-section-clause-refused : goal.returns-in_err-section-clause-refused
unfolding tags_fault
returns-in_err-section-clause-refused c = handed_on _ _ c.from_residual.ensures.1 ∙ fault_first _ _ (as_many _ c.args.n _ _ c.in_err-section.ensures.refused (search rules))

pub returns-in_err-each-clause-refused : goal.returns-in_err-each-clause-refused
returns-in_err-each-clause-refused c =
    let h = c.in_ok-section.ensures in
    handed_on _ _ c.from_residual-in_err-each.ensures.1 ∙ tags_tested _ _ _ _ _ c.args.n (λ x y p. search rules) (as_many _ c.args.n _ _ h.refused (search rules)) h.follows.items c.as_chunks.ensures.front c.in_err-each.ensures

pub returns-clause-refused : goal.returns-clause-refused
returns-clause-refused c =
    let h = c.in_ok-section.ensures in
    tags_tested _ _ _ _ _ c.args.n (λ x y p. search rules) (as_many _ c.args.n _ _ h.refused (search rules)) h.follows.items c.as_chunks.ensures.front c.in_ok-each.ensures
