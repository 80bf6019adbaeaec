-- A count that is not refused, and what section 5 answers: its items, where its head is not refused. Assumes nothing.
use Prim.Native.Nat.{ℕ, ◌*◌, ◌/◌, ◌≤◌}
use mathlib.Core.Path.{◌≡◌, refl, sym, ap, ap₂, ◌∙◌}
use mathlib.Core.List.{List, map}
use native.Mathlib.Omega.{arith}
use lib.ListN.{length, take, drop}
use Rattle.std.proofs.Common.{drop-drop}
use Rattle.std.specs.Simd.{first_chunks}
use Rattle.format.specs.Bytes.{number}
use Rattle.format.specs.Refusal.{over}
use Rattle.format.specs.Content.{max_settings}
use Rattle.format.specs.Sheet.{count, behind, items_in, item_setting, in_turn, no_settings, gathered, head_fault, settings_fault}
use Rattle.format.specs.RefusalLaws.{then_second}
use Rattle.format.specs.SectionLaws.{over-le, unlike-eq, head_sound}
use Rattle.format.specs.LeLaws.{numbers_pieces}
use Rattle.sections.specs.declared.Rule.{Rule}
use Rattle.sections.specs.declared.Rule.TheVariants.{AtMost, Exactly}
use Rattle.sections.proofs.Scan.{pieces}
use Rattle.sections.specs.Steps.{rule_of, most, items_by, items_read, settings_read}

pub few : (rule : Rule) (k : ℕ) → 0 ≡ rule_of rule k → k ≤ most rule
few (AtMost limit) k h = over-le (sym h)
few (Exactly expected) k h = omega (arith, unlike-eq (sym h))

-- the part behind a count, split at the end of n items
pub split_items : (size n : ℕ) (s rest : List ℕ) → n ≡ count s → rest ≡ drop 4 s → take (size * n) rest ≡ take (size * count s) (drop 4 s)
split_items size n s rest e f = ap₂ take (ap (λ (k : ℕ). size * k) e) f

pub split_behind : (size n : ℕ) (s rest : List ℕ) → n ≡ count s → rest ≡ drop 4 s → drop (size * n) rest ≡ behind size s
unfolding behind
split_behind size n s rest e f = ap₂ drop (ap (λ (k : ℕ). size * k) e) f ∙ drop-drop (size * count s) 4 s

pub settings_read_lem : (s : List ℕ) → head_fault (over max_settings) 9 s ≡ 0 → items_read (items_in s) ≡ settings_read s
unfolding items_read settings_read settings_fault
settings_read_lem s e = ap (λ (k : ℕ). items_by k (gathered no_settings (map item_setting (items_in s)))) (sym (then_second (in_turn 0 (items_in s)) e))

-- what is read of the items behind a head that is not refused
pub items_back : (s items : List ℕ) (part : List (List ℕ)) → 0 ≡ head_fault (over max_settings) 9 s → items ≡ take (9 * count s) (drop 4 s) → part ≡ first_chunks 9 (length items / 9) items
    → items_read (map (number 9) part) ≡ settings_read s
items_back s items part h i e =
    let l = (head_sound (over max_settings) 9 s (sym h)).whole in
    ap (λ (x : List (List ℕ)). items_read (map (number 9) x)) (e ∙ pieces 9 9 (count s) s items (omega arith) l i refl)
    ∙ ap items_read (numbers_pieces 9 (count s) (drop 4 s))
    ∙ settings_read_lem s (sym h)
