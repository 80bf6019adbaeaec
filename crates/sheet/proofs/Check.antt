-- The whole check: its steps are the links of `fault_of`, its places those of the sections, and its answer that of `parse`. Assumes nothing.
use Prim.Native.Nat.{ℕ, zero, suc}
use native.Mathlib.Omega.{arith}
use mathlib.Core.Path.{◌≡◌, refl, sym, ap, ap₂, ◌∙◌}
use mathlib.Core.List.{List, map}
use borrow.Author.Tests.{eq-eqb, ne_eqb}
use lib.Dec.{eqb}
use lib.ListN.{length}
use Rattle.binary64.specs.Number.{pick}
use Rattle.format.specs.declared.Settings.{Settings}
use Rattle.format.specs.Bytes.{number}
use Rattle.format.specs.Refusal.{◌then◌, missing}
use Rattle.format.specs.Sheet.{count, from2, from3, from4, from5, leftover, items_in, item_setting, no_settings, gathered, content_of, vertices_fault, triangles_fault, neighbours_fault, tags_fault, settings_fault, fault_of, decide, parse}
use Rattle.format.specs.RefusalLaws.{then_assoc, then_second, refused_first, pick_true, pick_false}
use Rattle.format.specs.SheetLaws.{vertex_count_lem, triangle_count_lem}
use Rattle.sheet.specs.declared.Header.{Header}
use Rattle.refusal.specs.Refusal.{number_of}
use Rattle.refusal.specs.declared.Refusal.{Refusal}
use Rattle.format.specs.TriesLaws.{refused, fault_second}
use Rattle.sections.specs.Steps as steps
use Rattle.sheet.specs.Answer.{Checked, Accepted, Refused, header_by, header_of, checked_of, checked_by, ended}
use Rattle.sections.specs.Steps.{mesh_fault, items_by, settings_read}
use Rattle.sheet.proofs.Answers as answers

-- ---- the last tests

module _ (n t : ℕ) (st : Settings) (s : List ℕ) where
  pub end_left : (length s ≡ 0 → ⊥) → Refused 1 ≡ ended n t st s
  end_left h = sym (ap (λ (k : ℕ). checked_by (k then missing st) (header_by n t st)) (pick_false 0 1 (ne_eqb (length s) 0 h)))

  none_left : length s ≡ 0 → pick {A = ℕ} (eqb (length s) 0) 0 1 ≡ 0
  none_left h = pick_true 0 1 (eq-eqb _ _ h)

  pub end_missing_number : (k : ℕ) → length s ≡ 0 → k ≡ missing st → (k ≡ 0 → ⊥) → Refused k ≡ ended n t st s
  end_missing_number k h p z = answers.refused_number k (header_by n t st) (p ∙ sym (then_second (missing st) (none_left h))) z

  pub end_missing : (x : Refusal) → length s ≡ 0 → number_of x ≡ missing st → Refused (number_of x) ≡ ended n t st s
  end_missing x h p = end_missing_number (number_of x) h p (refused x)

  pub end_whole : (r : Header) → length s ≡ 0 → 0 ≡ missing st → r ≡ header_by n t st → Accepted r ≡ ended n t st s
  end_whole r h p q = sym (ap₂ checked_by (then_second (missing st) (none_left h) ∙ sym p) (sym q))

-- ---- the answer

pub fault_steps : (b : List ℕ) → fault_of b ≡ (mesh_fault b then (settings_fault (from5 b) then (pick (eqb (length (leftover b)) 0) 0 1 then missing (content_of b).settings)))
unfolding fault_of mesh_fault
fault_steps b =
    sym (then_assoc (vertices_fault b) _ _
    ∙ ap (λ (k : ℕ). vertices_fault b then k)
    (then_assoc (triangles_fault (count b) (from2 b)) _ _
    ∙ ap (λ (k : ℕ). triangles_fault (count b) (from2 b) then k) (then_assoc (neighbours_fault (count (from2 b)) (from3 b)) (tags_fault (count b) (from4 b)) _)))

checked_by_lem : (b : List ℕ) → checked_of (parse b) ≡ checked_by (fault_of b) (header_of (content_of b))
unfolding parse
checked_by_lem b = go (fault_of b)
  where
    go : (k : ℕ) → checked_of (decide k (content_of b)) ≡ checked_by k (header_of (content_of b))
    go zero = refl
    go (suc k) = refl

pub check_mesh_number : (b : List ℕ) (k : ℕ) → k ≡ mesh_fault b → (k ≡ 0 → ⊥) → Refused k ≡ checked_of (parse b)
check_mesh_number b k p z = answers.refused_number k (header_of (content_of b)) (refused_first k _ p z ∙ sym (fault_steps b)) z ∙ sym (checked_by_lem b)

pub check_mesh : (b : List ℕ) (e : Refusal) → number_of e ≡ mesh_fault b → Refused (number_of e) ≡ checked_of (parse b)
check_mesh b e p = check_mesh_number b (number_of e) p (refused e)

-- what section 5 answers
items_refused : (k a : ℕ) (st : Settings) → steps.Refused k ≡ items_by a st → (k ≡ a) × (k ≡ 0 → ⊥)
items_refused k zero st e = (cc, λ z. (let y : ◌≡◌ {A = ℕ} 0 1 = cc in omega arith))
items_refused k (suc a) st e =
    let f : k ≡ suc a = cc in
    (f, λ z. (let y : suc a ≡ 0 = sym f ∙ z in omega arith))

pub record ItemsRead (st : Settings) (a : ℕ) (st' : Settings) : Type 0 where
  pub clean : a ≡ 0
  pub settings : st ≡ st'

items_read_lem : (a : ℕ) (st st' : Settings) → steps.Read st ≡ items_by a st' → ItemsRead st a st'
items_read_lem zero st st' e = record { clean = refl; settings = cc }
items_read_lem (suc a) st st' e = record { clean = cc; settings = cc }

pub check_settings_number : (b : List ℕ) (k : ℕ) → 0 ≡ mesh_fault b → steps.Refused k ≡ settings_read (from5 b) → Refused k ≡ checked_of (parse b)
unfolding settings_read
check_settings_number b k z p =
    let i = items_refused _ _ _ p in
    answers.refused_number k (header_of (content_of b)) (fault_second _ z (refused_first k _ i.0 i.1) ∙ sym (fault_steps b)) i.1 ∙ sym (checked_by_lem b)

pub check_settings : (b : List ℕ) (x : Refusal) → 0 ≡ mesh_fault b → steps.Refused (number_of x) ≡ settings_read (from5 b) → Refused (number_of x) ≡ checked_of (parse b)
check_settings b x z p = check_settings_number b (number_of x) z p

pub check_last : (b : List ℕ) (n t : ℕ) (st : Settings) (r : Checked) → 0 ≡ mesh_fault b → n ≡ number 4 b → count (from2 b) ≡ t → steps.Read st ≡ settings_read (from5 b)
    → r ≡ ended n t st (leftover b) → r ≡ checked_of (parse b)
unfolding settings_read content_of
check_last b n t st r z en et p q =
    let s : ItemsRead st (settings_fault (from5 b)) (gathered no_settings (map item_setting (items_in (from5 b)))) = items_read_lem _ _ _ p in
    let c : st ≡ (content_of b).settings = s.settings in
    q
    ∙ ap (λ (x : Settings). checked_by (pick (eqb (length (leftover b)) 0) 0 1 then missing x) (header_by n t x)) c
    ∙ ap₂ checked_by
    (fault_second _ z (fault_second _ (sym s.clean) refl) ∙ sym (fault_steps b))
    (ap₂ (λ (x y : ℕ). header_by x y (content_of b).settings) (en ∙ sym (vertex_count_lem b)) (sym et ∙ sym (triangle_count_lem b)))
    ∙ sym (checked_by_lem b)
