-- Sections: a count and its numbers, read and written, for numbers of any width. Assumes nothing.
use Rattle.std.specs.Prelude.{ℕ, ◌+◌, ◌-◌, ◌*◌, ◌^◌, ◌≤◌, ◌<◌, ◌≡◌, leb, eqb, length, take}
use Rattle.std.proofs.Common.{sym, ap₂, ◌∙◌, subst, arith, leb-true, le-leb, eqb-true, eq-eqb, ne_eqb, length-append, length-drop, take-append-drop, take-add, take_all}
use Rattle.std.proofs.Math.Path.{ap}
use mathlib.Core.List.{List, ◌++◌, append_assoc}
use Rattle.std.proofs.lemmas.Bool.{lt-leb}
use Rattle.std.proofs.Math.ListN.{drop}
use Rattle.std.proofs.Math.Seq.{drop_at}
use Rattle.format.specs.Bytes.{Bytes, number, bytes, numbers, all_bytes}
use Rattle.format.specs.Refusal.{◌then◌, over, unlike}
use Rattle.format.specs.Sheet.{section, count, behind, cut, head_fault}
use Rattle.format.specs.BytesLaws.{Under, bytes_drop, length-bytes, length-all_bytes, number-bytes, bytes-number, numbers-all_bytes, all_bytes-numbers}
use Rattle.format.specs.RefusalLaws.{Neither, neither, then_none, passes, pick_true, pick_false}

-- ---- counts

pub over-le : {limit k : ℕ} → over limit k ≡ 0 → k ≤ limit
over-le {limit} {k} h = leb-true k limit (passes (leb k limit) 1 h)

pub le-over : {limit k : ℕ} → k ≤ limit → over limit k ≡ 0
le-over {limit} {k} h = pick_true 0 2 (le-leb k limit h)

pub unlike-eq : {e k : ℕ} → unlike e k ≡ 0 → k ≡ e
unlike-eq {e} {k} h = eqb-true k e (passes (eqb k e) 2 h)

pub eq-unlike : {e k : ℕ} → k ≡ e → unlike e k ≡ 0
eq-unlike {e} {k} h = pick_true 0 3 (eq-eqb k e h)

-- a count, and what follows it

pub over_refuses : (limit k b : ℕ) → limit < k → 2 ≡ (over limit k then b)
over_refuses limit k b h = sym (ap (λ (n : ℕ). n then b) (pick_false 0 2 (lt-leb k limit h)))

pub over_passes : (limit k r b : ℕ) → k ≤ limit → r ≡ b → r ≡ (over limit k then b)
over_passes limit k r b h e = e ∙ sym (ap (λ (n : ℕ). n then b) (pick_true 0 2 (le-leb k limit h)))

pub unlike_refuses : (e k b : ℕ) → (k ≡ e → ⊥) → 3 ≡ (unlike e k then b)
unlike_refuses e k b h = sym (ap (λ (n : ℕ). n then b) (pick_false 0 3 (ne_eqb k e h)))

pub unlike_passes : (e k r b : ℕ) → k ≡ e → r ≡ b → r ≡ (unlike e k then b)
unlike_passes e k r b h p = p ∙ sym (ap (λ (n : ℕ). n then b) (pick_true 0 3 (eq-eqb k e h)))

-- ---- a section of a sheet, before its items

pub record Head (rule : ℕ → ℕ) (size : ℕ) (s : List ℕ) : Type 0 where
  pub four : 4 ≤ length s
  pub counted : rule (count s) ≡ 0
  pub whole : 4 + size * count s ≤ length s

long : (k : ℕ) (s : List ℕ) → cut k s ≡ 0 → k ≤ length s
long k s h = leb-true k (length s) (passes (leb k (length s)) 0 h)

not_cut : (k : ℕ) (s : List ℕ) → k ≤ length s → cut k s ≡ 0
not_cut k s h = pick_true 0 1 (le-leb k (length s) h)

pub head_sound : (rule : ℕ → ℕ) (size : ℕ) (s : List ℕ) → head_fault rule size s ≡ 0 → Head rule size s
head_sound rule size s h =
    let p : Neither (cut 4 s) (rule (count s) then cut (4 + size * count s) s) = neither _ _ h in
    let q : Neither (rule (count s)) (cut (4 + size * count s) s) = neither _ _ p.second in
    record { four = long 4 s p.first; counted = q.first; whole = long (4 + size * count s) s q.second }

pub head_none : {rule : ℕ → ℕ} {size : ℕ} {s : List ℕ} → Head rule size s → head_fault rule size s ≡ 0
head_none {rule} {size} {s} h = then_none (not_cut 4 s h.four) (then_none h.counted (not_cut (4 + size * count s) s h.whole))

-- the part of a list from an index on, and the part behind a section
pub part_from : {A : Type 0} (k : ℕ) (s : List A) → take (length s - k) (drop k s) ≡ drop k s
part_from k s = take_all (length s - k) (drop k s) (omega (arith, length-drop k s))

pub part_behind : (size n : ℕ) (s : List ℕ) → n ≡ count s → take (length s - (4 + size * n)) (drop (4 + size * n) s) ≡ behind size s
unfolding behind
part_behind size n s e = part_from (4 + size * n) s ∙ ap (λ (k : ℕ). drop (4 + size * k) s) e

-- ---- from bytes and back

pub section_split : (w size k : ℕ) (s : List ℕ) → Bytes s → size * count s ≡ w * k → 4 + size * count s ≤ length s
    → section w (count s) (numbers w k (drop 4 s)) ++ behind size s ≡ s
unfolding section behind
section_split w size k s h e l =
    let f : 4 ≤ length s = omega arith in
    let m : w * k ≤ length (drop 4 s) = omega (arith, length-drop 4 s) in
    ap₂ (λ (x y : List ℕ). x ++ y)
    (ap₂ (λ (x y : List ℕ). x ++ y) (bytes-number 4 s h f) (all_bytes-numbers w k (drop 4 s) (bytes_drop 4 h) m) ∙ sym (take-add 4 (w * k) s))
    (ap (λ (n : ℕ). drop (4 + n) s) e)
    ∙ take-append-drop (4 + w * k) s

-- the same, where the section and what stands behind it are given otherwise
pub section_back : (w size k n : ℕ) (s xs t : List ℕ) → Bytes s → size * count s ≡ w * k → 4 + size * count s ≤ length s
    → n ≡ count s → xs ≡ numbers w k (drop 4 s) → t ≡ behind size s → section w n xs ++ t ≡ s
section_back w size k n s xs t h e l p q r =
    ap₂ (λ (x y : List ℕ). x ++ y) (ap₂ (section w) p q) r ∙ section_split w size k s h e l

pub bytes-behind : (size : ℕ) {s : List ℕ} → Bytes s → Bytes (behind size s)
unfolding behind
bytes-behind size {s} h = bytes_drop (4 + size * count s) h

-- ---- to bytes and back

pub length-section : (w k : ℕ) (xs : List ℕ) → length (section w k xs) ≡ 4 + w * length xs
unfolding section
length-section w k xs = rw (length-append, length-bytes, length-all_bytes)

module _ (w k : ℕ) (xs t : List ℕ) where
  apart : section w k xs ++ t ≡ bytes 4 k ++ (all_bytes w xs ++ t)
  unfolding section
  apart = append_assoc (bytes 4 k) (all_bytes w xs) t

  pub count-section : k < 2 ^ 32 → count (section w k xs ++ t) ≡ k
  count-section h = ap (number 4) apart ∙ number-bytes 4 k (all_bytes w xs ++ t) h

  items_section : drop 4 (section w k xs ++ t) ≡ all_bytes w xs ++ t
  items_section = ap (drop 4) apart ∙ drop_at (bytes 4 k) (all_bytes w xs ++ t) 4 (length-bytes 4 k)

  pub numbers-section : (n : ℕ) → n ≡ length xs → Under (256 ^ w) xs → numbers w n (drop 4 (section w k xs ++ t)) ≡ xs
  numbers-section n e u = ap₂ (numbers w) e items_section ∙ numbers-all_bytes w xs t u

  pub behind-section : (size : ℕ) → k < 2 ^ 32 → size * k ≡ w * length xs → behind size (section w k xs ++ t) ≡ t
  unfolding behind
  behind-section size h e =
      ap (λ (n : ℕ). drop (4 + size * n) (section w k xs ++ t)) (count-section h)
      ∙ drop_at (section w k xs) t (4 + size * k) (length-section w k xs ∙ ap (λ (n : ℕ). 4 + n) (sym e))

  pub head_section : (rule : ℕ → ℕ) (size : ℕ) → k < 2 ^ 32 → size * k ≡ w * length xs → rule k ≡ 0 → Head rule size (section w k xs ++ t)
  head_section rule size h e r =
      let c : count (section w k xs ++ t) ≡ k = count-section h in
      let l : length (section w k xs ++ t) ≡ 4 + w * length xs + length t = length-append (section w k xs) t ∙ ap (λ (n : ℕ). n + length t) (length-section w k xs) in
      let m : size * count (section w k xs ++ t) ≡ w * length xs = ap (λ (n : ℕ). size * n) c ∙ e in
      record { four = omega arith; counted = ap rule c ∙ r; whole = omega arith }

-- a sheet that goes on with a section
pub record Goes (w size k : ℕ) (xs t s : List ℕ) : Type 0 where
  pub counted : count s ≡ k
  pub items : (n : ℕ) → n ≡ length xs → numbers w n (drop 4 s) ≡ xs
  pub next : behind size s ≡ t
  pub head : (rule : ℕ → ℕ) → rule k ≡ 0 → Head rule size s

pub goes : (w size k : ℕ) (xs t s : List ℕ) → s ≡ section w k xs ++ t → k < 2 ^ 32 → size * k ≡ w * length xs → Under (256 ^ w) xs → Goes w size k xs t s
goes w size k xs t s e h m u =
    subst (Goes w size k xs t) (sym e)
    (record {
      counted = count-section w k xs t h;
      items = λ n p. numbers-section w k xs t n p u;
      next = behind-section w k xs t size h m;
      head = λ rule r. head_section w k xs t rule size h m r;
    })
