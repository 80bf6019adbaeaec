-- The answers of the check and of the writer, each from the number that was found. Assumes nothing.
use Prim.Native.Nat.{ℕ, zero, suc, ◌≤◌, ◌<◌}
use mathlib.Core.Path.{◌≡◌, refl, sym, ap, ◌∙◌}
use mathlib.Core.List.{List}
use native.Mathlib.Omega.{arith}
use borrow.Author.Tests.{le-leb, lt-leb}
use lib.Dec.{leb}
use lib.ListN.{length}
use Rattle.binary64.specs.Number.{pick}
use Rattle.format.specs.Content.{Content, vertex_count, triangle_count}
use Rattle.format.specs.Place.{placed}
use Rattle.format.specs.Refusal.{◌then◌, refusal_of}
use Rattle.format.specs.Sheet.{bytes_of}
use Rattle.format.specs.PlaceLaws.{placed-front}
use Rattle.format.specs.RefusalLaws.{then_second, pick_true, pick_false}
use Rattle.format.specs.SettingLaws.{present_few}
use Rattle.format.specs.SheetLaws.{Clean, clean}
use Rattle.sheet.specs.declared.Header.{Header}
use Rattle.refusal.specs.Refusal.{number_of}
use Rattle.refusal.specs.declared.Refusal.{Refusal}
use Rattle.format.specs.TriesLaws as tries
use Rattle.sheet.specs.Answer.{Checked, Accepted, checked_by}
use Rattle.sheet.specs.Answer as answer
use Rattle.sheet.specs.Write.{Written, Bytes, Refused, write_refusal, written_by, buffer_by, Small, Writes}

-- ---- a sheet that is checked

pub refused_number : (k : ℕ) {a : ℕ} (h : Header) → k ≡ a → (k ≡ 0 → ⊥) → answer.Refused k ≡ checked_by a h
refused_number zero h e z = absurd (z refl)
refused_number (suc k) h e z = ap (λ (n : ℕ). checked_by n h) e

pub refused : (e : Refusal) {a : ℕ} (h : Header) → number_of e ≡ a → answer.Refused (number_of e) ≡ checked_by a h
refused e h p = refused_number (number_of e) h p (tries.refused e)

-- ---- a sheet that is written

pub small : (c : Content) → 0 ≡ refusal_of c → Small c
small c e =
    let k : Clean c = clean c (sym e) in
    let v : vertex_count c ≤ 4096 = k.vertices in
    let t : triangle_count c ≤ 8192 = k.triangles in
    record { pairs = omega (arith, k.pairs); triples = omega (arith, k.triples); edges = omega (arith, k.edges); tagged = omega (arith, k.tagged); settings = present_few c.settings }

by : (c : Content) (out : List ℕ) (k : ℕ) → write_refusal c (length out) ≡ k → (r : Written) (last : List ℕ) → r ≡ written_by k (length (bytes_of c)) → last ≡ buffer_by k (bytes_of c) out → Writes c out r last
by c out k e r last p q = record {
  said = p ∙ ap (λ (n : ℕ). written_by n (length (bytes_of c))) (sym e);
  left = q ∙ ap (λ (n : ℕ). buffer_by n (bytes_of c) out) (sym e);
}

pub write_refused_number : (c : Content) (out last : List ℕ) (k : ℕ) → k ≡ refusal_of c → (k ≡ 0 → ⊥) → last ≡ out → Writes c out (Refused k) last
unfolding write_refusal
write_refused_number c out last zero p z q = absurd (z refl)
write_refused_number c out last (suc k) p z q = by c out (suc k) (ap (λ (n : ℕ). n then pick (leb (length (bytes_of c)) (length out)) 0 8) (sym p)) (Refused (suc k)) last refl q

pub write_refused : (c : Content) (out last : List ℕ) (e : Refusal) → number_of e ≡ refusal_of c → last ≡ out → Writes c out (Refused (number_of e)) last
write_refused c out last e p q = write_refused_number c out last (number_of e) p (tries.refused e) q

pub write_short : (c : Content) (out last : List ℕ) → 0 ≡ refusal_of c → length out < length (bytes_of c) → last ≡ out → Writes c out (Refused 8) last
unfolding write_refusal
write_short c out last e h q = by c out 8 (then_second _ (sym e) ∙ pick_false 0 8 (lt-leb (length (bytes_of c)) (length out) h)) (Refused 8) last refl q

pub write_done : (c : Content) (out last : List ℕ) (size : ℕ) → 0 ≡ refusal_of c → size ≡ length (bytes_of c) → size ≤ length out → last ≡ placed out 0 (bytes_of c)
    → Writes c out (Bytes size) last
unfolding write_refusal
write_done c out last size e s h q =
    let l : length (bytes_of c) ≤ length out = omega arith in
    by c out 0 (then_second _ (sym e) ∙ pick_true 0 8 (le-leb (length (bytes_of c)) (length out) l)) (Bytes size) last (ap (λ (n : ℕ). Bytes n) s)
    (q ∙ placed-front out (bytes_of c) l)
