-- Laws that the proofs of this crate share. Assumes nothing.
use Prim.Native.Nat.{ℕ}
use mathlib.Core.Path.{◌≡◌, sym, ◌∙◌}
use mathlib.Core.Bool.{Bool, ◌&&◌, ◌||◌, and-true, and_assoc}
use mathlib.Core.List.{List, [], ◌∷◌}
use lib.Dec.{eqb, ltb}
use Rattle.std.specs.List.{fold}
use Rattle.mesh.specs.Mesh.{no_neighbour}
use Rattle.work.specs.declared.Plan.{Plan}
use Rattle.work.specs.declared.Run.{Run}
use Rattle.image.specs.Calls.{Buffers, unless10, counts_fault, space_fault, stand_sound, mark_sound, all_none_or_below, words_sound, held_fault}
use Rattle.refusal.specs.declared.Refusal.{Refusal}
use Rattle.refusal.specs.Refusal.{number_of}
use Rattle.image.proofs.AcceptedLaws.{then_first, then_second}
use Rattle.image.proofs.RefusalLaws.{refuses_some}

-- ---- a scan of neighbours

pub fold-none_or_below : (t : ℕ) (good : Bool) (ws : List ℕ) → fold (λ (g : Bool) (w : ℕ). g && (eqb w no_neighbour || ltb w t)) good ws ≡ (good && all_none_or_below t ws)
unfolding all_none_or_below
fold-none_or_below t good [] = sym (and-true good)
fold-none_or_below t good (w ∷ ws) =
    fold-none_or_below t (good && (eqb w no_neighbour || ltb w t)) ws ∙ and_assoc good (eqb w no_neighbour || ltb w t) (all_none_or_below t ws)

-- ---- what refuses any call: each test's answer where those before it passed

module _ (r : Run) (b : Buffers) where
  pub held_counts_number : (k : ℕ) → k ≡ counts_fault r.plan → (k ≡ 0 → ⊥) → k ≡ held_fault r b
  unfolding held_fault
  held_counts_number k e h = e ∙ sym (then_first (counts_fault r.plan) _ (λ z. h (e ∙ z)))

  pub held_counts : (e : Refusal) → number_of e ≡ counts_fault r.plan → number_of e ≡ held_fault r b
  held_counts e h = held_counts_number (number_of e) h (refuses_some e)

  -- the other tests are of the plan that the first one handed out
  module _ (p : Plan) (same : p ≡ r.plan) (passed : 0 ≡ counts_fault r.plan) where
    pub held-space_number : (k : ℕ) → k ≡ space_fault p b → (k ≡ 0 → ⊥) → k ≡ held_fault r b
    unfolding held_fault
    held-space_number k f h =
        let g : k ≡ space_fault r.plan b = rw same at f in
        g ∙ sym (then_second (counts_fault r.plan) _ (sym passed) ∙ then_first (space_fault r.plan b) _ (λ y. h (g ∙ y)))

    pub held-space : (e : Refusal) → number_of e ≡ space_fault p b → number_of e ≡ held_fault r b
    held-space e h = held-space_number (number_of e) h (refuses_some e)

    pub held_sound : (s m w t : Bool) → 0 ≡ space_fault p b → s ≡ stand_sound p r.stand → m ≡ mark_sound p r.mark → w ≡ words_sound p b.words → (s && (m && w)) ≡ t → unless10 t ≡ held_fault r b
    unfolding held_fault
    held_sound s m w t y es em ew et =
        let h : 0 ≡ space_fault r.plan b = rw same at y in
        sym (then_second (counts_fault r.plan) _ (sym passed) ∙ then_second (space_fault r.plan b) _ (sym h) ∙ rw (← same, ← es, ← em, ← ew, et))
