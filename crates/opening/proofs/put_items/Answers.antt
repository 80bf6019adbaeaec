-- `put_items` meets its contract: a turn puts what `item` gives for this place, and leaves the places before it. Assumes nothing.
use Rattle.std.proofs.Common.{ℕ, ◌+◌, ◌<◌, ◌≤◌, ◌≡◌, List, length, arith, sym, ◌∙◌, subst, ⊎_elim}
use Rattle.std.proofs.Math.Nat.{eq-or-lt_of_le}
use Rattle.std.proofs.lemmas.List.{get_or-set_same, get_or-set_other}
use lib.ListN.{get_or, set, length-set}
use Rattle.opening.proofs.put_items.Goals as goal

put_next : {A : Type 0} (P : ℕ → A → Type 0) (l : List A) (i : ℕ) (v : A) → i < length l → P i v → ((none : A) (j : ℕ) → j < i → P j (get_or l j none))
    → (none : A) (j : ℕ) → j < i + 1 → P j (get_or (set l i v) j none)
put_next {A} P l i v within given before none j k = let upto : j ≤ i = omega arith in ⊎_elim (λ e. same e) (λ q. other q) (eq-or-lt_of_le upto)
  where
    same : j ≡ i → P j (get_or (set l i v) j none)
    same e = rw e (subst (P i) (sym (get_or-set_same l i v none within)) given)

    other : j < i → P j (get_or (set l i v) j none)
    other q = subst (P j) (sym (get_or-set_other l i j v none (λ e. omega (arith, e)))) (before none j q)

pub loop-i-preserved : goal.loop-i-preserved
loop-i-preserved g c =
    let l = c.loop-i in
    (length-set _ _ _ ∙ l.invariant.0, put_next (λ j v. g.F.Fn.post c.args.item (j, tt) v) l.places l.i c.item.result (omega (arith, l.invariant.0)) c.item.ensures l.invariant.1)
