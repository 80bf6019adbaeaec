-- Laws of the search for the least vertex: before it, a turn, and its end. Assumes nothing.
use mathlib.Core.Path.{◌≡◌, sym, ap, ◌∙◌}
use mathlib.Core.Bool.{true, false}
use mathlib.Core.List.{List, ◌∷◌}
use Prim.Native.Nat.{ℕ, ◌+◌, ◌≤◌, ◌<◌}
use native.Mathlib.Numerals.{add-one}
use lib.ListN.{length, drop, get_or, drop_of_length-le}
use lib.Seq.{drop-cons}
use lib.Ieee.{Float, nan, lt, binary64, of_bits}
use Rattle.pde.specs.Start.{least_from, least_vertex}
use Rattle.pde.proofs.EdgeLaws.{infinite}

pub least_all : (us : List Float) → least_vertex us ≡ least_from 0 0 (of_bits binary64 9218868437227405312) us
unfolding least_vertex
least_all us = rw infinite

-- one number more
one_less : (i best : ℕ) (value x : Float) (us : List Float) → lt x value ≡ true → least_from i best value (x ∷ us) ≡ least_from (i + 1) i x us
unfolding least_from
one_less i best value x us h = rw (h, ← (add-one i))

one_not : (i best : ℕ) (value x : Float) (us : List Float) → lt x value ≡ false → least_from i best value (x ∷ us) ≡ least_from (i + 1) best value us
unfolding least_from
one_not i best value x us h = rw (h, ← (add-one i))

module _ (us : List Float) (i best : ℕ) (value : Float) {w : ℕ} (more : i < length us) (sofar : w ≡ least_from i best value (drop i us)) where
  next : drop i us ≡ get_or us i nan ∷ drop (i + 1) us
  next = rw add-one (drop-cons us i nan more)

  pub least_less : lt (get_or us i nan) value ≡ true → w ≡ least_from (i + 1) i (get_or us i nan) (drop (i + 1) us)
  least_less h = sofar ∙ ap (λ (l : List Float). least_from i best value l) next ∙ one_less i best value (get_or us i nan) (drop (i + 1) us) h

  pub least_not : lt (get_or us i nan) value ≡ false → w ≡ least_from (i + 1) best value (drop (i + 1) us)
  least_not h = sofar ∙ ap (λ (l : List Float). least_from i best value l) next ∙ one_not i best value (get_or us i nan) (drop (i + 1) us) h

pub least_done : (us : List Float) (i best : ℕ) (value : Float) {w : ℕ} → length us ≤ i → w ≡ least_from i best value (drop i us) → best ≡ w
unfolding least_from
least_done us i best value h p =
    let e = drop_of_length-le us {i = i} h in
    sym (rw e at p)
