-- A turn of each scan. Assumes nothing.
use Rattle.std.specs.Prelude.{◌≡◌, ℕ, ◌+◌, ◌≤◌, ◌<◌, Bool, ◌&&◌, List, [], ◌∷◌, length, drop, get_or, leb, ltb}
use Rattle.std.specs.List.{fold}
use Rattle.std.proofs.Common.{sym, ap, ◌∙◌, add-one, arith, le-leb, drop-cons}
use mathlib.Core.Bool.{and-true, and_assoc}
use lib.ListN.{drop_of_length-le}
use Rattle.sparse.specs.Scan.{all_below, rises_from, rises}

-- ---- columns below a bound

pub fold-below : (n : ℕ) (good : Bool) (ws : List ℕ) → fold (λ (g : Bool) (w : ℕ). g && ltb w n) good ws ≡ (good && all_below n ws)
unfolding all_below
fold-below n good [] = sym (and-true good)
fold-below n good (w ∷ ws) = fold-below n (good && ltb w n) ws ∙ and_assoc good (ltb w n) (all_below n ws)

-- ---- row starts

pub rises_none : (top : ℕ) (ws : List ℕ) → rises_from top 0 ws ≡ rises top ws
unfolding rises rises_from
rises_none top [] = le-leb 0 top (omega arith)
rises_none top (a ∷ bs) = rw (le-leb 0 a (omega arith))

-- what is found so far, with what is left to see from the start before on
pub rises_step : (ws : List ℕ) (top i low : ℕ) (good all : Bool) → i < length ws → (good && rises_from top low (drop i ws)) ≡ all
    → ((good && leb low (get_or ws i 0)) && rises_from top (get_or ws i 0) (drop (i + 1) ws)) ≡ all
unfolding rises_from
rises_step ws top i low good all h e =
    and_assoc good (leb low (get_or ws i 0)) (rises_from top (get_or ws i 0) (drop (i + 1) ws))
    ∙ rw (add-one i) (sym (ap (λ (l : List ℕ). good && rises_from top low l) (drop-cons ws i 0 h)) ∙ e)

pub rises_done : (ws : List ℕ) (top i low : ℕ) (good all : Bool) → length ws ≤ i → (good && rises_from top low (drop i ws)) ≡ all → (good && leb low top) ≡ all
unfolding rises_from
rises_done ws top i low good all h e = sym (ap (λ (l : List ℕ). good && rises_from top low l) (drop_of_length-le ws {i = i} h)) ∙ e
