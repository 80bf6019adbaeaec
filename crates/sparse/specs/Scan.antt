-- What a scan of a stored matrix decides: columns below a bound, and row starts that never fall, the last within the count of the entries.
-- Definitions only. Assumes nothing.
use Rattle.std.specs.Prelude.{ℕ, Bool, true, ◌&&◌, List, [], ◌∷◌, leb, ltb}

-- every number is below n
unfoldable pub all_below : ℕ → List ℕ → Bool
all_below n [] = true
all_below n (w ∷ ws) = ltb w n && all_below n ws

-- a and then the others never fall, and the last is at most the top
unfoldable pub rises_from : ℕ → ℕ → List ℕ → Bool
rises_from top a [] = leb a top
rises_from top a (b ∷ bs) = leb a b && rises_from top b bs

unfoldable pub rises : ℕ → List ℕ → Bool
unfolding rises_from
rises top [] = true
rises top (a ∷ bs) = rises_from top a bs
