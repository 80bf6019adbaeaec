-- `put_items` meets its contract. The loop's invariant: the first i places are what `item` gave for them. Assumes nothing.
use Rattle.std.proofs.Common.{◌≡◌, ◌<◌, ℕ, length}
use lib.ListN.{get_or}
use Rattle.opening.proofs.put_items.Given as goal

abbrev pub invariant-loop-i : goal.invariant-loop-i
invariant-loop-i g l = (length l.places ≡ length l.initial.places) × ((none : g.row.T.Denot) → (j : ℕ) → j < l.i → goal.F-post g l.item j (get_or l.places j none))
