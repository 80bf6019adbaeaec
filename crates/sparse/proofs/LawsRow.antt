-- A row from its entries one by one: what is left from a partial sum on comes to what the whole row comes to. Assumes nothing.
use Rattle.std.specs.Prelude.{◌≡◌, refl, ℕ, suc, ◌+◌, ◌-◌, ◌≤◌, ◌<◌, List, length, get_or, Float}
use Rattle.std.specs.Float.{nan}
use Rattle.std.proofs.Common.{arith}
use Rattle.binary64.specs.Arith.{◌⊕◌, ◌⊗◌}
use Rattle.stretch.specs.Stretch.{part}
use Rattle.stretch.specs.StretchLaws.{part_cons}
use Rattle.sparse.specs.Sparse.{row_from, entries}
use Rattle.sparse.specs.ByRows.{IsRow}

-- of the entries from `from` up to `to`, those before e are in the sum
pub record Left (cols : List ℕ) (values x : List Float) (z : Float) (from to e : ℕ) (sum : Float) : Type 0 where
  pub is : row_from sum (entries (part cols e (to - e)) (part values e (to - e))) x ≡ row_from z (entries (part cols from (to - from)) (part values from (to - from))) x

pub left_none : (cols : List ℕ) (values x : List Float) (z : Float) (from to : ℕ) → Left cols values x z from to from z
left_none cols values x z from to = record { is = refl }

pub left_step : {cols : List ℕ} {values x : List Float} {z sum r : Float} {from to e n : ℕ} (next : ℕ) → Left cols values x z from to e sum → IsRow cols (length values) n → to ≤ length cols → e < to → next ≡ e + 1
    → r ≡ sum ⊕ get_or values e nan ⊗ get_or x (get_or cols e 0) nan → Left cols values x z from to next r
unfolding row_from entries
left_step {cols} {values} {x} {z} {sum} {r} {from} {to} {e} next l row end h k t =
    let many : length cols ≡ length values = row.as_many in
    let s : next ≡ suc e = omega arith in
    let n : to - e ≡ suc (to - suc e) = omega arith in
    record { is = rw (t, s) (rw (n, part_cons cols e (to - suc e) 0 (omega arith), part_cons values e (to - suc e) nan (omega arith)) at l.is) }

pub left_done : {cols : List ℕ} {values x : List Float} {z sum : Float} {from to e : ℕ} → Left cols values x z from to e sum → to ≤ e → sum ≡ row_from z (entries (part cols from (to - from)) (part values from (to - from))) x
unfolding row_from entries part
left_done {to} {e} l h =
    let n : to - e ≡ 0 = omega arith in
    rw n at l.is
