-- Laws of a crossing whose gradient is not too small: no exit, and an exit with the pieces of the way to it. Assumes nothing.
use mathlib.Core.Path.{◌≡◌, refl, sym, ap, ◌∙◌}
use mathlib.Core.Bool.{false}
use mathlib.Core.List.{List}
use Prim.Native.Nat.{ℕ, ◌<◌}
use lib.Ieee.{Float, lt}
use Rattle.std.specs.Prelude.{Option, Some, None, Result, Ok, Err, ok_or}
use Rattle.binary64.specs.Arith.{◌⊘◌}
use Rattle.binary64.specs.Number.{ceil_count}
use Rattle.plane.specs.declared.Point.{Point}
use Rattle.pde.specs.declared.Exit.{Exit}
use Rattle.pde.specs.declared.Halt.{Halt}
use Rattle.pde.specs.declared.Rule.{Rule}
use Rattle.pde.specs.Outcome.{Beyond}
use Rattle.pde.specs.Exit.{Nearest, distance, nearest_of}
use Rattle.pde.specs.Crossing.{magnitude, direction, beyond, pieces, left, crossing_along}
use Rattle.pde.specs.Bounds.{some_in, exit_in, exit_far}

module _ (rule : Rule) (vs : List Float) (ts ns : List ℕ) (count : ℕ) (us : List Float) (g : Point) (step : Float) (pos : Point) (t entry : ℕ) {dir : Point} {mag : Float} {best : Nearest}
    (ism : mag ≡ magnitude g) (bright : lt mag rule.dull ≡ false) (isd : dir ≡ direction step g mag) (isb : best ≡ nearest_of rule.dull vs ts t pos dir entry 3) where
  to_left : crossing_along rule vs ts ns count us g step pos t entry ≡ left rule vs ts ns count us pos t best.exit
  unfolding crossing_along
  to_left = rw (← ism, bright, ← isd) (ap (λ (n : Nearest). left rule vs ts ns count us pos t n.exit) (sym isb))

  pub crossing_stuck : best.exit ≡ None → Err Halt.Stuck ≡ crossing_along rule vs ts ns count us g step pos t entry
  crossing_stuck e = sym (to_left ∙ ap (left rule vs ts ns count us pos t) e)

  far_away : {x : Exit} → best.exit ≡ Some x → best.far ≡ distance pos x.point
  far_away h = rw isb (exit_far rule.dull vs ts t pos dir entry 3 (rw isb at h))

  pub crossing_leaves : {n : ℕ} {b : Beyond} (x : Exit) → best.exit ≡ Some x → n ≡ ceil_count (best.far ⊘ rule.spacing) → b ≡ beyond rule.above vs ts ns count us t x.edge x.point
      → Ok (record { point = x.point; pieces = n; beyond = b }) ≡ crossing_along rule vs ts ns count us g step pos t entry
  unfolding pieces
  crossing_leaves {n} {b} x h isn isb' = sym (to_left ∙ ap (left rule vs ts ns count us pos t) h ∙ rw (← far_away h, ← isn, ← isb') refl)

-- the exit is by one of the three edges
pub leaves_by_edge : (least : Float) (vs : List Float) (ts : List ℕ) (t : ℕ) (pos dir : Point) (entry : ℕ) {best : Nearest} {x : Exit}
    → best ≡ nearest_of least vs ts t pos dir entry 3 → best.exit ≡ Some x → x.edge < 3
leaves_by_edge least vs ts t pos dir entry isb h = some_in (λ (x : Exit). x.edge < 3) (exit_in least vs ts t pos dir entry) (rw isb at h)

-- ---- an exit, or what is said where there is none

ok_of : Result Exit Halt → Option Exit
ok_of (Ok x) = Some x
ok_of (Err h) = None

ok_back : (o : Option Exit) (h : Halt) → ok_of (ok_or o h) ≡ o
unfolding ok_of
ok_back (Some x) h = refl
ok_back None h = refl

halt_of : Result Exit Halt → Halt → Halt
halt_of (Ok x) h = h
halt_of (Err e) h = e

halt_back : (o : Option Exit) (h : Halt) → halt_of (ok_or o h) h ≡ h
unfolding halt_of
halt_back (Some x) h = refl
halt_back None h = refl

module _ {o : Option Exit} (h : Halt) {r : Result Exit Halt} (is : r ≡ ok_or o h) where
  pub some_exit : {x : Exit} → r ≡ Ok x → o ≡ Some x
  unfolding ok_of
  some_exit e = sym (ok_back o h) ∙ ap ok_of (sym is ∙ e)

  pub none_exit : {k : Halt} → r ≡ Err k → (o ≡ None) × (k ≡ h)
  unfolding ok_of halt_of
  none_exit e = (sym (ok_back o h) ∙ ap ok_of (sym is ∙ e), ap (λ (r : Result Exit Halt). halt_of r h) (sym e ∙ is) ∙ halt_back o h)
