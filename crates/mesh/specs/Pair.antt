-- A point as its two numbers, as lists of points and gradients hold it, and the laws of reading one and of writing one behind others. Assumes nothing.
use Rattle.std.specs.Prelude.{◌≡◌, List, [], ◌∷◌, ◌++◌, ℕ, ◌+◌, ◌*◌, ◌<◌, length, get_or, set, Float}
use Rattle.std.proofs.Common.{ap, ◌∙◌, append_assoc, add_assoc, arith, length-append}
use Rattle.std.specs.Float.{nan}
use Rattle.plane.specs.declared.Point.{Point}
use Rattle.plane.specs.Plane.{point}
use Rattle.stretch.specs.Stretch.{part, splice}
use Rattle.stretch.specs.StretchLaws.{get_d_part}
use Rattle.stretch.proofs.LoopLaws.{write_step}

abbrev pub pair : Point → List Float
pair p = p.x ∷ p.y ∷ []

-- s is the buffer before anything was written from `at` on, l the buffer with the i numbers `new` written
pub pair_step : (s l : List Float) (at i : ℕ) (new : List Float) (p : Point) → length new ≡ i → l ≡ splice s at new
    → set (set l (at + i) p.x) (at + i + 1) p.y ≡ splice s at (new ++ pair p)
pair_step s l at i new p e q =
    let one = write_step s l at i new p.x e q in
    let k : length (new ++ (p.x ∷ [])) ≡ i + 1 = simp length-append (omega arith) in
    let two = write_step s (set l (at + i) p.x) at (i + 1) (new ++ (p.x ∷ [])) p.y k one in
    rw add_assoc (two ∙ ap (λ (r : List Float). splice s at r) (append_assoc new (p.x ∷ []) (p.y ∷ [])))

-- point i of the n in a part
pub pair_read : (l : List Float) (at n i : ℕ) → i < n
    → point (get_or l (at + 2 * i) nan) (get_or l (at + 2 * i + 1) nan) ≡ point (get_or (part l at (2 * n)) (2 * i) nan) (get_or (part l at (2 * n)) (2 * i + 1) nan)
pair_read l at n i h =
    let ex = get_d_part l at (2 * n) (2 * i) nan (omega arith) in
    let ey = get_d_part l at (2 * n) (2 * i + 1) nan (omega arith) in
    rw (ex, ey, add_assoc)
