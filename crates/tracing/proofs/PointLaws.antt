-- Laws of the writing of a crossing's points: a turn of the loop, the point of an end, and the two ways out of a triangle. Assumes nothing.
use Rattle.std.proofs.Common.{◌≡◌, ℕ, suc, ◌+◌, ◌-◌, ◌*◌, ◌<◌, ◌≤◌, Bool, true, false, ltb, List, [], ◌∷◌, length, set, pos, sym, refl, add-zero, add-one, arith, le-ltb, lt-ltb}
use lib.Ieee.{Float, binary64, of_int}
use Rattle.binary64.specs.Arith.{◌⊕◌, ◌⊖◌, ◌⊗◌, ◌⊘◌}
use Rattle.plane.specs.declared.Point.{Point}
use Rattle.stretch.specs.Stretch.{splice}
use Rattle.stretch.specs.StretchLaws.{splice_nil, splice-append}
use Rattle.mesh.specs.Pair.{pair_step}
use Rattle.pde.specs.declared.Halt.{Halt}
use Rattle.pde.specs.declared.Leaving.{Leaving}
use Rattle.pde.specs.declared.Walk.{Walk}
use Rattle.std.specs.Prelude.{Option, Some, None, Ok, Err}
use Rattle.binary64.specs.Number.{pick}
use Rattle.pde.specs.Outcome.{Crossing}
use Rattle.pde.specs.Path.{point_floats, coordinates_of, part_way, along, between, closing, closes, ended, gone, added, walked}
use Rattle.pde.specs.PathLaws.{length_coordinates, coordinates_append, length-along, length-between}

-- ---- the points between

-- s is the buffer at entry, l as it is now
pub along_none : (s : List Float) (at : ℕ) (p : Point) (dx dy : Float) (n : ℕ) → s ≡ splice s at (coordinates_of (along p dx dy n 0))
unfolding along coordinates_of
along_none s at p dx dy n = sym (splice_nil s at)

pub along_step : (s l : List Float) (at : ℕ) (p : Point) (dx dy : Float) (n i : ℕ) (a b : Float) → b ≡ of_int binary64 (pos n) → a ≡ of_int binary64 (pos (i + 1)) → l ≡ splice s at (coordinates_of (along p dx dy n i))
    → set (set l (at + 2 * i) (p.x ⊕ a ⊘ b ⊗ dx)) (at + 2 * i + 1) (p.y ⊕ a ⊘ b ⊗ dy) ≡ splice s at (coordinates_of (along p dx dy n (i + 1)))
unfolding along coordinates_of part_way
along_step s l at p dx dy n i a b e f h =
    let k : length (coordinates_of (along p dx dy n i)) ≡ 2 * i = omega (arith, length_coordinates (along p dx dy n i), length-along p dx dy n i) in
    rw (f, e, add-one, coordinates_append) (pair_step s l at (2 * i) (coordinates_of (along p dx dy n i)) (part_way p dx dy n (suc i)) k h)

pub along_done : (s l : List Float) (at : ℕ) (p q : Point) (n k i : ℕ) → i ≡ k → l ≡ splice s at (coordinates_of (along p (q.x ⊖ p.x) (q.y ⊖ p.y) n i)) → l ≡ splice s at (coordinates_of (between p q n k))
unfolding between
along_done s l at p q n k i e h = rw e at h

-- ---- the point of an end

pub closing_none : (s : List Float) (at : ℕ) → s ≡ splice s at (coordinates_of [])
unfolding coordinates_of
closing_none s at = sym (splice_nil s at)

pub closing_put : (s : List Float) (at : ℕ) (q : Point) → set (set s at q.x) (at + 1) q.y ≡ splice s at (coordinates_of (q ∷ []))
unfolding coordinates_of
closing_put s at q = rw add-zero at (pair_step s s at 0 [] q refl (sym (splice_nil s at)))

-- ---- out of a triangle

-- how many points a crossing puts down, where the room holds them
abbrev pub held_of : ℕ → Walk → Leaving → Option ℕ
held_of room w left = pick (ltb room (w.points + (left.pieces - 1 + closes left.beyond))) None (Some (left.pieces - 1 + closes left.beyond))

full_told : (b : Bool) (a : ℕ) {r : Option ℕ} → r ≡ pick b None (Some a) → r ≡ None → b ≡ true
full_told true a e n = refl
full_told false a e n = absurd (cc (e, n))

fits_told : (b : Bool) (a k : ℕ) {r : Option ℕ} → r ≡ pick b None (Some a) → r ≡ Some k → (b ≡ false) × (k ≡ a)
fits_told true a k e n = absurd (cc (e, n))
fits_told false a k e n = (refl, cc (e, n))

module _ (room : ℕ) (w : Walk) (left : Leaving) where
  module _ {k : ℕ} (isk : k ≡ left.pieces - 1 + closes left.beyond) (held : w.points ≤ room) where
    pub held_full : room - w.points < k → None ≡ held_of room w left
    held_full f = rw (lt-ltb room (w.points + (left.pieces - 1 + closes left.beyond)) (omega arith)) refl

    pub held_fits : k ≤ room - w.points → Some k ≡ held_of room w left
    held_fits f = rw (le-ltb room (w.points + (left.pieces - 1 + closes left.beyond)) (omega arith), isk) refl

  full : {o : Option ℕ} → o ≡ held_of room w left → o ≡ None → ltb room (w.points + (left.pieces - 1 + closes left.beyond)) ≡ true
  full e n = full_told (ltb room (w.points + (left.pieces - 1 + closes left.beyond))) _ e n

  fits : {o : Option ℕ} (k : ℕ) → o ≡ held_of room w left → o ≡ Some k → (ltb room (w.points + (left.pieces - 1 + closes left.beyond)) ≡ false) × (k ≡ left.pieces - 1 + closes left.beyond)
  fits k e n = fits_told (ltb room (w.points + (left.pieces - 1 + closes left.beyond))) _ k e n

  -- the points would not fit
  pub left-full : (last : Bool) {r : Walk} {o : Option ℕ} → o ≡ held_of room w left → o ≡ None → r ≡ ended w 7 → r ≡ walked room last w (Ok left)
  unfolding walked
  left-full last e n p = rw (full e n) p

  pub put_full : (path : List Float) {o : Option ℕ} → o ≡ held_of room w left → o ≡ None → path ≡ splice path (point_floats * w.points) (coordinates_of (added room w (Ok left)))
  unfolding coordinates_of
  put_full path e n = rw (full e n) (sym (splice_nil path (point_floats * w.points)))

  -- they fit
  pub left_on : (last : Bool) (k : ℕ) {r : Walk} {o : Option ℕ} → o ≡ held_of room w left → o ≡ Some k → r ≡ gone last w left.point left.beyond k → r ≡ walked room last w (Ok left)
  unfolding walked
  left_on last k e n p = let f = fits k e n in rw (f.0, ← f.1) p

  pub put_on : (path : List Float) {i : ℕ} {path' path'' : List Float} (k : ℕ) {o : Option ℕ} → o ≡ held_of room w left → o ≡ Some k → i ≡ left.pieces - 1
      → path' ≡ splice path (point_floats * w.points) (coordinates_of (between w.position left.point left.pieces i))
      → path'' ≡ splice path' (2 * (w.points + i)) (coordinates_of (closing left.point left.beyond)) → path'' ≡ splice path (point_floats * w.points) (coordinates_of (added room w (Ok left)))
  put_on path {i} {path'} {path''} k e n isi p' p'' =
      let new = between w.position left.point left.pieces i in
      let z : 2 * (w.points + i) ≡ point_floats * w.points + length (coordinates_of new) = omega (arith, length_coordinates new, length-between w.position left.point left.pieces i) in
      rw ((fits k e n).0, ← isi, p'', p', z, coordinates_append) (sym (splice-append path (point_floats * w.points) (coordinates_of new) (coordinates_of (closing left.point left.beyond))))

-- ---- no way out of it

pub put_halted : (room : ℕ) (w : Walk) (path : List Float) (c : Crossing) {h : Halt} → c ≡ Err h → path ≡ splice path (point_floats * w.points) (coordinates_of (added room w c))
unfolding coordinates_of
put_halted room w path c e = rw e (sym (splice_nil path (point_floats * w.points)))
