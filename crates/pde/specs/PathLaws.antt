-- Laws of the points that a crossing puts down and of the path after it: how many there are, that they fit the room, and where the path then stands. Assumes nothing.
use Rattle.std.specs.Prelude.{◌≡◌, refl, Bool, true, false, List, [], ◌∷◌, ◌++◌, ℕ, zero, suc, ◌+◌, ◌-◌, ◌*◌, ◌≤◌, ◌<◌, Ok, Err, ltb, length, Float}
use Rattle.std.proofs.Common.{ap, arith, ltb-false, length-append}
use Rattle.binary64.specs.Number.{pick}
use Rattle.plane.specs.declared.Point.{Point}
use Rattle.pde.specs.declared.Barrier.{Barrier}
use Rattle.pde.specs.declared.Walk.{Walk}
use Rattle.pde.specs.Outcome.{Beyond, Crossing}
use Rattle.pde.specs.Path.{point_floats, coordinates_of, along, between, closing, closes, ended, gone, added, walked}
use Rattle.pde.specs.Bounds.{BeyondIn, CrossingIn}

-- ---- how many

pub length_coordinates : (ps : List Point) → length (coordinates_of ps) ≡ point_floats * length ps
unfolding coordinates_of
length_coordinates [] = refl
length_coordinates (p ∷ ps) = omega (arith, length_coordinates ps)

pub coordinates_append : (ps qs : List Point) → coordinates_of (ps ++ qs) ≡ coordinates_of ps ++ coordinates_of qs
unfolding coordinates_of
coordinates_append [] qs = refl
coordinates_append (p ∷ ps) qs = ap (λ (l : List Float). p.x ∷ p.y ∷ l) (coordinates_append ps qs)

pub length-along : (p : Point) (dx dy : Float) (n k : ℕ) → length (along p dx dy n k) ≡ k
unfolding along
length-along p dx dy n zero = refl
length-along p dx dy n (suc k) = simp (length-append, length-along p dx dy n k) (omega arith)

pub length-between : (p q : Point) (n k : ℕ) → length (between p q n k) ≡ k
unfolding between
length-between p q n k = length-along p _ _ n k

pub length-closing : (q : Point) (b : Beyond) → length (closing q b) ≡ closes b
unfolding closing
length-closing q (Err Barrier.Border) = refl
length-closing q (Err Barrier.Unnamed) = refl
length-closing q (Err Barrier.Above) = refl
length-closing q (Ok s) = refl

-- ---- the room

pub closes-most : (b : Beyond) → closes b ≤ 1
closes-most (Err Barrier.Border) = omega arith
closes-most (Err Barrier.Unnamed) = omega arith
closes-most (Err Barrier.Above) = omega arith
closes-most (Ok s) = omega arith

pub gone_points : (last : Bool) (w : Walk) (q : Point) (b : Beyond) (k : ℕ) → (gone last w q b k).points ≡ w.points + k
gone_points last w q (Err b) k = refl
gone_points last w q (Ok s) k = refl

-- the points after a crossing are those before it and those that it put down, and the room holds them
pub walked_more : (room : ℕ) (last : Bool) (w : Walk) (c : Crossing) → w.points + length (added room w c) ≡ (walked room last w c).points
unfolding walked
walked_more room last w (Err h) = omega arith
walked_more room last w (Ok l) = by (ltb room (w.points + k))
  where
    k : ℕ
    k = l.pieces - 1 + closes l.beyond

    new : List Point
    new = between w.position l.point l.pieces (l.pieces - 1) ++ closing l.point l.beyond

    by : (t : Bool) → w.points + length (pick t [] new) ≡ (pick t (ended w 7) (gone last w l.point l.beyond k)).points
    by true = omega arith
    by false =
        let e : length new ≡ k = simp (length-append, length-between, length-closing) (omega arith) in
        omega (arith, gone_points last w l.point l.beyond k)

pub walked-most : (room : ℕ) (last : Bool) (w : Walk) (c : Crossing) → w.points ≤ room → (walked room last w c).points ≤ room
unfolding walked
walked-most room last w (Err _) h = h
walked-most room last w (Ok l) h = by (ltb room (w.points + k)) refl
  where
    k : ℕ
    k = l.pieces - 1 + closes l.beyond

    by : (t : Bool) → ltb room (w.points + k) ≡ t → (pick t (ended w 7) (gone last w l.point l.beyond k)).points ≤ room
    by true e = h
    by false e = omega (arith, gone_points last w l.point l.beyond k, ltb-false room (w.points + k) e)

-- ---- where the path stands

-- in a triangle of the mesh, entered by one of its edges or by none
pub record Stands (n : ℕ) (w : Walk) : Type 0 where
  pub triangle_below : w.triangle < n
  pub edge_most : w.edge ≤ 3

pub walked_stands : (room : ℕ) (last : Bool) (t : ℕ) (w : Walk) (c : Crossing) → CrossingIn t c → Stands t w → Stands t (walked room last w c)
unfolding walked
walked_stands room last t w (Err _) i s = record { triangle_below = s.triangle_below; edge_most = s.edge_most }
walked_stands room last t w (Ok l) i s = by (ltb room (w.points + k)) l.beyond i
  where
    k : ℕ
    k = l.pieces - 1 + closes l.beyond

    by : (full : Bool) (b : Beyond) → BeyondIn t b → Stands t (pick full (ended w 7) (gone last w l.point b k))
    by true b i = record { triangle_below = s.triangle_below; edge_most = s.edge_most }
    by false (Err b) i = record { triangle_below = s.triangle_below; edge_most = s.edge_most }
    by false (Ok side) i = record { triangle_below = i.0; edge_most = omega (arith, i.1) }
