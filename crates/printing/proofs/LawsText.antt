-- Laws of the text of what a run shows, of any record and buffers: the room that it needs, and its ways out. Assumes nothing.
use Prim.Native.Nat.{ℕ, ◌+◌, ◌*◌, ◌≤◌, ◌<◌}
use mathlib.Core.Path.{◌≡◌, refl}
use mathlib.Core.Bool.{Bool, true, false}
use mathlib.Core.List.{List, []}
use native.Mathlib.Omega.{arith}
use borrow.Author.Tests.{leb-true, lt-ltb, ne_eqb}
use lib.Dec.{leb}
use lib.ListN.{length, take, drop, length-drop}
use lib.Seq.{length-take-le}
use lib.Ieee.{Float}
use Rattle.binary64.specs.Number.{pick}
use Rattle.stretch.specs.Stretch.{part}
use Rattle.format.specs.Content.{max_vertices, max_triangles}
use Rattle.work.specs.declared.Plan.{Plan}
use Rattle.work.specs.declared.Run.{Run}
use Rattle.image.specs.Calls.{Buffers, fault, run_after, buffers_after}
use Rattle.image.specs.Parts.{within, counted, field_of, norms_of, gradients_of}
use Rattle.image.specs.Points.{points_of}
use Rattle.text.specs.Put.{Printed}
use Rattle.text.specs.Text.{run_text, refused_text}
use Rattle.printing.specs.Printed.{most_bytes, printed, printed_buffers, Prints}
use Rattle.printing.specs.Steps.{Room, shown_text, far, last_text}

-- ---- no list is longer than its buffer

within-short : (l : List Float) (at k : ℕ) → length (within l at k) ≤ length l
unfolding within part
within-short l at k = go (leb (at + k) (length l)) refl
  where
    go : (t : Bool) → leb (at + k) (length l) ≡ t → length (pick t (take k (drop at l)) []) ≤ length l
    go true e =
        let h : at + k ≤ length l = leb-true (at + k) (length l) e in
        let d : length (drop at l) + at ≡ length l = rw length-drop (omega arith) in
        let t : length (take k (drop at l)) ≡ k = length-take-le k (drop at l) (omega arith) in
        omega arith
    go false e = omega arith

counted-short : (plan : Plan) (l : List Float) (n : ℕ) → length l ≤ n → length (counted plan l) ≤ n
counted-short plan l n h = go (leb plan.n max_vertices) (leb plan.t max_triangles)
  where
    go : (a b : Bool) → length (pick a (pick b l []) []) ≤ n
    go true true = h
    go true false = omega arith
    go false b = omega arith

points_short : (r : Run) (l : List Float) → length (points_of r l) ≤ length l
unfolding points_of
points_short r l = go (leb (2 * r.stand.walk.points) (length l)) refl
  where
    go : (t : Bool) → leb (2 * r.stand.walk.points) (length l) ≡ t → length (pick t (take (2 * r.stand.walk.points) l) []) ≤ length l
    go true e =
        let h : 2 * r.stand.walk.points ≤ length l = leb-true (2 * r.stand.walk.points) (length l) e in
        let t : length (take (2 * r.stand.walk.points) l) ≡ 2 * r.stand.walk.points = length-take-le (2 * r.stand.walk.points) l h in
        omega arith
    go false e = omega arith

shown-fits : (r : Run) (floats path : List Float) (out : List ℕ) → Room floats path out
    → 67 + (19 * (length (field_of r floats) + length (norms_of r floats)) + 18 * (length (gradients_of r floats) + length (points_of r path))) ≤ length out
unfolding field_of norms_of gradients_of
shown-fits r floats path out h =
    let u : length (field_of r floats) ≤ length floats = counted-short r.plan _ (length floats) (within-short floats _ _) in
    let n : length (norms_of r floats) ≤ length floats = counted-short r.plan _ (length floats) (within-short floats _ _) in
    let g : length (gradients_of r floats) ≤ length floats = counted-short r.plan _ (length floats) (within-short floats _ _) in
    let p : length (points_of r path) ≤ length path = points_short r path in
    omega (arith, h.fits)

pub shown_room : (r : Run) (floats path : List Float) (out : List ℕ) (us rs gs ps : List Float) → us ≡ field_of r floats → rs ≡ norms_of r floats → gs ≡ gradients_of r floats → ps ≡ points_of r path
    → Room floats path out → 67 + (19 * (length us + length rs) + 18 * (length gs + length ps)) ≤ length out
shown_room r floats path out us rs gs ps a b c d h = rw (a, b, c, d) (shown-fits r floats path out h)

-- ---- ways out

module _ {s l : List ℕ} {at next : ℕ} where
  -- the same text in other words
  pub printed_as : {text : List ℕ} (other : List ℕ) → Printed s at text next l → text ≡ other → Printed s at other next l
  printed_as other p e = rw (← e) p

  pub shown_put : (r : Run) (floats path us rs gs ps : List Float) → us ≡ field_of r floats → rs ≡ norms_of r floats → gs ≡ gradients_of r floats → ps ≡ points_of r path
      → Printed s at (run_text r.stand.place r.stand.end r.stand.walk.end us rs gs ps) next l → Printed s at (shown_text r floats path) next l
  unfolding shown_text
  shown_put r floats path us rs gs ps a b c d p = rw (← a, ← b, ← c, ← d) p

-- an advance that is refused, and one that is not
pub last_refused : (r : Run) (b : Buffers) (k : ℕ) → k ≡ fault far r b → (k ≡ 0 → ⊥) → refused_text k ≡ last_text r b
unfolding last_text
last_refused r b k e n = rw (← e, ne_eqb k 0 n)

pub last_shown : (r r' : Run) (b b' : Buffers) (k : ℕ) → k ≡ fault far r b → k ≡ 0 → r' ≡ run_after far r b → b' ≡ buffers_after far r b
    → shown_text r' b'.floats b'.path ≡ last_text r b
unfolding last_text
last_shown r r' b b' k e z p q = rw (← e, z, p, q)

-- too many bytes
pub long_prints : {out out' : List ℕ} {r : ℕ} (sheet : List ℕ) (b : Buffers) → most_bytes < length sheet → Printed out 0 (refused_text 8) r out' → Prints sheet b out r b out'
unfolding printed printed_buffers
long_prints sheet b h p = record { text = printed_as (printed sheet) p (rw (lt-ltb most_bytes (length sheet) h)); held = rw (lt-ltb most_bytes (length sheet) h) }
