-- Laws of the parts of the floats that a run shows. Assumes nothing.
use Prim.Native.Nat.{ℕ, ◌+◌, ◌-◌, ◌*◌, ◌≤◌, ◌<◌}
use mathlib.Core.Path.{◌≡◌, refl, ◌∙◌}
use mathlib.Core.Bool.{Bool, true, false, ◌&&◌}
use Rattle.std.proofs.lemmas.List.{take_rest}
use mathlib.Core.List.{List, []}
use native.Mathlib.Omega.{arith}
use borrow.Author.Tests.{lt-leb, le-leb}
use lib.Dec.{leb}
use lib.ListN.{length, take, drop}
use lib.Ieee.{Float}
use Rattle.binary64.specs.Number.{pick}
use Rattle.stretch.specs.Stretch.{part}
use Rattle.stretch.specs.StretchLaws.{part_zero}
use Rattle.format.specs.Content.{max_vertices, max_triangles}
use Rattle.work.specs.declared.Plan.{Plan}
use Rattle.work.specs.declared.Run.{Run}
use Rattle.work.specs.Layout.{at_x, at_gradients, at_norms}
use Rattle.image.specs.Parts.{within, counted, field_of, norms_of, gradients_of}
use Rattle.showing.specs.declared.parts.Shown.{Shown}
use Rattle.showing.specs.declared.parts.Shown.TheVariants.{Field, Norms, Gradients}
use Rattle.showing.specs.Shown.{counted_or_0, part_of, shown_of}

pub within_none : (l : List Float) (at k : ℕ) → length l < at + k → [] ≡ within l at k
unfolding within
within_none l at k h = rw (lt-leb (at + k) (length l) h)

pub within_all : (l : List Float) (at k : ℕ) (rest got : List Float) → rest ≡ take (length l - at) (drop at l) → length rest + at ≡ length l → k ≤ length rest → got ≡ take (k - 0) (drop 0 rest)
    → got ≡ within l at k
unfolding within part
within_all l at k rest got r e h g =
    let f : rest ≡ drop at l = r ∙ take_rest l at in
    let d : k - 0 ≡ k = omega arith in
    g ∙ rw (le-leb (at + k) (length l) (omega arith), f, d)

-- a part that starts at 0 and has no place for counts that no sheet has
counted_within : (p : Plan) (l : List Float) (at count : ℕ) → within l (counted_or_0 p at) (counted_or_0 p count) ≡ counted p (within l at count)
unfolding within
counted_within p l at count = go (leb p.n max_vertices) (leb p.t max_triangles)
  where
    none : within l 0 0 ≡ []
    none = rw (le-leb 0 (length l) (omega arith)) (part_zero l 0)

    go : (n t : Bool) → within l (pick (n && t) at 0) (pick (n && t) count 0) ≡ pick n (pick t (within l at count) []) []
    go true true = refl
    go true false = none
    go false t = none

pub shown_within : (s : Shown) (r : Run) (l : List Float) → within l (part_of s r).at (part_of s r).count ≡ shown_of s r l
unfolding part_of field_of norms_of gradients_of
shown_within Field r l = counted_within r.plan l (at_x r.plan.n r.plan.t) r.plan.n
shown_within Norms r l = counted_within r.plan l (at_norms r.plan.n r.plan.t) r.stand.norms
shown_within Gradients r l = counted_within r.plan l (at_gradients r.plan.n r.plan.t) (2 * r.plan.t)
