-- A part of a slice that is written, as a stretch. Assumes nothing.
use Prim.Native.Nat.{ℕ, ◌+◌, ◌-◌, ◌≤◌}
use native.Mathlib.Omega.{arith}
use mathlib.Core.Path.{◌≡◌, sym, ap, ◌∙◌}
use mathlib.Core.List.{List, ◌++◌}
use lib.ListN.{length, take, drop, replicate, length-replicate}
use lib.Seq.{length-take-le}
use borrow.Rule.Slice.PartMut.{put_mid}
use Rattle.std.proofs.lemmas.Slice.{put_mid-paste}
use Rattle.std.proofs.lemmas.List.Edits.{paste_all}
use Rattle.stretch.specs.Stretch.{splice}
use Rattle.stretch.specs.StretchLaws.{splice_is}

pub put_is : {A : Type 0} (l new part : List A) (a b k : ℕ) → new ≡ part → length part ≡ k → b ≡ a + k → b ≤ length l → put_mid a (b - a) l new ≡ splice l a part
put_is l new part a b k i e s h =
    let m : k ≡ b - a = omega arith in
    put_mid-paste a (b - a) l new part k i m (sym e) ∙ paste_all l a part k (sym e) ∙ sym (splice_is l part a k e (omega arith))

-- a front that is written
pub front_is : {A : Type 0} (l new : List A) (k : ℕ) → length new ≡ k → k ≤ length l → new ++ drop k l ≡ splice l 0 new
front_is l new k e h =
    let z : 0 + k ≡ k = omega arith in
    ap (λ (n : ℕ). new ++ drop n l) (sym z) ∙ sym (splice_is l new 0 k e (omega arith))

-- or filled
pub fill_is : {A : Type 0} (l new : List A) (k : ℕ) (z : A) → new ≡ replicate (length (take k l)) z → k ≤ length l → new ++ drop k l ≡ splice l 0 (replicate k z)
fill_is l new k z e h =
    let m : new ≡ replicate k z = e ∙ ap (λ (n : ℕ). replicate n z) (length-take-le k l h) in
    rw m (front_is l (replicate k z) k (length-replicate k z) h)
