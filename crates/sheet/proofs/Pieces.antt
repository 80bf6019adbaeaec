-- A number in one of the pieces of a part is the number at its place in the part. Assumes nothing.
use Prim.Native.Nat.{ℕ, zero, suc, ◌+◌, ◌*◌, ◌-◌, ◌/◌, ◌≤◌, ◌<◌}
use mathlib.Core.Path.{◌≡◌, refl, sym, ap, ◌∙◌}
use mathlib.Core.List.{List, [], ◌∷◌}
use native.Mathlib.Nat.{le_of_suc-le-suc}
use native.Mathlib.Omega.{arith}
use borrow.Author.Tests.{lt-ltb}
use lib.ListN.{length, get_or, take, drop}
use Rattle.std.specs.Simd.{first_chunks}
use Rattle.std.proofs.Common.{drop-drop}
use Rattle.std.proofs.lemmas.List.{drop-take}
use lib.Dec.{ltb}
use mathlib.Core.Bool.{true, false}
use Rattle.binary64.specs.Number.{pick}
use Rattle.format.specs.Bytes.{number}
use Rattle.format.specs.RefusalLaws.{pick_true, pick_false}
use Rattle.sheet.specs.Items.{whole_in}

-- the i-th piece
pub piece : (w k i : ℕ) (s d : List ℕ) → i < k → get_or (first_chunks w k s) i d ≡ take w (drop (w * i) s)
piece w zero i s d h = absurd (omega arith)
piece w (suc k) zero s d h =
    let z : w * 0 ≡ 0 = omega arith in
    ap (λ (n : ℕ). take w (drop n s)) (sym z)
piece w (suc k) (suc i) s d h =
    let e : w + w * i ≡ w * suc i = omega arith in
    piece w k i (drop w s) d (le_of_suc-le-suc h) ∙ ap (take w) (drop-drop (w * i) w s ∙ ap (λ (n : ℕ). drop n s) e)

front : (w v : ℕ) (s : List ℕ) → w ≤ v → number w (take v s) ≡ number w s
unfolding number
front zero v s h = refl
front (suc w) zero s h = absurd (omega arith)
front (suc w) (suc v) [] h = refl
front (suc w) (suc v) (b ∷ s) h = ap (λ (n : ℕ). b + 256 * n) (front w v s (le_of_suc-le-suc h))

-- a number of w bytes from j on, in a piece of v bytes
pub inside : (w v j : ℕ) (s : List ℕ) → j + w ≤ v → number w (drop j (take v s)) ≡ number w (drop j s)
inside w v j s h =
    let e : v ≡ j + (v - j) = omega arith in
    ap (λ (n : ℕ). number w (drop j (take n s))) e
    ∙ ap (number w) (drop-take j (v - j) s)
    ∙ front w (v - j) (drop j s) (omega arith)

-- the same in an item that `get` found among the pieces
module _ (v i : ℕ) (part : List ℕ) (items : List (List ℕ)) (item : List ℕ) (e : items ≡ first_chunks v (length part / v) part) (n : length items ≡ length part / v) (h : i < length items) (at : item ≡ get_or items i item) where
  its_piece : item ≡ take v (drop (v * i) part)
  its_piece =
      let h' : i < length part / v = omega arith in
      at ∙ ap (λ (l : List (List ℕ)). get_or l i item) e ∙ piece v (length part / v) i part item h'

  pub in_item : (w j k : ℕ) → j + w ≤ v → v * i + j ≡ k → number w (drop j item) ≡ number w (drop k part)
  in_item w j k l q =
      ap (λ (p : List ℕ). number w (drop j p)) its_piece
      ∙ inside w v j (drop (v * i) part) l
      ∙ ap (number w) (drop-drop j (v * i) part ∙ ap (λ (m : ℕ). drop m part) q)

-- what is answered where there is a piece, and where there is none; n pieces are as many as the part has room for
pub an_item : {A : Type 0} (x y : A) (i n m : ℕ) → true ≡ ltb i n → n ≡ m → x ≡ pick (ltb i m) x y
an_item x y i n m h e = sym (pick_true x y (sym (h ∙ ap (ltb i) e)))

pub no_item : {A : Type 0} (x y : A) (i n m : ℕ) → false ≡ ltb i n → n ≡ m → y ≡ pick (ltb i m) x y
no_item x y i n m h e = sym (pick_false x y (sym (h ∙ ap (ltb i) e)))

-- a corner in the item of its triangle
pub corner_in : (t j k : ℕ) (part : List ℕ) (items : List (List ℕ)) (item : List ℕ) → items ≡ first_chunks 12 (length part / 12) part → length items ≡ length part / 12 → t < length items
    → item ≡ get_or items t item → length item ≡ 12 → j < 3 → 3 * t + j ≡ k → whole_in item j ≡ whole_in part k
unfolding whole_in
corner_in t j k part items item e n h at l b q =
    let x : j < length item / 4 = omega arith in
    let y : k < length part / 4 = omega arith in
    pick_true _ _ (lt-ltb j (length item / 4) x)
    ∙ in_item 12 t part items item e n h at 4 (4 * j) (4 * k) (omega arith) (omega arith)
    ∙ sym (pick_true _ _ (lt-ltb k (length part / 4) y))
