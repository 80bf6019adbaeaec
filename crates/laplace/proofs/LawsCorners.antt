-- Laws of heads and links, and the scan that makes them: from the last corner to the first. Assumes nothing.
use Prim.Native.Nat.{ℕ, zero, suc, ◌+◌, ◌*◌, ◌/◌, ◌≤◌, ◌<◌}
use native.Mathlib.Nat.{add-zero, min-le_right}
use native.Mathlib.Numerals.{add-one}
use native.Mathlib.Omega.{arith}
use mathlib.Core.Path.{◌≡◌, refl, sym, ap, subst, ◌∙◌}
use mathlib.Core.Bool.{Bool, true, false}
use mathlib.Core.List.{List, [], ◌∷◌, ◌++◌}
use lib.Dec.{eqb}
use lib.ListN.{length, get_or, set, take, drop, replicate, length-append, length-set, length-take, replicate-append-replicate, get_or-append, drop_of_length-le}
use lib.Seq.{drop-cons, ext_get_or, get_or_at, get_or-set_same, get_or-set_other, take-append_seam}
use Rattle.std.proofs.lemmas.List.{get_or-take, take-take}
use borrow.Author.Tests.{eqb-true, eqb-false}
use Rattle.binary64.specs.Number.{pick}
use Rattle.stretch.specs.Stretch.{splice}
use Rattle.stretch.specs.StretchLaws.{splice_cons, splice_nil, splice_all}
use Rattle.laplace.specs.Matrix.{AllBelow}
use Rattle.laplace.specs.Corners.{first_from, heads_from, links_from}

-- ---- each number of a list is below n

pub below_at : (n : ℕ) (l : List ℕ) (i : ℕ) → AllBelow n l → i < length l → get_or l i 0 < n
unfolding AllBelow
below_at n [] i b h = absurd (omega arith)
below_at n (x ∷ xs) zero b h = b.0
below_at n (x ∷ xs) (suc i) b h = below_at n xs i b.1 (omega arith)

pub below_more : (n : ℕ) (l : List ℕ) (j : ℕ) (rest : List ℕ) → AllBelow n l → l ≡ j ∷ rest → (j < n) × AllBelow n rest
unfolding AllBelow
below_more n l j rest b e = rw e at b

-- as many below n as there are pairs of coordinates
pub below_half : (m n : ℕ) (l : List ℕ) → m ≡ 2 * n → AllBelow n l → AllBelow (m / 2) l
below_half m n l h b = subst (λ (k : ℕ). AllBelow k l) (omega (arith, h)) b

-- ---- heads and links

pub length_heads : (k : ℕ) (ts : List ℕ) (n : ℕ) → length (heads_from k ts n) ≡ n
unfolding heads_from
length_heads k ts zero = refl
length_heads k ts (suc n) = simp length-append (omega (arith, length_heads k ts n))

pub get_or_heads : (k : ℕ) (ts : List ℕ) (n r : ℕ) → r < n → get_or (heads_from k ts n) r 0 ≡ first_from k r ts
unfolding heads_from
get_or_heads k ts zero r h = absurd (omega arith)
get_or_heads k ts (suc n) r h = go (eqb r n) refl (get_or_heads k ts n r)
  where
    go : (b : Bool) → eqb r n ≡ b → (r < n → get_or (heads_from k ts n) r 0 ≡ first_from k r ts) → get_or (heads_from k ts n ++ (first_from k n ts ∷ [])) r 0 ≡ first_from k r ts
    go true e f = let q : r ≡ n = eqb-true r n e in rw q (get_or_at (heads_from k ts n) (first_from k n ts) [] 0 n (length_heads k ts n))
    go false e f =
        let q : r < n = omega (arith, eqb-false r n e) in
        get_or-append (heads_from k ts n) (first_from k n ts ∷ []) 0 r (omega (arith, length_heads k ts n)) ∙ f q

pub heads_none : (k n : ℕ) → heads_from k [] n ≡ replicate n 0
unfolding heads_from first_from
heads_none k zero = refl
heads_none k (suc n) = rw (heads_none k n) (replicate-append-replicate n 1 0 ∙ ap (λ (i : ℕ). replicate i 0) (add-one n))

pub length_links : (k : ℕ) (ts : List ℕ) → length (links_from k ts) ≡ length ts
unfolding links_from
length_links k [] = refl
length_links k (t ∷ ts) = ap suc (length_links (suc k) ts)

pub get_or_links : (k : ℕ) (ts : List ℕ) (i : ℕ) → i < length ts → get_or (links_from k ts) i 0 ≡ first_from (suc (k + i)) (get_or ts i 0) (drop (suc i) ts)
unfolding links_from
get_or_links k [] i h = absurd (omega arith)
get_or_links k (t ∷ ts) zero h = rw add-zero
get_or_links k (t ∷ ts) (suc i) h =
    let e : suc (suc k + i) ≡ suc (k + suc i) = omega arith in
    get_or_links (suc k) ts i (omega arith) ∙ ap (λ (x : ℕ). first_from x (get_or ts i 0) (drop (suc i) ts)) e

-- a corner put in front is the head of its vertex
pub heads_cons : (k t : ℕ) (ts : List ℕ) (n : ℕ) → t < n → set (heads_from (suc k) ts n) t (suc k) ≡ heads_from k (t ∷ ts) n
unfolding first_from
heads_cons k t ts n h =
    ext_get_or 0 (set (heads_from (suc k) ts n) t (suc k)) (heads_from k (t ∷ ts) n) (simp length-set (length_heads (suc k) ts n ∙ sym (length_heads k (t ∷ ts) n))) at
  where
    one : (i : ℕ) → i < n → (b : Bool) → eqb t i ≡ b → get_or (set (heads_from (suc k) ts n) t (suc k)) i 0 ≡ pick b (suc k) (first_from (suc k) i ts)
    one i q true e = let p : t ≡ i = eqb-true t i e in
        rw (← p) (get_or-set_same (heads_from (suc k) ts n) t (suc k) 0 (omega (arith, length_heads (suc k) ts n)))
    one i q false e = get_or-set_other (heads_from (suc k) ts n) t i (suc k) 0 (λ (p : i ≡ t). eqb-false t i e (sym p)) ∙ get_or_heads (suc k) ts n i q

    at : (i : ℕ) → i < length (set (heads_from (suc k) ts n) t (suc k)) → get_or (set (heads_from (suc k) ts n) t (suc k)) i 0 ≡ get_or (heads_from k (t ∷ ts) n) i 0
    at i q =
        let m : i < n = omega (arith, length-set (heads_from (suc k) ts n) t (suc k), length_heads (suc k) ts n) in
        one i m (eqb t i) refl ∙ sym (get_or_heads k (t ∷ ts) n i m)

-- ---- the scan

-- corner i is the last of those left, and is taken from the back of them
module _ (ts : List ℕ) (n : ℕ) (b : AllBelow n ts) (left front : List ℕ) (v i : ℕ) (e : left ≡ take (length left) ts) (f : left ≡ front ++ (v ∷ [])) (g : i ≡ length front) where
  long : length left ≡ suc i
  long = ap length f ∙ length-append front (v ∷ []) ∙ omega arith

  pub scan_within : i < length ts
  scan_within = omega (arith, long, ap length e, length-take (length left) ts, min-le_right (length left) (length ts))

  vertex_is : v ≡ get_or ts i 0
  vertex_is = sym (get_or_at front v [] 0 i (sym g)) ∙ ap (λ (y : List ℕ). get_or y i 0) (sym f ∙ e) ∙ get_or-take (length left) ts i 0 (omega (arith, long))

  pub scan_below : v < n
  scan_below = omega (arith, vertex_is, below_at n ts i b scan_within)

  pub scan_left : front ≡ take (length front) ts
  scan_left = sym (take-append_seam front (v ∷ [])) ∙ ap (λ (y : List ℕ). take (length front) y) (sym f ∙ e) ∙ take-take (length front) (length left) ts (omega (arith, long))

  rest_is : drop i ts ≡ v ∷ drop (suc i) ts
  rest_is = drop-cons ts i 0 scan_within ∙ ap (λ (x : ℕ). x ∷ drop (suc i) ts) (sym vertex_is)

  -- it is put in front of those after it
  module _ (hs : List ℕ) (h : hs ≡ heads_from (length left) (drop (length left) ts) n) where
    heads_are : hs ≡ heads_from (suc i) (drop (suc i) ts) n
    heads_are = rw long at h

    pub scan_heads : set hs v (i + 1) ≡ heads_from (length front) (drop (length front) ts) n
    scan_heads = rw (heads_are, add-one i, ← g, rest_is) (heads_cons i v (drop (suc i) ts) n scan_below)

    pub scan_links : (l₀ l : List ℕ) → l ≡ splice l₀ (length left) (links_from (length left) (drop (length left) ts))
        → set l i (get_or hs v 0) ≡ splice l₀ (length front) (links_from (length front) (drop (length front) ts))
    unfolding links_from
    scan_links l₀ l k =
        let d = drop (suc i) ts in
        rw (k, long, heads_are, ← g, rest_is, get_or_heads (suc i) d n v scan_below) (sym (splice_cons l₀ i (first_from (suc i) v d) (links_from (suc i) d)))

-- before the first turn
pub scan_none : (ts : List ℕ) (n k : ℕ) → length ts ≤ k → heads_from k (drop k ts) n ≡ replicate n 0
scan_none ts n k h = rw (drop_of_length-le ts {i = k} h) (heads_none k n)

pub scan-no_links : (ts l : List ℕ) (k : ℕ) → length ts ≤ k → splice l k (links_from k (drop k ts)) ≡ l
unfolding links_from
scan-no_links ts l k h = rw (drop_of_length-le ts {i = k} h) (splice_nil l k)

-- after the last
pub scan_done : (ts l : List ℕ) → length l ≡ length ts → splice l 0 (links_from 0 (drop 0 ts)) ≡ links_from 0 ts
scan_done ts l h = splice_all l (links_from 0 ts) (length_links 0 ts ∙ sym h)
