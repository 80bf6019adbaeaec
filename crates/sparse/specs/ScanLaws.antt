-- What a scan that passes establishes of the stored matrix, and that it passes where that holds. Assumes nothing.
use Rattle.std.specs.Prelude.{◌≡◌, refl, true, List, [], ◌∷◌, ℕ, zero, suc, ◌+◌, ◌≤◌, ◌<◌, length, get_or, leb, ltb}
use Rattle.std.proofs.Common.{sym, ap, ◌∙◌, add-one, ltb-true, leb-true, lt-ltb, le-leb}
use native.Mathlib.Omega.{arith}
use Rattle.binary64.specs.NumberLaws.{both}
use Rattle.stretch.specs.Stretch.{part}
use Rattle.stretch.specs.StretchLaws.{part_cons, get_d_part, length_part}
use Rattle.sparse.specs.Stored.{CsrAt, start, end, Rising, Below, Sound}
use Rattle.sparse.specs.Scan.{all_below, rises_from, rises}

-- ---- columns below a bound

all_below-at : (n : ℕ) (ws : List ℕ) (j : ℕ) → all_below n ws ≡ true → j < length ws → get_or ws j 0 < n
unfolding all_below
all_below-at n [] j e h = absurd (omega arith)
all_below-at n (w ∷ ws) zero e h = ltb-true w n (both (ltb w n) (all_below n ws) e).0
all_below-at n (w ∷ ws) (suc j) e h = all_below-at n ws j (both (ltb w n) (all_below n ws) e).1 (omega arith)

pub below_of : (words : List ℕ) (at n k : ℕ) → at + k ≤ length words → all_below n (part words at k) ≡ true → Below words at n k
below_of words at n k h e =
    let l : length (part words at k) ≡ k = length_part words at k h in
    record { at = λ j t. rw get_d_part at (all_below-at n (part words at k) j e (omega arith)) }

all_below-all : (n : ℕ) (ws : List ℕ) → ((j : ℕ) → j < length ws → get_or ws j 0 < n) → all_below n ws ≡ true
unfolding all_below
all_below-all n [] f = refl
all_below-all n (w ∷ ws) f = rw (lt-ltb w n (f 0 (omega arith))) (all_below-all n ws (λ j h. f (suc j) (omega arith)))

pub below_scans : (words : List ℕ) (at n k : ℕ) → at + k ≤ length words → Below words at n k → all_below n (part words at k) ≡ true
below_scans words at n k h b =
    let l : length (part words at k) ≡ k = length_part words at k h in
    all_below-all n (part words at k) (λ j t. rw (get_d_part words at k j 0 (omega arith)) (b.at j (omega arith)))

-- ---- row starts

rises_from_top : (top a : ℕ) (bs : List ℕ) → rises_from top a bs ≡ true → a ≤ top
unfolding rises_from
rises_from_top top a [] e = leb-true a top e
rises_from_top top a (b ∷ bs) e =
    let f = both (leb a b) (rises_from top b bs) e in
    let h : a ≤ b = leb-true a b f.0 in
    let k : b ≤ top = rises_from_top top b bs f.1 in
    omega arith

rises_from-at : (top a : ℕ) (bs : List ℕ) (i : ℕ) → rises_from top a bs ≡ true → i < length bs → (get_or (a ∷ bs) i 0 ≤ get_or bs i 0) × (get_or bs i 0 ≤ top)
unfolding rises_from
rises_from-at top a [] i e h = absurd (omega arith)
rises_from-at top a (b ∷ bs) zero e h =
    let f = both (leb a b) (rises_from top b bs) e in
    (leb-true a b f.0, rises_from_top top b bs f.1)
rises_from-at top a (b ∷ bs) (suc i) e h = rises_from-at top b bs i (both (leb a b) (rises_from top b bs) e).1 (omega arith)

rises_from-all : (top a : ℕ) (bs : List ℕ) → ((i : ℕ) → i < length bs → get_or (a ∷ bs) i 0 ≤ get_or bs i 0) → get_or (a ∷ bs) (length bs) 0 ≤ top → rises_from top a bs ≡ true
unfolding rises_from
rises_from-all top a [] f e = le-leb a top e
rises_from-all top a (b ∷ bs) f e = rw (le-leb a b (f 0 (omega arith))) (rises_from-all top b bs (λ i h. f (suc i) (omega arith)) e)

module _ (words : List ℕ) (m : CsrAt) (k : ℕ) (h : m.starts + k < length words) where
  first_and_others : part words m.starts (k + 1) ≡ get_or words m.starts 0 ∷ part words (suc m.starts) k
  first_and_others = rw add-one (part_cons words m.starts k 0 (omega arith))

  others_long : length (part words (suc m.starts) k) ≡ k
  others_long = length_part words (suc m.starts) k (omega arith)

  start_is : (i : ℕ) → i ≤ k → get_or (get_or words m.starts 0 ∷ part words (suc m.starts) k) i 0 ≡ start words m i
  start_is i t = ap (λ (ws : List ℕ). get_or ws i 0) (sym first_and_others) ∙ get_d_part words m.starts (k + 1) i 0 (omega arith)

  end_is : (i : ℕ) → i < k → get_or (part words (suc m.starts) k) i 0 ≡ end words m i
  end_is i t =
      let o : suc m.starts + i ≡ m.starts + i + 1 = omega arith in
      get_d_part words (suc m.starts) k i 0 t ∙ ap (λ (q : ℕ). get_or words q 0) o

  rising_at : rises m.count (part words m.starts (k + 1)) ≡ true → (i : ℕ) → i < k → (start words m i ≤ end words m i) × (end words m i ≤ m.count)
  unfolding rises
  rising_at e i t =
      let s = start_is i (omega arith) in
      let g = end_is i t in
      let r = rises_from-at m.count (get_or words m.starts 0) (part words (suc m.starts) k) i (rw first_and_others at e) (omega (arith, others_long)) in
      (omega arith, omega arith)

  pub rising_of : rises m.count (part words m.starts (k + 1)) ≡ true → Rising words m k
  rising_of e = record { at = rising_at e }

  pub rising_scans : Rising words m k → start words m k ≤ m.count → rises m.count (part words m.starts (k + 1)) ≡ true
  unfolding rises
  rising_scans r e =
      let l = others_long in
      rw first_and_others
      (rises_from-all m.count (get_or words m.starts 0) (part words (suc m.starts) k)
      (λ i t.
      let a = start_is i (omega arith) in
      let b = end_is i (omega arith) in
      let c = r.at i (omega arith) in
      omega arith)
      (rw (l, start_is k (omega arith)) e))

pub sound_of : (words : List ℕ) (m : CsrAt) → m.starts + m.rows < length words → m.cols + m.count ≤ length words
    → rises m.count (part words m.starts (m.rows + 1)) ≡ true → all_below m.rows (part words m.cols m.count) ≡ true → Sound words m
sound_of words m s c r b =
    record { starts_fit = s; columns_fit = c; rising = rising_of words m m.rows s r; below = below_of words m.cols m.rows m.count c b }
