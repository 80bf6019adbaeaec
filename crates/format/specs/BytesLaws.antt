-- Laws of little-endian numbers: reading and writing are inverse, for a number of any width and for any list of them. Assumes nothing.
use Rattle.std.specs.Prelude.{ℕ, zero, suc, ◌+◌, ◌*◌, ◌/◌, ◌%◌, ◌^◌, ◌≤◌, ◌<◌, ◌≡◌, refl, List, [], ◌∷◌, ◌++◌, length, get_or, take, drop}
use Rattle.std.proofs.Common.{zero-le, suc-le-suc, sym, ap, ap₂, ◌∙◌, subst, append_assoc, zero-add, suc-add, one-mul, mul-zero, pow-suc, le_of_suc-le-suc, div-lt_iff_lt-mul, add-one, arith, lit<, length-append, length-drop, get_or-drop, drop_at, drop-drop, take-add}
use Rattle.std.proofs.Math.Nat.{pow-zero, one-le-pow}
use Rattle.std.proofs.Math.Numerals.{add-two, add-three}
use Rattle.std.proofs.Math.Arith.{lt-one}
use Rattle.format.specs.Bytes.{Bytes, number, bytes, numbers, all_bytes}

-- every element is below a bound
pub record Under (bound : ℕ) (xs : List ℕ) : Type 0 where
  pub below : (i : ℕ) → i < length xs → get_or xs i 0 < bound

pub under_nil : {bound : ℕ} → Under bound []
under_nil = record { below = λ i h. absurd (omega arith) }

pub under_cons : {bound x : ℕ} {xs : List ℕ} → x < bound → Under bound xs → Under bound (x ∷ xs)
under_cons {bound} {x} {xs} h u = record { below = at }
  where
    at : (i : ℕ) → i < suc (length xs) → get_or (x ∷ xs) i 0 < bound
    at zero k = h
    at (suc i) k = u.below i (le_of_suc-le-suc k)

pub under_head : {bound x : ℕ} {xs : List ℕ} → Under bound (x ∷ xs) → x < bound
under_head h = h.below 0 (suc-le-suc zero-le)

pub under_tail : {bound x : ℕ} {xs : List ℕ} → Under bound (x ∷ xs) → Under bound xs
under_tail h = record { below = λ i k. h.below (suc i) (suc-le-suc k) }

bytes_tail : {b : ℕ} {s : List ℕ} → Bytes (b ∷ s) → Bytes s
bytes_tail h = record { below = λ i. h.below (suc i) }

pub bytes_drop : (k : ℕ) {s : List ℕ} → Bytes s → Bytes (drop k s)
bytes_drop k {s} h = record { below = λ i. subst (λ (x : ℕ). x < 256) (sym (get_or-drop k s i 0)) (h.below (k + i)) }

-- ---- one number

pub number_nil : (w : ℕ) → number w [] ≡ 0
unfolding number
number_nil zero = refl
number_nil (suc w) = refl

-- one byte more
pub number-drop : (w k : ℕ) (s : List ℕ) → number (suc w) (drop k s) ≡ get_or s k 0 + 256 * number w (drop (suc k) s)
unfolding number
number-drop w zero [] = sym (ap (λ (x : ℕ). 0 + 256 * x) (number_nil w))
number-drop w (suc k) [] = sym (ap (λ (x : ℕ). 0 + 256 * x) (number_nil w))
number-drop w zero (b ∷ s) = refl
number-drop w (suc k) (b ∷ s) = number-drop w k s

-- the low v bytes and the w above them
pub number_add : (v w : ℕ) (s : List ℕ) → number (v + w) s ≡ number v s + 256 ^ v * number w (drop v s)
unfolding number
number_add zero w s = ap (λ (n : ℕ). number n s) (zero-add w) ∙ sym (rw (pow-zero, zero-add, one-mul))
number_add (suc v) w [] = ap (λ (n : ℕ). number n []) (suc-add v w) ∙ sym (ap (λ (n : ℕ). 0 + 256 ^ suc v * n) (number_nil w) ∙ omega arith)
number_add (suc v) w (b ∷ s) =
    ap (λ (n : ℕ). number n (b ∷ s)) (suc-add v w)
    ∙ ap (λ (n : ℕ). b + 256 * n) (number_add v w s)
    ∙ regroup (number v s) (number w (drop v s)) (256 ^ v)
    ∙ ap (λ (p : ℕ). b + 256 * number v s + p * number w (drop v s)) (sym (pow-suc 256 v))
  where
    regroup : (m n p : ℕ) → b + 256 * (m + p * n) ≡ b + 256 * m + p * 256 * n
    regroup m n p = omega arith

-- four bytes and eight
pub number_four : (s : List ℕ) (k : ℕ) → number 4 (drop k s) ≡ get_or s k 0 + 256 * get_or s (k + 1) 0 + 65536 * get_or s (k + 2) 0 + 16777216 * get_or s (k + 3) 0
unfolding number
number_four s k =
    let a : number 4 (drop k s) ≡ get_or s k 0 + 256 * number 3 (drop (suc k) s) = number-drop 3 k s in
    let b : number 3 (drop (suc k) s) ≡ get_or s (suc k) 0 + 256 * number 2 (drop (suc (suc k)) s) = number-drop 2 (suc k) s in
    let c : number 2 (drop (suc (suc k)) s) ≡ get_or s (suc (suc k)) 0 + 256 * number 1 (drop (suc (suc (suc k))) s) = number-drop 1 (suc (suc k)) s in
    let d : number 1 (drop (suc (suc (suc k))) s) ≡ get_or s (suc (suc (suc k))) 0 + 256 * 0 = number-drop 0 (suc (suc (suc k))) s in
    rw (add-one, add-two, add-three) (omega arith)

pub number_eight : (s : List ℕ) (k : ℕ) → number 8 (drop k s) ≡ number 4 (drop k s) + 4294967296 * number 4 (drop (k + 4) s)
number_eight s k = number_add 4 4 (drop k s) ∙ ap (λ (l : List ℕ). number 4 (drop k s) + 4294967296 * number 4 l) (drop-drop 4 k s)

pub number_lt : (w : ℕ) {s : List ℕ} → Bytes s → number w s < 256 ^ w
unfolding number
number_lt w {s} h = go w s h
  where
    go : (w : ℕ) (s : List ℕ) → Bytes s → number w s < 256 ^ w
    go zero s h = rw pow-zero (lit< tt)
    go (suc w) [] h = one-le-pow (suc w) 256 (lit< tt)
    go (suc w) (b ∷ s) h =
        let p : number w s < 256 ^ w = go w s (bytes_tail h) in
        let q : b < 256 = h.below 0 in
        omega arith

pub length-bytes : (w x : ℕ) → length (bytes w x) ≡ w
unfolding bytes
length-bytes zero x = refl
length-bytes (suc w) x = ap suc (length-bytes w (x / 256))

pub number-bytes : (w x : ℕ) (t : List ℕ) → x < 256 ^ w → number w (bytes w x ++ t) ≡ x
unfolding number bytes
number-bytes zero x t h = sym (lt-one (rw pow-zero at h))
number-bytes (suc w) x t h =
    let d : x / 256 < 256 ^ w = (div-lt_iff_lt-mul (lit< tt)).1 (rw pow-suc at h) in
    ap (λ (y : ℕ). x % 256 + 256 * y) (number-bytes w (x / 256) t d) ∙ omega arith

pub bytes-number : (w : ℕ) (s : List ℕ) → Bytes s → w ≤ length s → bytes w (number w s) ≡ take w s
unfolding number bytes
bytes-number zero s h k = refl
bytes-number (suc w) [] h k = absurd (omega arith)
bytes-number (suc w) (b ∷ s) h k =
    let q : b < 256 = h.below 0 in
    let m : (b + 256 * number w s) % 256 ≡ b = omega arith in
    let d : (b + 256 * number w s) / 256 ≡ number w s = omega arith in
    ap₂ (λ (x : ℕ) (l : List ℕ). x ∷ l) m (ap (bytes w) d ∙ bytes-number w s (bytes_tail h) (le_of_suc-le-suc k))

-- ---- a list of numbers

pub length-numbers : (w k : ℕ) (s : List ℕ) → length (numbers w k s) ≡ k
unfolding numbers
length-numbers w zero s = refl
length-numbers w (suc k) s = ap suc (length-numbers w k (drop w s))

pub get_or-numbers : (w k : ℕ) (s : List ℕ) (i : ℕ) → i < k → get_or (numbers w k s) i 0 ≡ number w (drop (w * i) s)
unfolding numbers
get_or-numbers w zero s i h = absurd (omega arith)
get_or-numbers w (suc k) s zero h = rw mul-zero
get_or-numbers w (suc k) s (suc i) h =
    get_or-numbers w k (drop w s) i (le_of_suc-le-suc h) ∙ ap (number w) (drop-drop (w * i) w s ∙ ap (λ (n : ℕ). drop n s) e)
  where
    e : w + w * i ≡ w * suc i
    e = omega arith

pub numbers_under : (w k : ℕ) {s : List ℕ} → Bytes s → Under (256 ^ w) (numbers w k s)
numbers_under w k {s} h =
    record {
      below = λ i l.
          let l' : i < k = omega (arith, length-numbers w k s) in
          subst (λ (x : ℕ). x < 256 ^ w) (sym (get_or-numbers w k s i l')) (number_lt w (bytes_drop (w * i) h));
    }

pub length-all_bytes : (w : ℕ) (xs : List ℕ) → length (all_bytes w xs) ≡ w * length xs
unfolding all_bytes
length-all_bytes w [] = sym (mul-zero w)
length-all_bytes w (x ∷ xs) = rw (length-append, length-bytes, length-all_bytes w xs) (omega arith)

pub all_bytes-append : (w : ℕ) (xs ys : List ℕ) → all_bytes w (xs ++ ys) ≡ all_bytes w xs ++ all_bytes w ys
unfolding all_bytes
all_bytes-append w [] ys = refl
all_bytes-append w (x ∷ xs) ys = ap (λ (l : List ℕ). bytes w x ++ l) (all_bytes-append w xs ys) ∙ sym (append_assoc (bytes w x) (all_bytes w xs) (all_bytes w ys))

pub numbers-all_bytes : (w : ℕ) (xs t : List ℕ) → Under (256 ^ w) xs → numbers w (length xs) (all_bytes w xs ++ t) ≡ xs
unfolding numbers all_bytes
numbers-all_bytes w [] t h = refl
numbers-all_bytes w (x ∷ xs) t h =
    rw append_assoc
    (ap₂ (λ (y : ℕ) (l : List ℕ). y ∷ l)
    (number-bytes w x (all_bytes w xs ++ t) (h.below 0 (suc-le-suc zero-le)))
    (ap (numbers w (length xs)) (drop_at (bytes w x) (all_bytes w xs ++ t) w (length-bytes w x)) ∙ numbers-all_bytes w xs t (under_tail h)))

pub all_bytes-numbers : (w k : ℕ) (s : List ℕ) → Bytes s → w * k ≤ length s → all_bytes w (numbers w k s) ≡ take (w * k) s
unfolding numbers all_bytes
all_bytes-numbers w zero s h l = sym (ap (λ (n : ℕ). take n s) (mul-zero w))
all_bytes-numbers w (suc k) s h l =
    let l' : w ≤ length s = omega arith in
    let m : w * k ≤ length (drop w s) = omega (arith, length-drop w s) in
    ap₂ (λ (a b : List ℕ). a ++ b) (bytes-number w s h l') (all_bytes-numbers w k (drop w s) (bytes_drop w h) m)
    ∙ sym (take-add w (w * k) s)
    ∙ ap (λ (n : ℕ). take n s) e
  where
    e : w + w * k ≡ w * suc k
    e = omega arith
