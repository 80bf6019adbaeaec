-- Laws of the text: how long it is, and a digit, a number or a line more. Assumes nothing.
use Rattle.std.specs.Prelude.{◌≡◌, refl, Bool, true, false, not, ◌&&◌, ◌||◌, List, [], ◌∷◌, ◌++◌, ℕ, zero, suc, ◌+◌, ◌-◌, ◌*◌, ◌/◌, ◌%◌, ◌^◌, ◌≤◌, ◌<◌, ltb, eqb, length, drop, get_or, set, Float}
use Rattle.std.proofs.Common.{sym, ap, ◌∙◌, append-nil, append_assoc, pow-suc, add-one, arith, ltb-true, ltb-false, eq-eqb, length-append, drop-cons}
use Rattle.std.specs.Bool.{beq}
use Rattle.std.proofs.Math.Numerals.{add-two}
use Rattle.std.proofs.Math.Nat.{add-div_left, div-eq_of_lt}
use Rattle.std.proofs.Math.Seq.{take-append_seam, drop-append_seam}
use Rattle.std.specs.Float.{nan, inf, fin, binary64}
use Rattle.std.specs.Float.Ieee.{up, down, ne, eq, is_nan, to_bits}
use Rattle.binary64.specs.Number.{pick}
use Rattle.stretch.specs.Stretch.{splice}
use Rattle.stretch.specs.StretchLaws.{splice_nil, splice_snoc, set-splice-after}
use Rattle.text.specs.declared.Shown.{Shown}
use Rattle.text.specs.Put.{Puts, text_of}
use Rattle.text.specs.PutLaws.{puts}
use Rattle.text.specs.Text.{glyph, digits, places_by, places, decimal, hex_of, space, newline, word, numbers, line, lines_by, lines, singles, pairs, end_line, refused_text, run_text}

-- ---- digits

pub glyph-low : (d : ℕ) → d < 10 → 48 + d ≡ glyph d
unfolding glyph
glyph-low d h = low (ltb d 10) refl
  where
    low : (t : Bool) → ltb d 10 ≡ t → 48 + d ≡ pick t (48 + d) (87 + d)
    low true e = refl
    low false e = absurd (omega (arith, ltb-false d 10 e))

pub glyph_high : (d : ℕ) → 10 ≤ d → 87 + d ≡ glyph d
unfolding glyph
glyph_high d h = high (ltb d 10) refl
  where
    high : (t : Bool) → ltb d 10 ≡ t → 87 + d ≡ pick t (48 + d) (87 + d)
    high true e = absurd (omega (arith, ltb-true d 10 e))
    high false e = refl

pub length_digits : (b k n : ℕ) → length (digits b k n) ≡ k
unfolding digits
length_digits b zero n = refl
length_digits b (suc k) n = length-append (digits b k (n / b)) (glyph (n % b) ∷ []) ∙ omega (arith, length_digits b k (n / b))

-- the last of k + 1 digits goes down first, and then the k before it
pub digit_last : (l : List ℕ) (at b k n : ℕ) → splice (set l (at + k) (glyph (n % b))) at (digits b k (n / b)) ≡ splice l at (digits b (suc k) n)
unfolding digits
digit_last l at b k n =
    let e : length (digits b k (n / b)) ≡ k = length_digits b k (n / b) in
    sym (splice_snoc l at (digits b k (n / b)) (glyph (n % b)) ∙ ap (λ (j : ℕ). set (splice l at (digits b k (n / b))) (at + j) (glyph (n % b))) e
    ∙ set-splice-after l at (digits b k (n / b)) (at + k) (glyph (n % b)) (omega arith))

-- a turn of the loop that puts them down, from the last to the first: w is the buffer as it will be
pub digit_step : (l w : List ℕ) (at b i n : ℕ) → 0 < i → splice l at (digits b i n) ≡ w → splice (set l (at + (i - 1)) (glyph (n % b))) at (digits b (i - 1) (n / b)) ≡ w
digit_step l w at b zero n h e = absurd (omega arith)
digit_step l w at b (suc k) n h e = let p : suc k - 1 ≡ k = omega arith in rw p (digit_last l at b k n ∙ e)

pub digits_none : (l w : List ℕ) (at b n : ℕ) → splice l at (digits b 0 n) ≡ w → l ≡ w
unfolding digits
digits_none l w at b n e = sym (splice_nil l at) ∙ e

-- ---- how many digits

places_few_by : (k n : ℕ) → n < 10 → places_by k n ≡ 1
unfolding places_by
places_few_by zero n h = refl
places_few_by (suc k) n h = few (ltb n 10) refl
  where
    few : (t : Bool) → ltb n 10 ≡ t → pick t 1 (suc (places_by k (n / 10))) ≡ 1
    few true e = refl
    few false e = absurd (omega (arith, ltb-false n 10 e))

places_more_by : (k n : ℕ) → 10 ≤ n → places_by (suc k) n ≡ suc (places_by k (n / 10))
unfolding places_by
places_more_by k n h = more (ltb n 10) refl
  where
    more : (t : Bool) → ltb n 10 ≡ t → pick t 1 (suc (places_by k (n / 10))) ≡ suc (places_by k (n / 10))
    more true e = absurd (omega (arith, ltb-true n 10 e))
    more false e = refl

-- one place more allowed makes no difference to a number that needs none
places_same : (k n : ℕ) → n < 10 ^ suc k → places_by k n ≡ places_by (suc k) n
places_same zero n h = let z : n < 10 = omega arith in places_few_by 0 n z ∙ sym (places_few_by 1 n z)
places_same (suc k) n h = cases (ltb n 10) refl (places_same k (n / 10))
  where
    cases : (t : Bool) → ltb n 10 ≡ t → (n / 10 < 10 ^ suc k → places_by k (n / 10) ≡ places_by (suc k) (n / 10)) → places_by (suc k) n ≡ places_by (suc (suc k)) n
    cases true e r = let z : n < 10 = ltb-true n 10 e in places_few_by (suc k) n z ∙ sym (places_few_by (suc (suc k)) n z)
    cases false e r =
        let z : n < 10 ^ suc k * 10 = rw (← (pow-suc 10 (suc k))) h in
        let y : 10 ≤ n = ltb-false n 10 e in
        places_more_by k n y ∙ ap suc (r (omega arith)) ∙ sym (places_more_by (suc k) n y)

places_most_by : (k n : ℕ) → places_by k n ≤ suc k
unfolding places_by
places_most_by zero n = omega arith
places_most_by (suc k) n = most (ltb n 10) (places_most_by k (n / 10))
  where
    most : (t : Bool) → places_by k (n / 10) ≤ suc k → pick t 1 (suc (places_by k (n / 10))) ≤ suc (suc k)
    most true r = omega arith
    most false r = omega arith

pub places_few : (n : ℕ) → n < 10 → places n ≡ 1
unfolding places
places_few n h = places_few_by 19 n h

pub places-more : (n : ℕ) → 10 ≤ n → n < 18446744073709551616 → places n ≡ suc (places (n / 10))
unfolding places
places-more n h k = places_more_by 18 n h ∙ ap suc (places_same 18 (n / 10) (omega arith))

pub places_log : (k n : ℕ) → 10 ^ k ≤ n → n < 10 * 10 ^ k → n < 18446744073709551616 → places n ≡ suc k
places_log zero n a b h = places_few n (omega arith)
places_log (suc k) n a b h = places-more n (omega arith) h ∙ ap suc (places_log k (n / 10) (omega arith) (omega arith) (omega arith))

pub places-most : (n : ℕ) → places n ≤ 20
unfolding places
places-most n = places_most_by 19 n

pub length-decimal : (n : ℕ) → length (decimal n) ≡ places n
unfolding decimal
length-decimal n = length_digits 10 (places n) n

pub length-word : (n : ℕ) → length (word n) ≡ 1 + places n
unfolding word
length-word n = omega (arith, length-decimal n)

pub length_hex : (x : Float) → length (hex_of x) ≡ 16
unfolding hex_of
length_hex x = length_digits 16 16 (to_bits binary64 x)

pub decimal_is : (n : ℕ) → digits 10 (places n) n ≡ decimal n
unfolding decimal
decimal_is n = refl

pub hex_is : (x : Float) → digits 16 16 (to_bits binary64 x) ≡ hex_of x
unfolding hex_of
hex_is x = refl

-- digits that are put are the number's
pub decimal_put : (s l : List ℕ) (at k n : ℕ) → k ≡ places n → l ≡ splice s at (digits 10 k n) → Puts s at (decimal n) (at + k) l
unfolding decimal
decimal_put s l at k n e p =
    puts (p ∙ ap (λ (j : ℕ). splice s at (digits 10 j n)) e) (ap (λ (j : ℕ). at + j) (e ∙ sym (length_digits 10 (places n) n)))

pub hex_put : (s l : List ℕ) (at b : ℕ) (x : Float) → b ≡ to_bits binary64 x → l ≡ splice s at (digits 16 16 b) → Puts s at (hex_of x) (at + 16) l
unfolding hex_of
hex_put s l at b x e p =
    puts (p ∙ ap (λ (j : ℕ). splice s at (digits 16 16 j)) e) (ap (λ (j : ℕ). at + j) (sym (length_digits 16 16 (to_bits binary64 x))))

-- a NaN alone differs from itself
pub ne_self : (x : Float) → ne x x ≡ is_nan x
unfolding ne eq is_nan
ne_self nan = refl
ne_self (inf s) = ap not (same s)
  where
    same : (b : Bool) → beq b b ≡ true
    same true = refl
    same false = refl
ne_self (fin s m e) = ap not (ap (λ (a : Bool). a && (beq s s || eqb (m * up e * down e) 0)) (eq-eqb (m * up e * down e) (m * up e * down e) refl) ∙ ap (λ (b : Bool). b || eqb (m * up e * down e) 0) (same s))
  where
    same : (b : Bool) → beq b b ≡ true
    same true = refl
    same false = refl

-- ---- lines

pub length_line_1 : (letter : ℕ) (x : Float) → length (line letter (x ∷ [])) ≡ 19
unfolding line numbers
length_line_1 letter x = simp length-append (omega (arith, length_hex x))

pub length_line_2 : (letter : ℕ) (x y : Float) → length (line letter (x ∷ y ∷ [])) ≡ 36
unfolding line numbers
length_line_2 letter x y = simp length-append (omega (arith, length_hex x, length_hex y))

pub length-singles : (letter : ℕ) (xs : List Float) → length (singles letter xs) ≡ 19 * length xs
unfolding singles
length-singles letter [] = refl
length-singles letter (x ∷ xs) = rw length-append (omega (arith, length_line_1 letter x, length-singles letter xs))

pub length_pairs : (letter : ℕ) (xs : List Float) → length (pairs letter xs) ≤ 18 * length xs
unfolding pairs
length_pairs letter [] = omega arith
length_pairs letter (x ∷ []) = omega arith
length_pairs letter (x ∷ y ∷ xs) = rw length-append (omega (arith, length_line_2 letter x y, length_pairs letter xs))

-- a line in pieces
pub line_is : (letter : ℕ) (xs : List Float) → line letter xs ≡ (letter ∷ []) ++ (numbers xs ++ (newline ∷ []))
unfolding line
line_is letter xs = refl

pub line_1 : (letter : ℕ) (x : Float) → line letter (x ∷ []) ≡ (letter ∷ []) ++ ((space ∷ []) ++ (hex_of x ++ (newline ∷ [])))
unfolding line numbers
line_1 letter x = ap (λ (r : List ℕ). letter ∷ space ∷ (r ++ (newline ∷ []))) (append-nil (hex_of x))

pub line_2 : (letter : ℕ) (x y : Float) → line letter (x ∷ y ∷ []) ≡ (letter ∷ []) ++ ((space ∷ []) ++ (hex_of x ++ ((space ∷ []) ++ (hex_of y ++ (newline ∷ [])))))
unfolding line numbers
line_2 letter x y =
    ap (λ (r : List ℕ). letter ∷ space ∷ r) (append_assoc (hex_of x) (space ∷ (hex_of y ++ [])) (newline ∷ []))
    ∙ ap (λ (r : List ℕ). letter ∷ space ∷ (hex_of x ++ (space ∷ (r ++ (newline ∷ []))))) (append-nil (hex_of y))

-- what is left of the numbers from number i on
pub numbers-next : (xs : List Float) (i : ℕ) → i < length xs → numbers (drop i xs) ≡ (space ∷ []) ++ (hex_of (get_or xs i nan) ++ numbers (drop (i + 1) xs))
unfolding numbers
numbers-next xs i h = rw (add-one, drop-cons xs i nan h)

pub numbers_none : (xs : List Float) (i : ℕ) → length xs ≤ i → numbers (drop i xs) ≡ []
unfolding numbers
numbers_none [] zero h = refl
numbers_none [] (suc i) h = refl
numbers_none (x ∷ xs) zero h = absurd (omega arith)
numbers_none (x ∷ xs) (suc i) h = numbers_none xs i (omega arith)

-- a line's numbers in front, and fewer
lines-front : (letter : ℕ) (front rest : List Float) → 0 < length front → lines letter (length front) (front ++ rest) ≡ line letter front ++ lines letter (length front) rest
unfolding lines lines_by
lines-front letter front rest p =
    let n : length (front ++ rest) / length front ≡ suc (length rest / length front) =
    ap (λ (k : ℕ). k / length front) (length-append front rest) ∙ add-div_left (length rest) p ∙ add-one (length rest / length front) in
    rw (n, take-append_seam front rest, drop-append_seam front rest) refl

pub lines_next : (letter width : ℕ) (xs front rest : List Float) → 0 < width → xs ≡ front ++ rest → length front ≡ width
    → lines letter width xs ≡ line letter front ++ lines letter width rest
lines_next letter width xs front rest p e h =
    ap (lines letter width) e ∙ ap (λ (k : ℕ). lines letter k (front ++ rest)) (sym h)
    ∙ lines-front letter front rest (omega arith) ∙ ap (λ (k : ℕ). line letter front ++ lines letter k rest) h

pub lines_none : (letter width : ℕ) (xs : List Float) → length xs < width → lines letter width xs ≡ []
unfolding lines lines_by
lines_none letter width xs h = rw (div-eq_of_lt h) refl

pub singles_are : (letter : ℕ) (xs : List Float) → lines letter 1 xs ≡ singles letter xs
unfolding singles
singles_are letter [] = lines_none letter 1 [] (omega arith)
singles_are letter (x ∷ xs) = lines_next letter 1 _ (x ∷ []) xs (omega arith) refl refl ∙ ap (λ (r : List ℕ). line letter (x ∷ []) ++ r) (singles_are letter xs)

pub pairs_are : (letter : ℕ) (xs : List Float) → lines letter 2 xs ≡ pairs letter xs
unfolding pairs
pairs_are letter [] = lines_none letter 2 [] (omega arith)
pairs_are letter (x ∷ []) = lines_none letter 2 (x ∷ []) (omega arith)
pairs_are letter (x ∷ y ∷ xs) = lines_next letter 2 _ (x ∷ y ∷ []) xs (omega arith) refl refl ∙ ap (λ (r : List ℕ). line letter (x ∷ y ∷ []) ++ r) (pairs_are letter xs)

-- what is left of the lines from number i on
pub singles-next : (letter : ℕ) (xs : List Float) (i : ℕ) → i < length xs → singles letter (drop i xs) ≡ line letter (get_or xs i nan ∷ []) ++ singles letter (drop (i + 1) xs)
unfolding singles
singles-next letter xs i h = rw (add-one, drop-cons xs i nan h)

pub singles_none : (letter : ℕ) (xs : List Float) (i : ℕ) → length xs ≤ i → singles letter (drop i xs) ≡ []
unfolding singles
singles_none letter [] zero h = refl
singles_none letter [] (suc i) h = refl
singles_none letter (x ∷ xs) zero h = absurd (omega arith)
singles_none letter (x ∷ xs) (suc i) h = singles_none letter xs i (omega arith)

pub pairs_next : (letter : ℕ) (xs : List Float) (i : ℕ) → i + 1 < length xs
    → pairs letter (drop i xs) ≡ line letter (get_or xs i nan ∷ get_or xs (i + 1) nan ∷ []) ++ pairs letter (drop (i + 2) xs)
unfolding pairs
pairs_next letter xs i h = rw (add-one, add-two, drop-cons xs i nan (omega arith), drop-cons xs (suc i) nan (omega arith))

pub pairs_none : (letter : ℕ) (xs : List Float) (i : ℕ) → length xs ≤ i + 1 → pairs letter (drop i xs) ≡ []
unfolding pairs
pairs_none letter [] zero h = refl
pairs_none letter [] (suc i) h = refl
pairs_none letter (x ∷ []) zero h = refl
pairs_none letter (x ∷ y ∷ xs) zero h = absurd (omega arith)
pairs_none letter (x ∷ xs) (suc i) h = pairs_none letter xs i (omega arith)

-- ---- whole texts in pieces, and the room that they need

pub word_is : (n : ℕ) → word n ≡ (space ∷ []) ++ decimal n
unfolding word
word_is n = refl

pub end_is : (place field_end path_end : ℕ) → end_line place field_end path_end ≡ (101 ∷ 110 ∷ 100 ∷ []) ++ (word place ++ (word field_end ++ (word path_end ++ (newline ∷ []))))
unfolding end_line
end_is place field_end path_end = refl

pub refused_is : (k : ℕ) → refused_text k ≡ (114 ∷ 101 ∷ 102 ∷ 117 ∷ 115 ∷ 101 ∷ 100 ∷ []) ++ (word k ++ (newline ∷ []))
unfolding refused_text
refused_is k = refl

pub run_is : (place field_end path_end : ℕ) (us rs gs ps : List Float)
    → run_text place field_end path_end us rs gs ps ≡ end_line place field_end path_end ++ (singles 117 us ++ (singles 114 rs ++ (pairs 103 gs ++ pairs 112 ps)))
unfolding run_text
run_is place field_end path_end us rs gs ps = refl

-- the sections by lines of so many numbers
pub run_lines : (s : Shown) → text_of s ≡ end_line s.place s.field_end s.path_end ++ (lines 117 1 s.field.now ++ (lines 114 1 s.norms.now ++ (lines 103 2 s.gradients.now ++ lines 112 2 s.points.now)))
run_lines s =
    rw (singles_are 117 s.field.now, singles_are 114 s.norms.now, pairs_are 103 s.gradients.now, pairs_are 112 s.points.now)
    (run_is s.place s.field_end s.path_end s.field.now s.norms.now s.gradients.now s.points.now)

pub length-end : (place field_end path_end : ℕ) → length (end_line place field_end path_end) ≡ 7 + (places place + (places field_end + places path_end))
unfolding end_line word
length-end p f w = simp length-append (omega (arith, length-decimal p, length-decimal f, length-decimal w))

pub length-refused : (k : ℕ) → length (refused_text k) ≡ 9 + places k
unfolding refused_text word
length-refused k = simp length-append (omega (arith, length-decimal k))

pub refused_room : (k at n : ℕ) → at + 29 ≤ n → at + length (refused_text k) ≤ n
refused_room k at n h = omega (arith, h, length-refused k, places-most k)

-- the pieces of a run's text
pub record RunSizes (place field_end path_end : ℕ) (us rs gs ps : List Float) : Type 0 where
  pub ends : length (end_line place field_end path_end) ≤ 67
  pub field : length (singles 117 us) ≡ 19 * length us
  pub norms : length (singles 114 rs) ≡ 19 * length rs
  pub gradients : length (pairs 103 gs) ≤ 18 * length gs
  pub points : length (pairs 112 ps) ≤ 18 * length ps

pub run_sizes : (place field_end path_end : ℕ) (us rs gs ps : List Float) → RunSizes place field_end path_end us rs gs ps
run_sizes p f w us rs gs ps = record {
  ends = omega (arith, length-end p f w, places-most p, places-most f, places-most w);
  field = length-singles 117 us;
  norms = length-singles 114 rs;
  gradients = length_pairs 103 gs;
  points = length_pairs 112 ps;
}

pub run_room : (place field_end path_end : ℕ) (us rs gs ps : List Float) (at n : ℕ)
    → at + (67 + (19 * (length us + length rs) + 18 * (length gs + length ps))) ≤ n → at + length (run_text place field_end path_end us rs gs ps) ≤ n
unfolding run_text
run_room p f w us rs gs ps at n r = let z = run_sizes p f w us rs gs ps in simp length-append (omega arith)
