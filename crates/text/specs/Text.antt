-- The text that `spiral` prints (document 01, Length, writer, program), as a list of ASCII codes. Definitions only. Assumes nothing.
use Rattle.std.specs.Prelude.{ℕ, zero, suc, ◌+◌, ◌/◌, ◌%◌, List, [], ◌∷◌, ◌++◌, ltb, length, take, drop, Float}
use Rattle.std.specs.Float.{binary64}
use Rattle.std.specs.Float.Ieee.{to_bits}
use Rattle.binary64.specs.Number.{pick}

-- ---- numbers

-- a digit below 16: `0` to `9`, then `a` to `f`
unfoldable pub glyph : ℕ → ℕ
glyph d = pick (ltb d 10) (48 + d) (87 + d)

-- the last k digits of n in base b, the most significant first
unfoldable pub digits : ℕ → ℕ → ℕ → List ℕ
digits b zero n = []
digits b (suc k) n = digits b k (n / b) ++ (glyph (n % b) ∷ [])

-- how many digits n has in decimal, at most k + 1
unfoldable pub places_by : ℕ → ℕ → ℕ
places_by zero n = 1
places_by (suc k) n = pick (ltb n 10) 1 (suc (places_by k (n / 10)))

-- a number of 64 bits has at most 20
unfoldable pub places : ℕ → ℕ
places n = places_by 19 n

unfoldable pub decimal : ℕ → List ℕ
decimal n = digits 10 (places n) n

-- the 16 hexadecimal digits of a number's pattern; `to_bits` has one pattern for every NaN, 7ff8000000000000
unfoldable pub hex_of : Float → List ℕ
hex_of x = digits 16 16 (to_bits binary64 x)

-- ---- lines

abbrev pub space : ℕ
space = 32

abbrev pub newline : ℕ
newline = 10

-- a whole number behind a space
unfoldable pub word : ℕ → List ℕ
word n = space ∷ decimal n

-- each behind a space
unfoldable pub numbers : List Float → List ℕ
numbers [] = []
numbers (x ∷ xs) = space ∷ (hex_of x ++ numbers xs)

unfoldable pub line : ℕ → List Float → List ℕ
line letter xs = letter ∷ (numbers xs ++ (newline ∷ []))

-- k lines of so many numbers each
unfoldable pub lines_by : ℕ → ℕ → ℕ → List Float → List ℕ
lines_by letter width zero xs = []
lines_by letter width (suc k) xs = line letter (take width xs) ++ lines_by letter width k (drop width xs)

-- as many as the numbers fill
unfoldable pub lines : ℕ → ℕ → List Float → List ℕ
lines letter width xs = lines_by letter width (length xs / width) xs

-- a line for each number
unfoldable pub singles : ℕ → List Float → List ℕ
singles letter [] = []
singles letter (x ∷ xs) = line letter (x ∷ []) ++ singles letter xs

-- a line for each x and y
unfoldable pub pairs : ℕ → List Float → List ℕ
pairs letter [] = []
pairs letter (x ∷ []) = []
pairs letter (x ∷ y ∷ xs) = line letter (x ∷ y ∷ []) ++ pairs letter xs

-- ---- what is printed

-- `end`, the place, the field's end, the path's end
unfoldable pub end_line : ℕ → ℕ → ℕ → List ℕ
end_line place field_end path_end = 101 ∷ 110 ∷ 100 ∷ (word place ++ (word field_end ++ (word path_end ++ (newline ∷ []))))

-- `refused` and the number
unfoldable pub refused_text : ℕ → List ℕ
refused_text k = 114 ∷ 101 ∷ 102 ∷ 117 ∷ 115 ∷ 101 ∷ 100 ∷ (word k ++ (newline ∷ []))

-- of a run that stands at its last place: field values, norms, x and y of the gradients, x and y of the points
unfoldable pub run_text : ℕ → ℕ → ℕ → List Float → List Float → List Float → List Float → List ℕ
run_text place field_end path_end us rs gs ps = end_line place field_end path_end ++ (singles 117 us ++ (singles 114 rs ++ (pairs 103 gs ++ pairs 112 ps)))
