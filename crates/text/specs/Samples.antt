-- The text of document 01's sample S1, of a refusal, and of numbers at the ends of their ranges, computed from the definitions. Assumes nothing.
use Rattle.std.specs.Prelude.{ℕ, ◌≡◌, refl, true, List, [], ◌∷◌, Float}
use Rattle.std.specs.Float.{nan, inf, binary64}
use Rattle.std.specs.Float.Ieee.{of_bits, to_bits}
use Rattle.text.specs.Text.{glyph, digits, places_by, places, decimal, hex_of, word, numbers, line, singles, pairs, end_line, refused_text, run_text}

-- 7ff8000000000000
nan_text : hex_of nan ≡ 55 ∷ 102 ∷ 102 ∷ 56 ∷ 48 ∷ 48 ∷ 48 ∷ 48 ∷ 48 ∷ 48 ∷ 48 ∷ 48 ∷ 48 ∷ 48 ∷ 48 ∷ 48 ∷ []
unfolding hex_of digits glyph to_bits
nan_text = refl

-- fff0000000000000
infinity_text : hex_of (inf true) ≡ 102 ∷ 102 ∷ 102 ∷ 48 ∷ 48 ∷ 48 ∷ 48 ∷ 48 ∷ 48 ∷ 48 ∷ 48 ∷ 48 ∷ 48 ∷ 48 ∷ 48 ∷ 48 ∷ []
unfolding hex_of digits glyph to_bits
infinity_text = refl

-- 0, and 18446744073709551615
zero_text : decimal 0 ≡ 48 ∷ []
unfolding decimal places places_by digits glyph
zero_text = refl

most_text : decimal 18446744073709551615 ≡ 49 ∷ 56 ∷ 52 ∷ 52 ∷ 54 ∷ 55 ∷ 52 ∷ 52 ∷ 48 ∷ 55 ∷ 51 ∷ 55 ∷ 48 ∷ 57 ∷ 53 ∷ 53 ∷ 49 ∷ 54 ∷ 49 ∷ 53 ∷ []
unfolding decimal places places_by digits glyph
most_text = refl

-- refused 10
refused_text_lem : refused_text 10 ≡ 114 ∷ 101 ∷ 102 ∷ 117 ∷ 115 ∷ 101 ∷ 100 ∷ 32 ∷ 49 ∷ 48 ∷ 10 ∷ []
unfolding refused_text word decimal places places_by digits glyph
refused_text_lem = refl

-- S1, the numbers by their patterns
abbrev float : ℕ → Float
float b = of_bits binary64 b

abbrev us : List Float
us = float 0x0000_0000_0000_0000 ∷ float 0x3ff0_0000_0000_0000 ∷ float 0x0000_0000_0000_0000 ∷ []

abbrev rs : List Float
rs = float 0x3ff0_0000_0000_0000 ∷ float 0x0000_0000_0000_0000 ∷ []

abbrev gs : List Float
gs = float 0x3fe0_0000_0000_0000 ∷ float 0x0000_0000_0000_0000 ∷ []

abbrev ps : List Float
ps = float 0x3fe0_0000_0000_0000 ∷ float 0x3fe0_0000_0000_0000 ∷ float 0x3fe0_0000_0000_0000 ∷ float 0x3fe6_6666_6666_6666 ∷ float 0x3fe0_0000_0000_0000 ∷ float 0x3fec_cccc_cccc_cccd ∷ float 0x3fe0_0000_0000_0000 ∷ float 0x3ff1_9999_9999_999a ∷ float 0x3fe0_0000_0000_0000 ∷ float 0x3ff4_cccc_cccc_cccd ∷ []

abbrev pub s1_text : List ℕ
s1_text =
    101 ∷ 110 ∷ 100 ∷ 32 ∷ 51 ∷ 32 ∷ 49 ∷ 32 ∷ 51 ∷ 10
    ∷ 117 ∷ 32 ∷ 48 ∷ 48 ∷ 48 ∷ 48 ∷ 48 ∷ 48 ∷ 48 ∷ 48 ∷ 48 ∷ 48 ∷ 48 ∷ 48 ∷ 48 ∷ 48 ∷ 48 ∷ 48 ∷ 10
    ∷ 117 ∷ 32 ∷ 51 ∷ 102 ∷ 102 ∷ 48 ∷ 48 ∷ 48 ∷ 48 ∷ 48 ∷ 48 ∷ 48 ∷ 48 ∷ 48 ∷ 48 ∷ 48 ∷ 48 ∷ 48 ∷ 10
    ∷ 117 ∷ 32 ∷ 48 ∷ 48 ∷ 48 ∷ 48 ∷ 48 ∷ 48 ∷ 48 ∷ 48 ∷ 48 ∷ 48 ∷ 48 ∷ 48 ∷ 48 ∷ 48 ∷ 48 ∷ 48 ∷ 10
    ∷ 114 ∷ 32 ∷ 51 ∷ 102 ∷ 102 ∷ 48 ∷ 48 ∷ 48 ∷ 48 ∷ 48 ∷ 48 ∷ 48 ∷ 48 ∷ 48 ∷ 48 ∷ 48 ∷ 48 ∷ 48 ∷ 10
    ∷ 114 ∷ 32 ∷ 48 ∷ 48 ∷ 48 ∷ 48 ∷ 48 ∷ 48 ∷ 48 ∷ 48 ∷ 48 ∷ 48 ∷ 48 ∷ 48 ∷ 48 ∷ 48 ∷ 48 ∷ 48 ∷ 10
    ∷ 103 ∷ 32 ∷ 51 ∷ 102 ∷ 101 ∷ 48 ∷ 48 ∷ 48 ∷ 48 ∷ 48 ∷ 48 ∷ 48 ∷ 48 ∷ 48 ∷ 48 ∷ 48 ∷ 48 ∷ 48 ∷ 32 ∷ 48 ∷ 48 ∷ 48 ∷ 48 ∷ 48 ∷ 48 ∷ 48 ∷ 48 ∷ 48 ∷ 48 ∷ 48 ∷ 48 ∷ 48 ∷ 48 ∷ 48 ∷ 48 ∷ 10
    ∷ 112 ∷ 32 ∷ 51 ∷ 102 ∷ 101 ∷ 48 ∷ 48 ∷ 48 ∷ 48 ∷ 48 ∷ 48 ∷ 48 ∷ 48 ∷ 48 ∷ 48 ∷ 48 ∷ 48 ∷ 48 ∷ 32 ∷ 51 ∷ 102 ∷ 101 ∷ 48 ∷ 48 ∷ 48 ∷ 48 ∷ 48 ∷ 48 ∷ 48 ∷ 48 ∷ 48 ∷ 48 ∷ 48 ∷ 48 ∷ 48 ∷ 10
    ∷ 112 ∷ 32 ∷ 51 ∷ 102 ∷ 101 ∷ 48 ∷ 48 ∷ 48 ∷ 48 ∷ 48 ∷ 48 ∷ 48 ∷ 48 ∷ 48 ∷ 48 ∷ 48 ∷ 48 ∷ 48 ∷ 32 ∷ 51 ∷ 102 ∷ 101 ∷ 54 ∷ 54 ∷ 54 ∷ 54 ∷ 54 ∷ 54 ∷ 54 ∷ 54 ∷ 54 ∷ 54 ∷ 54 ∷ 54 ∷ 54 ∷ 10
    ∷ 112 ∷ 32 ∷ 51 ∷ 102 ∷ 101 ∷ 48 ∷ 48 ∷ 48 ∷ 48 ∷ 48 ∷ 48 ∷ 48 ∷ 48 ∷ 48 ∷ 48 ∷ 48 ∷ 48 ∷ 48 ∷ 32 ∷ 51 ∷ 102 ∷ 101 ∷ 99 ∷ 99 ∷ 99 ∷ 99 ∷ 99 ∷ 99 ∷ 99 ∷ 99 ∷ 99 ∷ 99 ∷ 99 ∷ 99 ∷ 100 ∷ 10
    ∷ 112 ∷ 32 ∷ 51 ∷ 102 ∷ 101 ∷ 48 ∷ 48 ∷ 48 ∷ 48 ∷ 48 ∷ 48 ∷ 48 ∷ 48 ∷ 48 ∷ 48 ∷ 48 ∷ 48 ∷ 48 ∷ 32 ∷ 51 ∷ 102 ∷ 102 ∷ 49 ∷ 57 ∷ 57 ∷ 57 ∷ 57 ∷ 57 ∷ 57 ∷ 57 ∷ 57 ∷ 57 ∷ 57 ∷ 57 ∷ 97 ∷ 10
    ∷ 112 ∷ 32 ∷ 51 ∷ 102 ∷ 101 ∷ 48 ∷ 48 ∷ 48 ∷ 48 ∷ 48 ∷ 48 ∷ 48 ∷ 48 ∷ 48 ∷ 48 ∷ 48 ∷ 48 ∷ 48 ∷ 32 ∷ 51 ∷ 102 ∷ 102 ∷ 52 ∷ 99 ∷ 99 ∷ 99 ∷ 99 ∷ 99 ∷ 99 ∷ 99 ∷ 99 ∷ 99 ∷ 99 ∷ 99 ∷ 100 ∷ 10
    ∷ []

s1_text_lem : run_text 3 1 3 us rs gs ps ≡ s1_text
unfolding run_text end_line singles pairs line numbers hex_of word decimal places places_by digits glyph of_bits to_bits
s1_text_lem = refl
