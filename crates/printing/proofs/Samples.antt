-- Document 01's sample S1 from the bytes of its sheet to the text, and a sheet of no bytes, computed from the definitions. Assumes nothing.
use Rattle.std.specs.Prelude.{ℕ, ◌≡◌, refl, List, [], ◌∷◌}
use Rattle.model.specs.Machine.{needs}
use Rattle.model.specs.Shown.{shown, sheet_read}
use Rattle.text.specs.Text.{glyph, digits, places_by, places, decimal, hex_of, word, numbers, line, singles, pairs, end_line, refused_text, run_text}
use Rattle.text.specs.Samples.{s1_text}
use Rattle.printing.specs.Printed.{state_text, task_text, printed}

-- samples/s1.sheet: each count, and behind it each vertex, the triangle, its neighbours, the tags, each setting
abbrev s1_sheet : List ℕ
s1_sheet =
    3 ∷ 0 ∷ 0 ∷ 0
    ∷ 0 ∷ 0 ∷ 0 ∷ 0 ∷ 0 ∷ 0 ∷ 0 ∷ 0 ∷ 0 ∷ 0 ∷ 0 ∷ 0 ∷ 0 ∷ 0 ∷ 0 ∷ 0
    ∷ 0 ∷ 0 ∷ 0 ∷ 0 ∷ 0 ∷ 0 ∷ 0 ∷ 64 ∷ 0 ∷ 0 ∷ 0 ∷ 0 ∷ 0 ∷ 0 ∷ 0 ∷ 0
    ∷ 0 ∷ 0 ∷ 0 ∷ 0 ∷ 0 ∷ 0 ∷ 0 ∷ 0 ∷ 0 ∷ 0 ∷ 0 ∷ 0 ∷ 0 ∷ 0 ∷ 0 ∷ 64
    ∷ 1 ∷ 0 ∷ 0 ∷ 0
    ∷ 0 ∷ 0 ∷ 0 ∷ 0 ∷ 1 ∷ 0 ∷ 0 ∷ 0 ∷ 2 ∷ 0 ∷ 0 ∷ 0
    ∷ 3 ∷ 0 ∷ 0 ∷ 0
    ∷ 255 ∷ 255 ∷ 255 ∷ 255 ∷ 255 ∷ 255 ∷ 255 ∷ 255 ∷ 255 ∷ 255 ∷ 255 ∷ 255
    ∷ 3 ∷ 0 ∷ 0 ∷ 0
    ∷ 2 ∷ 1 ∷ 0
    ∷ 4 ∷ 0 ∷ 0 ∷ 0
    ∷ 3 ∷ 0 ∷ 0 ∷ 0 ∷ 0 ∷ 0 ∷ 0 ∷ 112 ∷ 1
    ∷ 4 ∷ 0 ∷ 0 ∷ 0 ∷ 0 ∷ 0 ∷ 0 ∷ 224 ∷ 63
    ∷ 5 ∷ 0 ∷ 0 ∷ 0 ∷ 0 ∷ 0 ∷ 0 ∷ 224 ∷ 63
    ∷ 6 ∷ 100 ∷ 0 ∷ 0 ∷ 0 ∷ 0 ∷ 0 ∷ 0 ∷ 0
    ∷ []

s1-printed : printed s1_sheet ≡ s1_text
unfolding printed task_text state_text needs shown sheet_read run_text end_line singles pairs line numbers word decimal places places_by digits glyph hex_of
s1-printed = refl

-- refused 1
none_printed : printed [] ≡ 114 ∷ 101 ∷ 102 ∷ 117 ∷ 115 ∷ 101 ∷ 100 ∷ 32 ∷ 49 ∷ 10 ∷ []
unfolding printed sheet_read refused_text word decimal places places_by digits glyph
none_printed = refl
