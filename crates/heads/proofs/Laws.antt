-- What a check that puts something comes to. Assumes nothing.
use Rattle.std.specs.Prelude.{ℕ, Bool, true, ◌&&◌, ◌≡◌, List, leb, length}
use Rattle.format.specs.Sheet.{parse}
use Rattle.sheet.specs.declared.Header.{Header}
use Rattle.sheet.specs.Answer.{Accepted, checked_of}
use Rattle.records.specs.Numbers.{Listed, placed}
use Rattle.heads.specs.Heads.{settings_put, head_numbers, Checks}

pub checked_put : (sheet hs : List ℕ) (l : Listed) {h : Header} → Accepted h ≡ checked_of (parse sheet) → {f : Bool} → f ≡ placed 8 4 l → (leb 6 (length hs) && f) ≡ true
    → {hs' : List ℕ} → hs' ≡ head_numbers h hs → {l' : Listed} → l' ≡ settings_put h.settings l → Checks sheet hs l 0 hs' l'
checked_put sheet hs l e p fit q s =
    record { said = rw (← e, ← p, fit); head = rw (← e, ← p, fit, q); settings = rw (← e, ← p, fit, s) }
