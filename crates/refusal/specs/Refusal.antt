-- The numbers of the refusals (document 01's table), and that of an outcome: 0 where nothing refused. Definitions only.
-- Assumes nothing.
use Rattle.std.specs.Prelude.{ℕ, Result, Ok, Err}
use Rattle.refusal.specs.declared.Refusal.{Refusal}
use Rattle.refusal.specs.declared.Refusal.TheVariants.{Length, TooMany, Mismatch, OutsideSet, Setting, NotANumber, OutOfRange, Space, NoMark, Record}

abbrev pub number_of : Refusal → ℕ
number_of Length = 1
number_of TooMany = 2
number_of Mismatch = 3
number_of OutsideSet = 4
number_of Setting = 5
number_of NotANumber = 6
number_of OutOfRange = 7
number_of Space = 8
number_of NoMark = 9
number_of Record = 10

-- 0, or the number of what refused
abbrev pub fault : {A : Type 0} → Result A Refusal → ℕ
fault (Ok x) = 0
fault (Err r) = number_of r
