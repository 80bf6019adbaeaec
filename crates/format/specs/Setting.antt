-- What an item of section 5 says: one of the six settings, or what refuses it, a kind that is none of the six or a NaN's pattern. The program reads an item into a setting or a refusal of its own; each
-- is tied to this type here. Definitions only. Assumes nothing.
use Rattle.std.specs.Prelude.{ℕ, Float, Result, Ok, Err}
use Rattle.std.specs.Float.{binary64}
use Rattle.std.specs.Float.Ieee.{of_bits, nan_bits}
use Rattle.binary64.specs.Number.{pick}
use Rattle.refusal.specs.declared.Refusal.{Refusal}
use Rattle.format.specs.declared.Setting as code

pub data Setting : Type 0 where
  Limit : ℕ → Setting
  Tolerance : Float → Setting
  Step : Float → Setting
  StartX : Float → Setting
  StartY : Float → Setting
  Room : ℕ → Setting
  Unknown : Setting
  NotANumber : Setting

-- a setting that was read
abbrev pub said : code.Setting → Setting
said (code.Setting.Limit v) = Limit v
said (code.Setting.Tolerance x) = Tolerance x
said (code.Setting.Step x) = Step x
said (code.Setting.StartX x) = StartX x
said (code.Setting.StartY x) = StartY x
said (code.Setting.Room v) = Room v

-- what the reader answers
abbrev pub read_of : Setting → Result code.Setting Refusal
read_of (Limit v) = Ok (code.Setting.Limit v)
read_of (Tolerance x) = Ok (code.Setting.Tolerance x)
read_of (Step x) = Ok (code.Setting.Step x)
read_of (StartX x) = Ok (code.Setting.StartX x)
read_of (StartY x) = Ok (code.Setting.StartY x)
read_of (Room v) = Ok (code.Setting.Room v)
read_of Unknown = Err Refusal.Setting
read_of NotANumber = Err Refusal.NotANumber

-- the number of a pattern; a NaN's is refused
abbrev pub number_read : ℕ → Result Float Refusal
number_read bits = pick (nan_bits binary64 bits) (Err Refusal.NotANumber) (Ok (of_bits binary64 bits))
