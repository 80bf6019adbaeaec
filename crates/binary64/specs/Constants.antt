-- The binary64 constants of document 01 and of the ported Rust, each by its bit pattern (IEEE 754-2019, 3.4). Definitions only. Assumes nothing.
use Rattle.std.specs.Prelude.{from_bits, Float}
use Rattle.std.specs.Float.{binary64}

-- +0
abbrev pub plus_zero : Float
plus_zero = from_bits binary64 0x0000_0000_0000_0000

-- 0.5
abbrev pub half : Float
half = from_bits binary64 0x3fe0_0000_0000_0000

-- 1
abbrev pub one : Float
one = from_bits binary64 0x3ff0_0000_0000_0000

-- 2
abbrev pub two : Float
two = from_bits binary64 0x4000_0000_0000_0000

-- 3
abbrev pub three : Float
three = from_bits binary64 0x4008_0000_0000_0000

-- 1e-24
abbrev pub tiny : Float
tiny = from_bits binary64 0x3af3_57c2_99a8_8ea7

-- 1e-12
abbrev pub small : Float
small = from_bits binary64 0x3d71_9799_812d_ea11

-- 1 + 1e-12, rounded once
abbrev pub one_and_small : Float
one_and_small = from_bits binary64 0x3ff0_0000_0000_1198
