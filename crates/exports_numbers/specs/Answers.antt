-- How the C functions hand over a test, a hit and the weights: a number, and numbers at the front of a lent part, which stays as it was where it is too short (2) or there is nothing to put.
-- Definitions only. Assumes nothing.
use Rattle.std.specs.Prelude.{◌≡◌, ℕ, Bool, List, Option, Some, None, ltb, length, set, Float}
use Rattle.binary64.specs.Number.{pick}
use Rattle.plane.specs.declared.Point.{Point}
use Rattle.plane.specs.declared.Weights.{Weights}

abbrev pub flag : Bool → ℕ
flag t = pick t 1 0

abbrev pub hit_number : Option Point → ℕ
hit_number (Some p) = 1
hit_number None = 0

abbrev pub hit_put : Option Point → List Float → List Float
hit_put (Some p) out = set (set out 0 p.x) 1 p.y
hit_put None out = out

abbrev pub weights_put : Weights → List Float → List Float
weights_put w out = set (set (set out 0 w.r) 1 w.s) 2 w.t

-- the number k and the part out' after a call that asks for n places
pub record Answers (n said : ℕ) (put out out' : List Float) (k : ℕ) : Type 0 where
  pub number : k ≡ pick (ltb (length out) n) 2 said
  pub left : out' ≡ pick (ltb (length out) n) out put
