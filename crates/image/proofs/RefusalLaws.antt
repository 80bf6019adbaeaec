-- Every refusal has a number that is not 0. Assumes nothing.
use mathlib.Core.Path.{◌≡◌}
use native.Mathlib.Omega.{arith}
use Rattle.refusal.specs.declared.Refusal.{Refusal}
use Rattle.refusal.specs.declared.Refusal.TheVariants.{Length, TooMany, Mismatch, OutsideSet, Setting, NotANumber, OutOfRange, Space, NoMark, Record}
use Rattle.refusal.specs.Refusal.{number_of}

pub refuses_some : (e : Refusal) → number_of e ≡ 0 → ⊥
refuses_some Length z = omega (arith, z)
refuses_some TooMany z = omega (arith, z)
refuses_some Mismatch z = omega (arith, z)
refuses_some OutsideSet z = omega (arith, z)
refuses_some Setting z = omega (arith, z)
refuses_some NotANumber z = omega (arith, z)
refuses_some OutOfRange z = omega (arith, z)
refuses_some Space z = omega (arith, z)
refuses_some NoMark z = omega (arith, z)
refuses_some Record z = omega (arith, z)
