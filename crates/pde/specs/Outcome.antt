-- What lies beyond an exit and what a crossing comes to, by name, and the numbers of the ends (document 01, Crossing). Definitions only. Assumes nothing.
use Rattle.std.specs.Prelude.{ℕ, Result}
use Rattle.pde.specs.declared.Side.{Side}
use Rattle.pde.specs.declared.Barrier.{Barrier}
use Rattle.pde.specs.declared.Leaving.{Leaving}
use Rattle.pde.specs.declared.Halt.{Halt}

abbrev pub Beyond : Type 0
Beyond = Result Side Barrier

abbrev pub Crossing : Type 0
Crossing = Result Leaving Halt

-- the end in a triangle, and at an exit
abbrev pub halt_number : Halt → ℕ
halt_number Halt.Dull = 1
halt_number Halt.Stuck = 2

abbrev pub barrier_number : Barrier → ℕ
barrier_number Barrier.Border = 3
barrier_number Barrier.Unnamed = 4
barrier_number Barrier.Above = 5
