-- `Graded::cross` meets its contract: after i turns i crossings are made, and one at a finished path would change nothing. Assumes nothing.
use mathlib.Core.Path.{◌≡◌}
use Prim.Native.Nat.{◌+◌}
use Rattle.dry.specs.Crossing.{Going, Crossed}
use Rattle.dry.proofs.Graded.cross.Given as goal

abbrev pub invariant-loop-i : goal.invariant-loop-i
invariant-loop-i l = Going l.self.plan l.s × (l.s.place ≡ l.initial.s.place + l._i) × Crossed l.self.stored l.self.plan l.self.field l.initial.s l._i l.s
