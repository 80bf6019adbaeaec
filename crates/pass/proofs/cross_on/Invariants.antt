-- `cross_on` meets its contract: after i turns i crossings are made, each from a path that has points, and a pass at a finished path would change nothing. Assumes nothing.
use Prim.Native.Nat.{◌+◌, ◌≤◌}
use mathlib.Core.Path.{◌≡◌}
use Rattle.work.specs.Memory.{goes, work}
use Rattle.work.specs.Ready.{Standing, Comes}
use Rattle.pass.proofs.cross_on.Given as goal

abbrev pub invariant-loop-i : goal.invariant-loop-i
invariant-loop-i l =
    Standing l.laid.counted.plan l.s × (l.s.place ≤ l.initial.s.place + l._i) × Comes (goes l.laid.counted.plan l.laid.words.now l._i (work l.floats l.initial.path l.initial.s)) l.s l.floats l.path × (l.s.end ≡ 0 → ⊥) × (l.s.walk.points ≡ 0 → ⊥)
