-- `go` meets its contract: after i turns i passes are made, none of them a crossing; crossings are all that is left, and a pass at a finished path would change nothing. Assumes nothing.
use Prim.Native.Nat.{◌+◌, ◌≤◌}
use Rattle.work.specs.Memory.{goes, work}
use Rattle.work.specs.Ready.{Standing, Comes}
use Rattle.pass.proofs.go.Given as goal

abbrev pub invariant-loop-i : goal.invariant-loop-i
invariant-loop-i l =
    Standing l.laid.counted.plan l.s × (l.s.place ≤ l.initial.s.place + l.i) × Comes (goes l.laid.counted.plan l.laid.words.now l.i (work l.initial.floats l.initial.path l.initial.s)) l.s l.floats l.path
