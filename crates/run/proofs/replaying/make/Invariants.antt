-- `make` meets its contract. The loop's invariant: record, buffers and refusals are those after the calls made so far. Assumes nothing.
use borrow.Author.Rules.{rules}
use Prim.Native.Nat.{ℕ, ◌+◌, ◌-◌, ◌/◌, ◌≤◌, ◌<◌, min}
use mathlib.Core.Path.{◌≡◌, refl, sym, ap, ◌∙◌}
use mathlib.Core.List.{List, ◌++◌}
use native.Mathlib.Omega.{arith}
use lib.ListN.{length, drop, set, length-set}
use Rattle.image.specs.Calls.{buffers}
use Rattle.image.specs.Lists.{Held}
use Rattle.image.specs.Replay.{lent_at, replayed}
use Rattle.image.proofs.ReplayLaws.{replayed_none, replayed-more, length-said, turn, said_more}
use Rattle.run.proofs.replaying.make.Given as goal

abbrev pub invariant-loop-i : goal.invariant-loop-i
invariant-loop-i l =
    (l.i ≤ l.count)
    × (length l.said ≡ length l.initial.said)
    × (length l.floats ≡ length l.initial.floats)
    × (length l.path ≡ length l.initial.path)
    × (l.held ≡ (replayed l.calls l.i l.initial.held (buffers l.initial.floats l.words l.initial.path)).run)
    × (buffers l.floats l.words l.path ≡ (replayed l.calls l.i l.initial.held (buffers l.initial.floats l.words l.initial.path)).all)
    × (l.said ≡ (replayed l.calls l.i l.initial.held (buffers l.initial.floats l.words l.initial.path)).said ++ drop l.i l.initial.said)

abbrev pub decreases-loop-i : goal.decreases-loop-i
decreases-loop-i l = l.count - l.i
