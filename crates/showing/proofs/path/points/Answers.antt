-- `showing::path::points` meets its contract: half the buffer's length is at least the count where twice the count is within it. Assumes nothing.
use Prim.Native.Nat.{◌*◌, ◌≤◌, ◌<◌}
use mathlib.Core.Path.{sym}
use native.Mathlib.Omega.{arith}
use borrow.Author.Tests.{lt-leb, le-leb}
use lib.ListN.{length}
use lib.Seq.{length-take-le}
use Rattle.image.specs.Points.{points_of}
use Rattle.showing.proofs.path.points.Goals as goal

pub returns-then-path-count : goal.returns-then-path-count
unfolding points_of
returns-then-path-count c =
    let a = c.args in
    let h : length a.path.now < 2 * a.run.stand.walk.points = omega arith in
    rw (lt-leb (2 * a.run.stand.walk.points) (length a.path.now) h)

pub slice_bounds-result-end-2 : goal.slice_bounds-result-end-2
slice_bounds-result-end-2 c =
    sym (length-take-le _ _ (omega arith))

pub returns : goal.returns
unfolding points_of
returns c =
    let a = c.args in
    let h : 2 * a.run.stand.walk.points ≤ length a.path.now = omega arith in
    rw (le-leb (2 * a.run.stand.walk.points) (length a.path.now) h)
