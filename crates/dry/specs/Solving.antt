-- Passes of solving on copies of x, r and p, with the matrix as it stands in the lent buffers. Definitions only. Assumes nothing.
use Rattle.std.specs.Prelude.{◌≡◌, List, ℕ, ◌+◌, ◌*◌, ◌≤◌, ◌<◌, length, Float}
use Rattle.stretch.specs.Stretch.{part}
use Rattle.sparse.specs.Sparse.{Entry}
use Rattle.sparse.specs.Stored.{matrix}
use Rattle.mesh.specs.Element.{flat}
use Rattle.conjugate.specs.Solver.{Turn, pass}
use Rattle.conjugate.specs.Placed.{answer_of}
use Rattle.conjugate.specs.Beside.{vectors_of, left_by}
use Rattle.work.specs.declared.Plan.{Plan}
use Rattle.work.specs.declared.Stand.{Stand}
use Rattle.work.specs.Layout.{at_x, at_r, at_p, at_gradients, at_norms, matrix_at}
use Rattle.work.specs.Memory.{dry}
use Rattle.work.specs.Dry.{dry_at}
use Rattle.work.specs.Ready.{Standing}
use Rattle.kinds.specs.Solving.{turned_stand}

-- ---- one pass

-- what it comes to on the vectors v, with the matrix mat
abbrev pub turn_on : Plan → List (List Entry) → List Float → Stand → Turn
turn_on plan mat v s = pass flat mat plan.tolerance (vectors_of v plan.n s.rs)

-- it can be made, with a matrix of m rows and k places for the copies
pub record Solvable (plan : Plan) (m k : ℕ) (s : Stand) : Type 0 where
  pub many : m ≡ plan.n
  pub long : k ≡ 3 * plan.n
  pub near : s.place < 1000000
  pub norms_few : s.norms ≤ 100000

-- it leads from s to r, and from the vectors v to l
pub record Turns (plan : Plan) (mat : List (List Entry)) (v : List Float) (s r : Stand) (l : List Float) : Type 0 where
  pub stand : r ≡ turned_stand plan s (answer_of (turn_on plan mat v s))
  pub vectors : l ≡ left_by plan.n v (turn_on plan mat v s)

-- ---- passes in a row

-- a front f whose x, r and p stand in v, and whose other lists that passes read stand in the floats
pub record Copied (plan : Plan) (words : List ℕ) (f floats v : List Float) : Type 0 where
  pub matrix-same : matrix words f (matrix_at plan.n plan.t) ≡ matrix words floats (matrix_at plan.n plan.t)
  pub vertices_same : part f 0 (2 * plan.n) ≡ part floats 0 (2 * plan.n)
  pub x_same : part f (at_x plan.n plan.t) plan.n ≡ part v 0 plan.n
  pub r_same : part f (at_r plan.n plan.t) plan.n ≡ part v plan.n plan.n
  pub p_same : part f (at_p plan.n plan.t) plan.n ≡ part v (2 * plan.n) plan.n
  pub gradients-same : part f (at_gradients plan.n plan.t) (2 * plan.t) ≡ part floats (at_gradients plan.n plan.t) (2 * plan.t)
  pub long : length f ≡ at_norms plan.n plan.t

-- i dry passes from s, all of them solving, come to r and to a front that v copies
pub record Solved (plan : Plan) (words : List ℕ) (floats : List Float) (s : Stand) (i : ℕ) (r : Stand) (v : List Float) : Type 0 where
  pub place : r.place ≡ s.place + i
  pub stand : r ≡ (dry plan words i (dry_at plan floats s)).stand
  pub copied : Copied plan words (dry plan words i (dry_at plan floats s)).front floats v
  pub standing : Standing plan r
  pub unended : r.walk.end ≡ 0
