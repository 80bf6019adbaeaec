-- A pass of solving on vectors in a slice of their own, and what its answer leads to. Definitions only. Assumes nothing.
use Rattle.std.specs.Prelude.{List, ℕ, ◌+◌, leb, Float}
use Rattle.binary64.specs.Number.{pick}
use Rattle.sparse.specs.Stored.{matrix}
use Rattle.mesh.specs.Element.{flat}
use Rattle.conjugate.specs.declared.Pass.{Pass}
use Rattle.conjugate.specs.Placed.{row_of, read}
use Rattle.conjugate.specs.Solver.{Turn, pass}
use Rattle.work.specs.declared.Plan.{Plan}
use Rattle.work.specs.declared.Stand.{Stand}
use Rattle.work.specs.declared.Gives.{Gives}
use Rattle.work.specs.Layout.{matrix_at}
use Rattle.work.specs.Memory.{solved_stand}

-- what it comes to on the vectors v, by the matrix that stands in b
abbrev pub turn_behind : Plan → List ℕ → List Float → List Float → Float → Turn
turn_behind plan words b v rs = pass flat (matrix words b (matrix_at plan.n plan.t)) plan.tolerance (read v (row_of plan.n) plan.n rs)

-- the stand after a pass of solving, by its answer
abbrev pub turned_stand : Plan → Stand → Pass → Stand
turned_stand plan s Pass.Halted = solved_stand s s.rs s.norms 2
turned_stand plan s (Pass.Reached norm) = solved_stand s s.rs (s.norms + 1) 1
turned_stand plan s (Pass.Moved rs norm) = solved_stand s rs (s.norms + 1) (pick (leb plan.limit s.norms) 3 0)

-- and what it gives
abbrev pub given_by : Pass → Gives
given_by Pass.Halted = Gives.Nothing
given_by (Pass.Reached norm) = Gives.Norm norm
given_by (Pass.Moved rs norm) = Gives.Norm norm
