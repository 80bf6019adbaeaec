-- The vectors of a pass in the lent buffer: where they may lie, how they are read, and what a pass and place 0 leave there.
-- Between passes the product's stretch holds +0. Definitions only. Assumes nothing.
use Rattle.std.specs.Prelude.{◌≡◌, ◌⊎◌, ℕ, ◌+◌, ◌*◌, ◌≤◌, replicate, Float}
use mathlib.Core.List.{List}
use Rattle.binary64.specs.Constants.{plus_zero}
use Rattle.stretch.specs.Stretch.{part, splice}
use Rattle.sparse.specs.Stored.{CsrAt, Sound, matrix}
use Rattle.conjugate.specs.declared.Pass.{Pass}
use Rattle.conjugate.specs.Solver.{Solve, Turn, halted, reached, moved, pass, begun}
unfoldable pub use Rattle.conjugate.specs.Passes.{answer_of}

-- where the vectors of a pass start
pub record VectorsAt : Type 0 where
  pub x : ℕ
  pub r : ℕ
  pub p : ℕ
  pub product : ℕ

-- ---- where they lie

-- the vectors of n, one after the other in a buffer of l
pub record InRow (l : ℕ) (at : VectorsAt) (n : ℕ) : Type 0 where
  pub r_after : at.x + n ≤ at.r
  pub p_after : at.r + n ≤ at.p
  pub product_after : at.p + n ≤ at.product
  pub ends : at.product + n ≤ l

-- the stretch of k from b lies before the vectors, or after them
abbrev pub Outside : VectorsAt → ℕ → ℕ → ℕ → Type 0
Outside at n b k = (b + k ≤ at.x) ⊎ (at.product + n ≤ b)

-- a sound matrix and the vectors of a pass in a buffer of l, with the matrix's values outside them
pub record Laid (words : List ℕ) (l : ℕ) (m : CsrAt) (at : VectorsAt) : Type 0 where
  pub sound : Sound words m
  pub in_row : InRow l at m.rows
  pub values_fit : m.vals + m.count ≤ l
  pub values_outside : Outside at m.rows m.vals m.count

-- the vectors, and the right side from b outside them
pub record Reads (l : ℕ) (at : VectorsAt) (b n : ℕ) : Type 0 where
  pub in_row : InRow l at n
  pub right_fits : b + n ≤ l
  pub right_outside : Outside at n b n

-- all that place 0 needs
pub record Starts (words : List ℕ) (l : ℕ) (m : CsrAt) (at : VectorsAt) (b : ℕ) : Type 0 where
  pub laid : Laid words l m at
  pub reads : Reads l at b m.rows

-- one after the other in a slice of their own
abbrev pub row_of : ℕ → VectorsAt
row_of n = record { x = 0; r = n; p = 2 * n; product = 3 * n }

-- ---- what stands there

abbrev pub read : List Float → VectorsAt → ℕ → Float → Solve
read s at n rs = record { x = part s at.x n; r = part s at.r n; p = part s at.p n; rs = rs }

-- +0 at the product
abbrev pub cleared : ℕ → List Float → VectorsAt → List Float
cleared n s at = splice s at.product (replicate n plus_zero)

-- the vectors of t
unfoldable pub placed : ℕ → List Float → VectorsAt → Solve → List Float
placed n s at t = cleared n (splice (splice (splice s at.x t.x) at.r t.r) at.p t.p) at

-- What a pass leaves: where it halts, the vectors as they were; where it reaches the tolerance, x and r moved and p as it was.
unfoldable pub stored_after : ℕ → List Float → VectorsAt → Turn → List Float
stored_after n s at halted = cleared n s at
stored_after n s at (reached x r norm) = cleared n (splice (splice s at.x x) at.r r) at
stored_after n s at (moved t norm) = placed n s at t

-- ---- what the functions ensure: s is the buffer before, l after

abbrev pub turn_of : List ℕ → List Float → CsrAt → VectorsAt → Float → Float → Float → Turn
turn_of words s m at tiny tolerance rs = pass tiny (matrix words s m) tolerance (read s at m.rows rs)

pub record Passed (s l : List Float) (n : ℕ) (at : VectorsAt) (t : Turn) (answer : Pass) : Type 0 where
  pub said : answer ≡ answer_of t
  pub left : l ≡ stored_after n s at t

abbrev pub start_of : List ℕ → List Float → CsrAt → ℕ → Solve
start_of words s m b = begun (matrix words s m) (part s b m.rows)

pub record Begun (s l : List Float) (n : ℕ) (at : VectorsAt) (t : Solve) (sum : Float) : Type 0 where
  pub said : sum ≡ t.rs
  pub left : l ≡ placed n s at t
