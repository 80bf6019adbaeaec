-- What a pass and place 0 do to the vectors, each a list of its own. Definitions only. Assumes nothing.
use Rattle.std.specs.Prelude.{◌≡◌, ℕ, length, Float}
use mathlib.Core.List.{List, zip_with}
use Rattle.std.specs.Float.{binary64}
use Rattle.std.specs.Float.Ieee.{sub, lt}
use Rattle.binary64.specs.Number.{pick}
use Rattle.binary64.specs.Root.{root}
use Rattle.stretch.specs.Vec.{dot, plus, less}
use Rattle.sparse.specs.Sparse.{Entry}
use Rattle.conjugate.specs.declared.Pass.{Pass}
use Rattle.conjugate.specs.declared.Pass.TheVariants.{Halted, Reached, Moved}
use Rattle.conjugate.specs.Solver.{Solve, Turn, halted, reached, moved, pass}

abbrev pub solve : List Float → List Float → List Float → Float → Solve
solve x r p rs = record { x = x; r = r; p = p; rs = rs }

-- three vectors of n
pub record AsLong (n : ℕ) (u v w : List Float) : Type 0 where
  pub u_long : length u ≡ n
  pub v_long : length v ≡ n
  pub w_long : length w ≡ n

-- the vectors after a pass from s
abbrev pub after : Solve → Turn → Solve
after s halted = s
after s (reached x r norm) = record { x = x; r = r; p = s.p; rs = s.rs }
after s (moved t norm) = t

unfoldable pub answer_of : Turn → Pass
answer_of halted = Halted
answer_of (reached x r norm) = Reached norm
answer_of (moved t norm) = Moved t.rs norm

-- ---- what the functions ensure

-- what a pass from s that comes to t leaves, and its answer
pub record Leaves (s : Solve) (t : Turn) (x r p : List Float) (answer : Pass) : Type 0 where
  pub said : answer ≡ answer_of t
  pub x_is : x ≡ (after s t).x
  pub r_is : r ≡ (after s t).r
  pub p_is : p ≡ (after s t).p

abbrev pub Passes : List (List Entry) → Float → Float → Solve → List Float → List Float → List Float → Pass → Type 0
Passes a tiny tolerance s x r p answer = Leaves s (pass tiny a tolerance s) x r p answer

-- the vectors of t, and its r·r
pub record Begins (t : Solve) (x r p : List Float) (sum : Float) : Type 0 where
  pub said : sum ≡ t.rs
  pub x_is : x ≡ t.x
  pub r_is : r ≡ t.r
  pub p_is : p ≡ t.p

-- ---- what the loops ensure

-- x' and r' are x and r moved by alpha along p and q; the new r·r
pub record Stepped (x r p q : List Float) (alpha : Float) (x' r' : List Float) (sum : Float) : Type 0 where
  pub x_is : x' ≡ zip_with (plus alpha) x p
  pub r_is : r' ≡ zip_with (less alpha) r q
  pub sum_is : sum ≡ dot (zip_with (less alpha) r q) (zip_with (less alpha) r q)

-- r and p are b less q; r·r
pub record Resides (b q r p : List Float) (sum : Float) : Type 0 where
  pub r_is : r ≡ zip_with (sub binary64) b q
  pub p_is : p ≡ zip_with (sub binary64) b q
  pub sum_is : sum ≡ dot (zip_with (sub binary64) b q) (zip_with (sub binary64) b q)

-- ---- what the end of a pass ensures

-- r·r is rs: its root answers, and p is moved by beta unless that is below the tolerance
pub record Settled (r p : List Float) (rs beta tolerance : Float) (p' : List Float) (answer : Pass) : Type 0 where
  pub said : answer ≡ pick (lt (root rs) tolerance) (Reached (root rs)) (Moved rs (root rs))
  pub p_is : p' ≡ pick (lt (root rs) tolerance) p (zip_with (plus beta) r p)
