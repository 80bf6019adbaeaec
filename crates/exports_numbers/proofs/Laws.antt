-- `Answers` by the length of the lent part. Assumes nothing.
use mathlib.Core.List.{List}
use Prim.Native.Nat.{ℕ, ◌≤◌, ◌<◌}
use borrow.Author.Tests.{lt-ltb, le-ltb}
use lib.ListN.{length}
use lib.Ieee.{Float}
use Rattle.exports_numbers.specs.Answers.{Answers}

module _ {n said : ℕ} {put out : List Float} where
  pub too_short : length out < n → Answers n said put out out 2
  too_short h = record { number = rw (lt-ltb (length out) n h); left = rw (lt-ltb (length out) n h) }

  pub put_there : n ≤ length out → Answers n said put out put said
  put_there h = record { number = rw (le-ltb (length out) n h); left = rw (le-ltb (length out) n h) }
