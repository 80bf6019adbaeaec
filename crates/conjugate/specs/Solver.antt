-- One pass of conjugate gradients (Hestenes and Stiefel 1952, (3:1)) in the order of mesh/laplace.rs, with document 01's ends. Every sum runs left to right from +0.
-- Definitions only. Assumes nothing.
use mathlib.Core.List.{List, zip_with}
use Rattle.std.specs.Prelude.{length, replicate, Float}
use Rattle.std.specs.Float.{binary64}
use Rattle.std.specs.Float.Ieee.{sub, lt}
use Rattle.binary64.specs.Arith.{◌⊘◌}
use Rattle.binary64.specs.Constants.{plus_zero}
use Rattle.binary64.specs.Number.{pick, abs_of}
use Rattle.binary64.specs.Root.{root}
use Rattle.stretch.specs.Vec.{dot, plus, less}
use Rattle.sparse.specs.Sparse.{Entry, mat_vec}

-- the iterate x, its residual r, the direction p, and r·r
pub record Solve : Type 0 where
  pub x : List Float
  pub r : List Float
  pub p : List Float
  pub rs : Float

-- What a pass comes to: nothing changes where p·Ap is tiny; x and r move, and the norm is below the tolerance; or p moves too.
pub data Turn : Type 0 where
  halted : Turn
  reached : List Float → List Float → Float → Turn
  moved : Solve → Float → Turn

-- p·Ap below `tiny` in magnitude halts; x + α p, r − α Ap, and p = r + β p.
unfoldable pub pass : Float → List (List Entry) → Float → Solve → Turn
pass tiny a tolerance s =
    let q = mat_vec a s.p in
    let pap = dot s.p q in
    let alpha = s.rs ⊘ pap in
    let x = zip_with (plus alpha) s.x s.p in
    let r = zip_with (less alpha) s.r q in
    let rs = dot r r in
    let norm = root rs in
    let next : Solve = record { x = x; r = r; p = zip_with (plus (rs ⊘ s.rs)) r s.p; rs = rs } in
    pick (lt (abs_of pap) tiny) halted (pick (lt norm tolerance) (reached x r norm) (moved next norm))

-- Place 0: x is +0 everywhere, r = b − A x as computed, p = r.
unfoldable pub begun : List (List Entry) → List Float → Solve
begun a b =
    let x = replicate (length b) plus_zero in
    let r = zip_with (sub binary64) b (mat_vec a x) in
    record { x = x; r = r; p = r; rs = dot r r }
