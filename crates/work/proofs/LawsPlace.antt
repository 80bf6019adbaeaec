-- The scalars of a place with no path, and the record of place 0. Assumes nothing.
use Rattle.std.specs.Prelude.{None}
use mathlib.Core.Path.{◌≡◌, ap, ◌∙◌}
use Prim.Native.Nat.{ℕ, zero, suc}
use lib.Dec.{leb}
use Rattle.std.proofs.Math.Dec.{leb-suc-zero, eqb-suc-zero}
use lib.Ieee.{Float}
use Rattle.binary64.specs.Number.{pick}
use Rattle.pde.specs.declared.Walk.{Walk}
use Rattle.pde.specs.Path.{ended}
use Rattle.model.specs.Run.{nowhere}
use Rattle.work.specs.declared.Plan.{Plan}
use Rattle.work.specs.declared.Stand.{Stand}
use Rattle.work.specs.Memory.{pathless}
use Rattle.work.specs.Record.{first_end, new_run}

pub stood_nowhere : (place : ℕ) (rs : Float) (norms e : ℕ) (w : Walk) → w ≡ ended nowhere 0
    → record { place = place; rs = rs; norms = norms; end = e; walk = w; crossings = 0 } ≡ pathless place rs norms e
stood_nowhere place rs norms e w h = ap (λ (v : Walk). record { place = place; rs = rs; norms = norms; end = e; walk = v; crossings = 0 }) h

pub new_is : (plan : Plan) (rs : Float) (e : ℕ) (s : Stand) → e ≡ first_end plan.limit → s ≡ pathless 0 rs 1 e → record { plan = plan; stand = s; mark = None; passes = 0 } ≡ new_run plan rs
unfolding new_run
new_is plan rs e s ee es = ap (λ (x : Stand). record { plan = plan; stand = x; mark = None; passes = 0 }) (es ∙ ap (λ (a : ℕ). pathless 0 rs 1 a) ee)

-- a limit is used up before any pass where it is 0
pub first_end_is : (limit : ℕ) {e : ℕ} → e ≡ pick (leb limit 0) 3 0 → e ≡ first_end limit
first_end_is zero h = h
first_end_is (suc limit) h = h ∙ rw (leb-suc-zero limit, eqb-suc-zero limit)
