-- `Operand::digit_root` meets its contract. The invariant is `Partial`: the root so far is that of the digits brought down, and the remainder what its square leaves of them.
-- A turn is `partial_one` or `partial_zero`, by the test, and after 54 turns no digit is left. Assumes nothing.
use Rattle.std.proofs.Common.{◌≡◌, ◌^◌, ◌<◌, refl, arith}
use Rattle.binary64.proofs.WholeRoot.{partial_small, partial_zero, partial_one, partial_done}
use Rattle.root.proofs.Operand.digit_root.Goals as goal
use Rattle.root.proofs.Operand.digit_root.Goals.{In-loop, then-trial-remainder, else-trial-remainder}

-- the root before a turn has at most 53 digits
small : (c : In-loop) → c.loop.root < 2 ^ 53
small c = let l = c.loop.invariant in partial_small l.1 c.loop-test.true

pub overflow_mul-remainder : goal.overflow_mul-remainder
overflow_mul-remainder c = let s = small c in omega arith

pub overflow_add-remainder : goal.overflow_add-remainder
overflow_add-remainder c = let s = small c in omega arith

pub overflow_mul-trial : goal.overflow_mul-trial
overflow_mul-trial c = let s = small c in omega arith

pub overflow_add-trial : goal.overflow_add-trial
overflow_add-trial c = let s = small c in omega arith

pub loop-preserved : goal.loop-preserved
loop-preserved c =
    let l = c.loop in (
      omega arith,
      elim c.if-trial-remainder.branch [
        | then-trial-remainder w ↦ partial_one _ _ _ _ _ l.invariant.1 _ _ _ refl (omega arith) (omega arith)
        | else-trial-remainder w ↦ partial_zero _ _ _ _ _ l.invariant.1 _ _ _ refl (omega arith) (omega arith) (omega arith)
      ],
    )

pub returns : goal.returns
returns c = let e : c.loop.counter ≡ 54 = omega arith in partial_done c.args.self.below (rw e at c.loop.invariant.1)
