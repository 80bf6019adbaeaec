-- `Operand::nearest_root` meets its contract: what the guess leaves of the operand tells how far the nearest root is (`nearest_is`), and where it does not the digits do. Assumes nothing.
use Rattle.std.proofs.Common.{◌≡◌, ℕ, ◌+◌, ◌*◌, Bool, true, false, ltb, refl, ap, ◌∙◌, arith}
use Rattle.std.specs.Int.{from_bool}
use Rattle.binary64.specs.Number.{pick}
use Rattle.binary64.proofs.RootGuess.{nearest_is}
use Rattle.root.proofs.Operand.nearest_root.Goals as goal

-- a test as a number
as_picked : (t : Bool) → from_bool t ≡ pick t 1 0
as_picked true = refl
as_picked false = refl

pub returns : goal.returns
returns c =
    let operand = c.args.self.digits in
    let q = c.args.q in
    let rest = c.in-Some.rest in
    ap (λ (r : ℕ). q + 1 + r + c.from-2.result) (c.from.ensures ∙ as_picked (ltb (3 * q + 2) rest))
    ∙ ap (λ (r : ℕ). q + 1 + pick (ltb (3 * q + 2) rest) 1 0 + r) (c.from-2.ensures ∙ as_picked (ltb (5 * q + 6) rest))
    ∙ nearest_is operand q rest c.args.self.below c.in-Some.ensures (omega arith) (omega arith)
