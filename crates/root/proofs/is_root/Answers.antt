-- `root::is_root` meets its contract: the pattern is that of the exponent's half and of q + 1, which is nearest where the tests say yes (`next_is`). Assumes nothing.
use Rattle.std.proofs.Common.{◌≡◌, ℕ, ◌+◌, ◌-◌, ◌*◌, ◌/◌, ◌%◌, ◌^◌, ◌<◌, ◌≤◌, true, ◌&&◌, ltb, leb, sym, ◌∙◌, arith, ltb-true, leb-true}
use mathlib.Core.Bool.{and-eq-true_iff}
use Rattle.binary64.proofs.RootGuess.{next_is}
use Rattle.binary64.proofs.RootLaws.{pattern_is}
use Rattle.root.proofs.is_root.Goals as goal

-- what the two tests tell
told : (q rest most : ℕ) → (ltb q rest && leb rest most) ≡ true → (q < rest) × (rest ≤ most)
told q rest most e = let both = (and-eq-true_iff (ltb q rest) (leb rest most)).0 e in (ltb-true q rest both.0, leb-true rest most both.1)

pub returns : goal.returns
returns c = λ e.
    let operand = c.of-operand.result in
    let q : ℕ = (c.args.pattern + (2 ^ 64 - ((c.args.g / 2 - 1) * 2 ^ 52 + 1))) % 2 ^ 64 in
    let rest = c.in-Some.rest in
    let t = told q rest _ e in
    let p : c.args.pattern ≡ (c.args.g / 2 - 1) * 2 ^ 52 + (q + 1) = omega arith in
    sym (p ∙ pattern_is c.args.g c.args.m operand.digits (q + 1) c.of-operand.ensures (next_is operand.digits q rest operand.below c.in-Some.ensures (omega arith) (omega arith)))
