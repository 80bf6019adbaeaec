-- `advancing::over` meets its contract: the library's sum is none where it is beyond the most. Assumes nothing.
use Rattle.std.specs.Prelude.{ℕ, ◌+◌, ◌<◌, ◌^◌, ◌≡◌, ltb, Option, Some, None, SomeIff, is_some, Bool, true, false, not}
use Rattle.std.proofs.Common.{arith, sym, ap}
use borrow.Author.Tests.{le-ltb, lt-ltb}
use Rattle.binary64.specs.Number.{pick}
use Rattle.model.specs.Machine.{most}
use Rattle.advancing.proofs.over.Goals as goal

distinct : false ≡ true → ⊥
distinct e = let z : 0 ≡ 1 = ap (λ (t : Bool). pick {A = ℕ} t 1 0) e in omega (arith, z)

none_over : (r : Option ℕ) (sum : ℕ) (t : Bool) → is_some r ≡ not t → SomeIff r (sum < 2 ^ 64) sum → t ≡ ltb most sum
none_over None sum true e h = sym (lt-ltb most sum (omega (arith, h)))
none_over None sum false e h = absurd (distinct e)
none_over (Some x) sum true e h = absurd (distinct (sym e))
none_over (Some x) sum false e h = sym (le-ltb most sum (omega (arith, h.0)))

pub returns : goal.returns
returns c =
    none_over _ _ _ c.is_none.ensures c.checked_add.ensures
