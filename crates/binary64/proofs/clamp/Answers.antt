-- `binary64::clamp` meets its contract: std's picks by the same comparisons. Assumes nothing.
use Rattle.std.proofs.Common.{◌≡◌, Bool, true, false, cond, refl, ◌∙◌}
use Rattle.std.specs.Prelude.{Float}
use Rattle.std.specs.Float.{float_clamp}
use Rattle.binary64.specs.Constants.{plus_zero, one}
use Rattle.binary64.specs.Number.{pick, clamp_of}
use Rattle.binary64.proofs.clamp.Goals as goal

picks : {A : Type 0} (t : Bool) (a b : A) → cond t a b ≡ pick t a b
picks true a b = refl
picks false a b = refl

picked : (x : Float) → float_clamp x plus_zero one ≡ clamp_of x
unfolding clamp_of
picked x = simp picks

pub returns : goal.returns
returns c = c.clamp.ensures.value ∙ picked c.args.x
