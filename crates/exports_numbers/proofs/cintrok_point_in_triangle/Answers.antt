-- `exports_numbers::cintrok_point_in_triangle` meets its contract: the number is the flag of what `point_in_triangle` ensures. It stands so that a refusal names the fact. Assumes nothing.
use Rattle.std.specs.Int.{from_bool}
use Rattle.std.proofs.Common.{◌≡◌, ◌∙◌, refl, Bool, true, false}
use Rattle.exports_numbers.specs.Answers.{flag}
use Rattle.exports_numbers.proofs.cintrok_point_in_triangle.Goals as goal

flag_is : (b : Bool) → from_bool b ≡ flag b
flag_is true = refl
flag_is false = refl

pub returns : goal.returns
returns c = rw (← c.point_in_triangle.ensures) (c.from.ensures ∙ flag_is c.point_in_triangle.result)
