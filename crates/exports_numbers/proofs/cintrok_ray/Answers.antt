-- `exports_numbers::cintrok_ray` meets its contract: the point is what `get_ray_line_intersection` ensures, and the stores are inside `out`, whose length the first test gives. Assumes nothing.
use mathlib.Core.Path.{sym, ◌∙◌}
use Rattle.exports_numbers.proofs.Laws.{too_short, put_there}
use borrow.Author.Rules.{rules}
use Rattle.exports_numbers.proofs.cintrok_ray.Goals as goal

pub returns-then-out-lt2 : goal.returns-then-out-lt2
returns-then-out-lt2 c = too_short c.if-out-lt2.true

pub returns-in_default : goal.returns-in_default
returns-in_default c = rw (sym c.get_ray_line_intersection-hit.ensures ∙ c.in_default.is) (put_there c.if-out-lt2.false)

pub returns : goal.returns
returns c = rw (sym c.get_ray_line_intersection-hit.ensures ∙ c.in-Some.is) (put_there c.if-out-lt2.false)
