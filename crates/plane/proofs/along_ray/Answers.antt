-- `plane::along_ray` meets its contract: `along_ray` picks by the same comparison of t, and `on_segment` ensures the rest of it. Assumes nothing. It stands so that a refusal names the fact.
use Rattle.plane.proofs.along_ray.Goals as goal

pub returns-then-t : goal.returns-then-t
returns-then-t c = rw c.if-t.true

pub returns : goal.returns
returns c = rw c.if-t.false c.on_segment.ensures
