-- `Kind::of` meets its contract: each test that fails is a field of what the kind tells. Assumes nothing. It stands so that a refusal names the fact.
use Rattle.kinds.proofs.Kind.of.Goals as goal

pub returns : goal.returns
returns c = record { unended = c.is_over.ensures.no c.if-is_over.false; solved = c.is_solved.ensures.yes c.if-not-is_solved.false; some = c.if-stand-eq0.false }
