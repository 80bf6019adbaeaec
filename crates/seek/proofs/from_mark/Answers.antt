-- `from_mark` meets its contract: kept vectors serve where they are not past the target and their field had no end. Assumes nothing.
use Rattle.std.proofs.Common.{le-leb}
use Rattle.seek.proofs.from_mark.Goals as goal

pub returns-in-Some : goal.returns-in-Some
returns-in-Some c = rw (c.in-Some.is, le-leb c.in-Some.k.place c.args.target c.if-k-target.true, le-leb c.in-Some.k.norms c.args.limit c.if-k-limit.true)
