-- `put_mark` meets its contract: a mark's numbers go to their places. Assumes nothing.
use Rattle.records.proofs.putting.put_mark.Goals as goal

pub returns-in-Some : goal.returns-in-Some
returns-in-Some c = rw (c.put-in-Some-4.ensures, c.put-in-Some-3.ensures, c.put-in-Some-2.ensures, c.put-in-Some.ensures, c.in-Some.is)
