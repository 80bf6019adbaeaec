-- `sheet::size_of` meets its contract: a count of 4 bytes for each section, and its items.
-- Assumes nothing.
use native.Mathlib.Omega.{arith}
use Rattle.format.specs.SheetLaws.{length-bytes_of}
use Rattle.sheet.specs.Write.{lent}
use Rattle.sheet.proofs.size_of.Goals as goal

pub returns : goal.returns
returns c = omega (arith, length-bytes_of (lent c.args.content.now), c.present_count.ensures)
