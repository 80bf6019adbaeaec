-- `format::faults::coordinate_fault` meets its contract: its test is `coordinate`.
-- Assumes nothing.
use borrow.Author.Rules.{rules}
use mathlib.Core.Bool.{◌&&◌}
use mathlib.Core.Path.{◌≡◌}
use lib.Ieee.{is_nan, le}
use Rattle.refusal.specs.Refusal.{fault}
use Rattle.binary64.specs.Number.{pick}
use Rattle.format.specs.Content.{least_coordinate, greatest_coordinate}
use Rattle.format.specs.Refusal.{coordinate}
use Rattle.format.proofs.faults.coordinate_fault.Goals as goal

pub returns : goal.returns
unfolding coordinate
returns c =
    let x = c.args.x in
    let e : fault c.real_fault.result ≡ pick (is_nan x) 6 (pick (le least_coordinate x && le x greatest_coordinate) 0 7) = search rules in
    e
