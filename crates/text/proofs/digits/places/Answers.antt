-- `text::digits::places` meets its contract.
use mathlib.Core.Path.{sym}
use native.Mathlib.Omega.{arith}
use Rattle.text.specs.TextLaws.{places_few, places_log}
use Rattle.text.proofs.digits.places.Goals as goal

pub returns-then-n-eq0 : goal.returns-then-n-eq0
returns-then-n-eq0 c = (sym (places_few c.args.n (omega arith)), omega arith)

pub returns-else-n-eq0 : goal.returns-else-n-eq0
returns-else-n-eq0 c =
    let e = places_log c.ilog10.result c.args.n (omega (arith, c.ilog10.ensures.power_le)) (omega (arith, c.ilog10.ensures.next_power_gt)) (omega arith) in
    (omega (arith, e), omega (arith, c.ilog10.ensures.bound))
