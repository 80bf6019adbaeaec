-- `showing::parts::within` meets its contract. Assumes nothing.
use native.Mathlib.Omega.{arith}
use Rattle.showing.proofs.LawsParts.{within_none, within_all}
use Rattle.showing.proofs.parts.within.Goals as goal

pub returns-in_default : goal.returns-in_default
returns-in_default c = within_none _ _ _ (omega (arith, c.in_default.ensures.lookup))

pub returns-in_default-get : goal.returns-in_default-get
returns-in_default-get c = within_none _ _ _ (omega (arith, c.in-Some.ensures.lookup, c.in_default-get.ensures.lookup))

pub returns : goal.returns
returns c =
    let rest = c.in-Some.ensures.lookup.0 in
    let shown = c.in-Some-get.ensures.lookup.0 in
    within_all _ _ _ _ _ rest.2 rest.3 shown.1 shown.2
