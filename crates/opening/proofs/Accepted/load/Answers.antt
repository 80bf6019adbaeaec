-- `Accepted::load` meets its contract: the places of an accepted sheet's header lie within it, and the items read there are the content's lists. Assumes nothing.
use borrow.Author.Rules.{rules}
use native.Mathlib.Omega.{arith}
use Rattle.binary64.specs.Constants.{plus_zero}
use Rattle.opening.proofs.LawsOpen.{loaded_parts}
use Rattle.opening.proofs.LawsPlace.{read_of}
use Rattle.opening.proofs.Accepted.load.Goals as goal

pub returns : goal.returns
returns c =
    let of = read_of c.args.self.now.is c.args.self.now.below in
    loaded_parts _ _ of _ _ _ _ _ _ (omega (arith, c.requires.floats_fit)) (omega (arith, c.requires.words_fit))
    c.put_items.ensures.long c.put_items-2.ensures.long c.put_items-3.ensures.long c.put_items-4.ensures.long
    (λ i k. let e = c.put_items.ensures.given plus_zero i k in search rules)
    (λ i k. let e = c.put_items-2.ensures.given 0 i k in search rules)
    (λ i k. let e = c.put_items-3.ensures.given 0 i k in search rules)
    (λ i k. let e = c.put_items-4.ensures.given 0 i k in search rules)
