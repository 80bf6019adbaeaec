-- `dot` meets its contract: the fold over the pairs is the dot product. Assumes nothing.
use Rattle.std.proofs.Common.{rules, ◌∙◌}
use Rattle.std.specs.Prelude.{Float}
use Rattle.std.proofs.lemmas.Iterator.{YieldsList-from_slice, YieldsList-from_zip}
use Rattle.std.proofs.lemmas.Iterator.Consumers.{fold_from_yields_List}
use Rattle.binary64.specs.Arith.{◌⊕◌, ◌⊗◌}
use Rattle.binary64.specs.Constants.{plus_zero}
use Rattle.stretch.proofs.VecLaws.{fold-zip}
use Rattle.stretch.proofs.dot.Goals as goal

pub returns : goal.returns
returns c =
    let args = c.args in
    fold_from_yields_List _ (λ (z : Float) (p : Float × Float). z ⊕ p.0 ⊗ p.1) plus_zero _ c.fold.ensures.ran
    (YieldsList-from_zip (YieldsList-from_slice args.a.now (search rules)) (YieldsList-from_slice args.b.now (search rules)))
    (λ z p r q h. search rules)
    ∙ fold-zip args.a.now args.b.now
