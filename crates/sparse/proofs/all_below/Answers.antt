-- `all_below` meets its contract: the fold over the words is what the definition says of all. Assumes nothing.
use Rattle.std.specs.Prelude.{ℕ, Bool, true, ◌&&◌, ltb}
use Rattle.std.proofs.Common.{rules, ◌∙◌}
use Rattle.std.proofs.lemmas.Iterator.{YieldsList-from_slice}
use Rattle.std.proofs.lemmas.Iterator.Consumers.{fold_from_yields_List}
use Rattle.sparse.proofs.LawsScan.{fold-below}
use Rattle.sparse.proofs.all_below.Goals as goal

pub returns : goal.returns
returns c =
    let args = c.args in
    fold_from_yields_List _ (λ (g : Bool) (w : ℕ). g && ltb w args.n) true _ c.fold.ensures.ran (YieldsList-from_slice args.words.now (search rules)) (λ g w r q h. search rules)
    ∙ fold-below args.n true args.words.now
