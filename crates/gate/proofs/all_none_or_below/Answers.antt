-- `gate::all_none_or_below` meets its contract: the fold over the words is what the definition says of all. Assumes nothing.
use Rattle.std.specs.Prelude.{ℕ, Bool, true, ◌&&◌, ◌||◌, eqb, ltb}
use Rattle.std.proofs.Common.{rules, ◌∙◌}
use Rattle.std.proofs.lemmas.Iterator.{YieldsList-from_slice}
use Rattle.std.proofs.lemmas.Iterator.Consumers.{fold_from_yields_List}
use Rattle.mesh.specs.Mesh.{no_neighbour}
use Rattle.gate.proofs.Laws.{fold-none_or_below}
use Rattle.gate.proofs.all_none_or_below.Goals as goal

pub returns : goal.returns
returns c =
    let args = c.args in
    fold_from_yields_List _ (λ (g : Bool) (w : ℕ). g && (eqb w no_neighbour || ltb w args.t)) true _ c.fold.ensures.ran (YieldsList-from_slice args.words.now (search rules)) (λ g w r q h. search rules)
    ∙ fold-none_or_below args.t true args.words.now
