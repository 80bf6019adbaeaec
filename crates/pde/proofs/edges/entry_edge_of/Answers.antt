-- `edges::entry_edge_of` meets its contract: what `find` finds is the first edge whose neighbour is the one before. Assumes nothing.
use Rattle.std.proofs.Common.{rules, tests, arith, eqb}
use Rattle.std.proofs.lemmas.Iterator.{YieldsList-from_range}
use Rattle.mesh.specs.Mesh.{neighbour}
use Rattle.pde.specs.Exit.{names_back, entry_edge}
use Rattle.pde.specs.SearchLaws.{searched}
use Rattle.pde.proofs.edges.entry_edge_of.Goals as goal

pub returns : goal.returns
unfolding entry_edge names_back
returns c =
    let a = c.args in
    searched _ (λ e. eqb (neighbour a.neighbours.now a.t e) a.prev) 3 _ c.find.ensures.ran (YieldsList-from_range 0 3 3 (cc) (omega arith)) (λ x b q k. search (rules, tests))
    (λ e. record { triangle = a.t; edge = e }) (search rules)
