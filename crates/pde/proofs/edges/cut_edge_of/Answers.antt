-- `edges::cut_edge_of` meets its contract: what `find` finds is the first cut edge from b to a. Assumes nothing.
use Rattle.std.proofs.Common.{rules, tests, arith}
use Rattle.std.proofs.lemmas.Iterator.{YieldsList-from_range}
use Rattle.pde.specs.Exit.{is_cut, cut_edge, cut_edge_of}
use Rattle.pde.specs.SearchLaws.{searched}
use Rattle.pde.proofs.edges.cut_edge_of.Goals as goal

pub returns : goal.returns
unfolding cut_edge_of cut_edge
returns c =
    let a = c.args in
    searched _ (is_cut a.triangles.now a.neighbours.now a.a a.b a.t) 3 _ c.find.ensures.ran (YieldsList-from_range 0 3 3 (cc) (omega arith)) (λ x b q k. search (rules, tests))
    (λ e. record { triangle = a.t; edge = e }) (search rules)
