-- `find_triangle_containing` meets its contract: what `find` finds is the first triangle that contains the point. Assumes nothing.
use Rattle.std.proofs.Common.{rules, tests, arith}
use Rattle.std.proofs.lemmas.Iterator.{YieldsList-from_range}
use Rattle.pde.specs.Start.{no_edge, contains, triangle_containing, contained_in}
use Rattle.pde.specs.SearchLaws.{searched}
use Rattle.starts.proofs.find_triangle_containing.Goals as goal

pub returns : goal.returns
unfolding triangle_containing contained_in
returns c =
    let a = c.args in
    let m = a.mesh.now in
    let n = c.triangle_count.result in
    rw (← c.triangle_count.ensures)
    (searched _ (contains m.vertices.now m.triangles.now a.p) n _ c.find.ensures.ran (YieldsList-from_range 0 n n (cc) (omega arith)) (λ x b q k. search (rules, tests))
    (λ t. record { point = a.p; triangle = t; edge = no_edge }) (search rules))
