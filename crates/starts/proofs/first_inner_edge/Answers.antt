-- `first_inner_edge` meets its contract: what `find_map` finds is the first inner edge of a triangle. Assumes nothing.
use Rattle.std.proofs.Common.{ℕ, Option, rules, tests, arith}
use Rattle.std.proofs.lemmas.Iterator.{YieldsList-from_range}
use Rattle.pde.specs.declared.Entry.{Entry}
use Rattle.pde.specs.SearchLaws.{mapped_first}
use Rattle.pde.specs.Start.{inner_edge_of, first_inner}
use Rattle.starts.proofs.first_inner_edge.Goals as goal

pub returns : goal.returns
unfolding first_inner
returns c =
    let m = c.args.mesh.now in
    let n = c.triangle_count.result in
    let h : ℕ → Option Entry = inner_edge_of m.vertices.now m.triangles.now m.neighbours.now m.tags.now in
    rw (← c.triangle_count.ensures) (mapped_first _ h n _ c.find_map.ensures.runs (YieldsList-from_range 0 n n (cc) (omega arith)) (λ x o q k. search (rules, tests)))
