-- `edges::find_cut_edge_match` meets its contract: what `find_map` finds is the first answer of another triangle. Assumes nothing.
use Rattle.std.proofs.Common.{ℕ, Option, rules, tests, arith}
use Rattle.std.proofs.lemmas.Iterator.{YieldsList-from_range}
use Rattle.mesh.specs.Mesh.{triangle_count}
use Rattle.pde.specs.declared.Side.{Side}
use Rattle.pde.specs.Exit.{cut_triangle, cut_match}
use Rattle.pde.specs.SearchLaws.{mapped_first}
use Rattle.pde.proofs.edges.find_cut_edge_match.Goals as goal

pub returns : goal.returns
unfolding cut_match
returns c =
    let n = triangle_count c.args.triangles.now in
    let h : ℕ → Option Side = cut_triangle c.args.triangles.now c.args.neighbours.now c.args.here c.corner-a.result c.corner-b.result in
    rw (← c.onward.ensures, ← c.corner-b.ensures.is, ← c.corner-a.ensures.is)
    (mapped_first _ h n _ c.find_map.ensures.runs (YieldsList-from_range 0 n n (cc) (omega arith)) (λ x o q k. search (rules, tests)))
