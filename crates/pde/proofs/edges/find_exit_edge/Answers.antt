-- `edges::find_exit_edge` meets its contract: the fold over the three edges, read by the roots of the squares, is the nearest of them. Assumes nothing.
use Rattle.std.proofs.Common.{ℕ, ◌∙◌, ap, rules, tests, arith}
use Rattle.std.specs.List.{fold, range_with_len}
use Rattle.std.proofs.lemmas.Iterator.{YieldsList-from_range}
use Rattle.pde.specs.Exit.{Nearest, considered, rooted}
use Rattle.pde.proofs.EdgeLaws.{folded, nearest_none, nearest_fold}
use Rattle.pde.proofs.edges.find_exit_edge.Goals as goal

pub returns : goal.returns
returns c =
    let a = c.args in
    let h : Nearest → ℕ → Nearest = λ best e. considered a.least a.mesh.now.vertices.now a.mesh.now.triangles.now a.entry.triangle a.entry.point a.dir a.entry.edge e best in
    folded rooted h _ _ c.fold.ensures.ran (YieldsList-from_range 0 3 3 (cc) (omega arith)) (λ b e b' q k. search (rules, tests))
    ∙ ap (λ (n : Nearest). fold h n (range_with_len 0 3)) (nearest_none _ _ _ _ _ _ _)
    ∙ nearest_fold _ _ _ _ _ _ _
