-- `first_with` meets its contract: what `find` finds is the first triangle that has the vertex, and the centroid is what the call ensures. Assumes nothing.
use Rattle.std.proofs.Common.{ℕ, ◌∙◌, sym, ap, Option, rules, tests, arith}
use Rattle.std.specs.Option.{option_map}
use Rattle.std.proofs.lemmas.Iterator.{YieldsList-from_range}
use Rattle.pde.specs.declared.Entry.{Entry}
use Rattle.pde.specs.Start.{no_edge, has, centroid, centroid_with, first_with}
use Rattle.pde.specs.SearchLaws.{searched, searched_below}
use Rattle.starts.proofs.first_with.Goals as goal

pub centroid-requires : goal.centroid-requires
centroid-requires c =
    let n = c.triangle_count.result in
    rw (← c.triangle_count.ensures)
    (searched_below _ (has c.args.mesh.now.triangles.now c.args.v) n _ c.find.ensures.ran (YieldsList-from_range 0 n n (cc) (omega arith)) (λ x b q k. search (rules, tests)) c.in_ok-triangle.was)

pub returns : goal.returns
unfolding first_with centroid_with
returns c =
    let m = c.args.mesh.now in
    let n = c.triangle_count.result in
    let give : ℕ → Entry = λ t. record { point = centroid m.vertices.now m.triangles.now t; triangle = t; edge = no_edge } in
    rw (← c.triangle_count.ensures, c.centroid.ensures)
    (searched _ (has m.triangles.now c.args.v) n _ c.find.ensures.ran (YieldsList-from_range 0 n n (cc) (omega arith)) (λ x b q k. search (rules, tests))
    give (ap (λ (o : Option ℕ). option_map give o) (sym c.in_ok-triangle.was)))

pub returns-in_err-triangle : goal.returns-in_err-triangle
unfolding first_with centroid_with
returns-in_err-triangle c =
    let m = c.args.mesh.now in
    let n = c.triangle_count.result in
    let give : ℕ → Entry = λ t. record { point = centroid m.vertices.now m.triangles.now t; triangle = t; edge = no_edge } in
    rw (← c.triangle_count.ensures)
    (searched _ (has m.triangles.now c.args.v) n _ c.find.ensures.ran (YieldsList-from_range 0 n n (cc) (omega arith)) (λ x b q k. search (rules, tests))
    give (c.from_residual.ensures ∙ ap (λ (o : Option ℕ). option_map give o) (sym c.in_err-triangle.was)))
