-- `inner_edge_of` meets its contract: what `find` finds is the first inner edge, and the middle is what the call ensures. Assumes nothing.
use Rattle.std.proofs.Common.{ℕ, ◌∙◌, sym, ap, Option, rules, tests, arith}
use Rattle.std.specs.Option.{option_map}
use Rattle.std.proofs.lemmas.Iterator.{YieldsList-from_range}
use Rattle.pde.specs.declared.Entry.{Entry}
use Rattle.pde.specs.Start.{is_inner, middle, inner_edge, inner_edge_of}
use Rattle.pde.specs.SearchLaws.{searched, searched_below}
use Rattle.starts.proofs.inner_edge_of.Goals as goal

pub of-requires : goal.of-requires
of-requires c =
    let m = c.args.mesh.now in
    searched_below _ (is_inner m.triangles.now m.neighbours.now m.tags.now c.args.t) 3 _ c.find.ensures.ran (YieldsList-from_range 0 3 3 (cc) (omega arith)) (λ x b q k. search (rules, tests)) c.in_ok-edge.was

pub returns : goal.returns
unfolding inner_edge_of inner_edge
returns c =
    let m = c.args.mesh.now in
    let t = c.args.t in
    let give : ℕ → Entry = λ e. record { point = middle m.vertices.now m.triangles.now t e; triangle = t; edge = e } in
    rw (c.middle.ensures, c.of.ensures)
    (searched _ (is_inner m.triangles.now m.neighbours.now m.tags.now t) 3 _ c.find.ensures.ran (YieldsList-from_range 0 3 3 (cc) (omega arith)) (λ x b q k. search (rules, tests))
    give (ap (λ (o : Option ℕ). option_map give o) (sym c.in_ok-edge.was)))

pub returns-in_err-edge : goal.returns-in_err-edge
unfolding inner_edge_of inner_edge
returns-in_err-edge c =
    let m = c.args.mesh.now in
    let t = c.args.t in
    let give : ℕ → Entry = λ e. record { point = middle m.vertices.now m.triangles.now t e; triangle = t; edge = e } in
    searched _ (is_inner m.triangles.now m.neighbours.now m.tags.now t) 3 _ c.find.ensures.ran (YieldsList-from_range 0 3 3 (cc) (omega arith)) (λ x b q k. search (rules, tests))
    give (c.from_residual.ensures ∙ ap (λ (o : Option ℕ). option_map give o) (sym c.in_err-edge.was))
