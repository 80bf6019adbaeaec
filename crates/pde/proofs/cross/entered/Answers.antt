-- `cross::entered` meets its contract: `entered` and `unentered` pick by the same test of the neighbour, and the sides are what the searches ensure, so they point into the mesh. Assumes nothing.
use Rattle.std.proofs.Common.{arith}
use Rattle.std.proofs.lemmas.Bool.{eqb-false}
use Rattle.mesh.specs.WorkLaws.{none_over, some_over, over_below}
use Rattle.pde.specs.Crossing.{entered, unentered}
use Rattle.pde.specs.Bounds.{cut_in, entry_in, ok_in}
use Rattle.pde.proofs.cross.entered.Goals as goal

pub entry_edge_of-requires : goal.entry_edge_of-requires
entry_edge_of-requires c =
    let over = some_over _ c.in-Some.ensures in
    let w = c.args.mesh.now.whole in
    let b = over_below w _ _ c.requires c.args.e.below (eqb-false _ _ over.0) in
    rw over.1 (omega (arith, b, w.neighbours_long, w.triangles_whole))

pub returns-in-None-clause-is : goal.returns-in-None-clause-is
unfolding entered unentered
returns-in-None-clause-is c = rw (none_over _ c.in-None.ensures, ← c.find_cut_edge_match.ensures) c.ok_or.ensures.value

pub returns-in-None-clause-inside : goal.returns-in-None-clause-inside
returns-in-None-clause-inside c = rw (c.ok_or.ensures.value, c.find_cut_edge_match.ensures) (ok_in _ _ _ (cut_in _ _ _ _ _))

pub returns-in-Some-clause-is : goal.returns-in-Some-clause-is
unfolding entered unentered
returns-in-Some-clause-is c = let over = some_over _ c.in-Some.ensures in rw (over.0, ← over.1, ← c.entry_edge_of.ensures) c.ok_or-in-Some.ensures.value

pub returns-in-Some-clause-inside : goal.returns-in-Some-clause-inside
returns-in-Some-clause-inside c =
    let over = some_over _ c.in-Some.ensures in
    rw (c.ok_or-in-Some.ensures.value, c.entry_edge_of.ensures) (ok_in _ _ _ (entry_in _ _ _ _ (rw over.1 (over_below c.args.mesh.now.whole _ _ c.requires c.args.e.below (eqb-false _ _ over.0)))))
