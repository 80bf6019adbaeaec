-- `crossing_of` meets its contract: the field and the gradients stand in the front where the definition reads them. Assumes nothing.
use Rattle.kinds.proofs.LawsKinds.{triangle_in_mesh, crossing_from_is}
use Rattle.kinds.proofs.crossing_of.Goals as goal

pub crossing_by-requires : goal.crossing_by-requires
crossing_by-requires c = triangle_in_mesh c.args.laid.now.counted.plan _ c.requires.0.ready c.field-field.ensures c.requires.1

pub returns : goal.returns
returns c =
    let a = c.args in
    crossing_from_is a.laid.now.counted.plan a.laid.now.words.now a.front.now c.requires.0 a.entry.point a.entry.triangle a.entry.edge
    c.at_gradients-at.ensures c.at_x-u.ensures c.field-field.ensures c.gradient_at-g.ensures c.crossing_by.ensures
