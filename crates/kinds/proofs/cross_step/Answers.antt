-- `cross_step` meets its contract: the field and the gradients stand in the front where the definition reads them. Assumes nothing.
use Rattle.work.specs.Kinds.{Searchable}
use Rattle.kinds.proofs.LawsKinds.{triangle_in_mesh, crossing_is, cross_leads}
use Rattle.kinds.proofs.cross_step.Goals as goal

pub cross-c-requires-clause-inside : goal.cross-c-requires-clause-inside
cross-c-requires-clause-inside c =
    let q = c.requires in
    triangle_in_mesh c.args.laid.now.counted.plan _ q.steppable.ready c.field-field.ensures (q.steppable.standing.triangle_in q.some)

pub returns : goal.returns
returns c =
    let a = c.args in
    let plan = a.laid.now.counted.plan in
    let words = a.laid.now.words.now in
    let at = c.requires.steppable in
    let searchable : Searchable plan words a.front.now = record { ready = at.ready; long = at.long } in
    let is = crossing_is plan words a.front.now searchable a.stand c.at_gradients-at.ensures c.at_x-u.ensures c.field-field.ensures c.gradient_at-g.ensures c.cross-c.ensures.crossing in
    cross_leads plan words a.front.now a.stand _ _ is c.cross-c.ensures.stand
