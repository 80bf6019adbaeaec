-- `dry_gain` meets its contract: a finished path gains nothing, solving and the start pass are made on copies, and crossings read the lent floats as they stand. Assumes nothing.
use Rattle.kinds.specs.NextLaws.{told}
use Rattle.dry.proofs.LawsPhases.{gained_none, gained, gained_forth, gained_anew, gained_anew_forth}
use Rattle.dry.proofs.dry_gain.Goals as goal

pub returns-in-Over : goal.returns-in-Over
returns-in-Over c =
    let a = c.args in
    gained_none a.laid.now.counted.plan a.laid.now.words.now a.floats.now a.stand a.k (told a.stand c.of.ensures c.in-Over.is)

pub go-requires : goal.go-requires
go-requires c = (c.requires, (told c.args.stand c.of.ensures c.in-Solve.is).0)

pub returns-in-Solve : goal.returns-in-Solve
returns-in-Solve c =
    let a = c.args in
    gained a.laid.now.counted.plan a.laid.now.words.now a.floats.now a.stand a.k _ c.go.ensures

pub returns-in-Begin : goal.returns-in-Begin
returns-in-Begin c =
    let a = c.args in
    let t = told a.stand c.of.ensures c.in-Begin.is in
    gained_anew a.laid.now.counted.plan a.laid.now.words.now a.floats.now a.stand a.k t.0 t.1 t.2 _ _ c.uncrossed.ensures c.go-in-Begin.ensures

pub crossings-requires : goal.crossings-requires
crossings-requires c = (c.requires, told c.args.stand c.of.ensures c.in-Cross.is)

pub returns-in-Cross : goal.returns-in-Cross
returns-in-Cross c =
    let a = c.args in
    gained a.laid.now.counted.plan a.laid.now.words.now a.floats.now a.stand a.k _ c.crossings.ensures

pub overflow_sub-result : goal.overflow_sub-result
overflow_sub-result c =
    let a = c.args in
    gained_forth a.laid.now.counted.plan a.laid.now.words.now a.floats.now a.stand a.k _ c.go.ensures

pub overflow_sub-result-in-Begin : goal.overflow_sub-result-in-Begin
overflow_sub-result-in-Begin c =
    let a = c.args in
    let t = told a.stand c.of.ensures c.in-Begin.is in
    gained_anew_forth a.laid.now.counted.plan a.laid.now.words.now a.floats.now a.stand a.k t.0 t.1 t.2 _ _ c.uncrossed.ensures c.go-in-Begin.ensures

pub overflow_sub-result-in-Cross : goal.overflow_sub-result-in-Cross
overflow_sub-result-in-Cross c =
    let a = c.args in
    gained_forth a.laid.now.counted.plan a.laid.now.words.now a.floats.now a.stand a.k _ c.crossings.ensures
