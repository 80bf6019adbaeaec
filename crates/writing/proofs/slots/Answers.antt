-- `writing::slots` meets its contract: each setting in its place.
-- Assumes nothing.
use borrow.Author.Rules.{rules}
use mathlib.Core.Path.{◌≡◌}
use Rattle.std.specs.Option.{option_map}
use Rattle.format.specs.declared.Setting as code
use Rattle.writing.proofs.Puts.{slots_are}
use Rattle.writing.proofs.slots.Goals as goal

pub returns : goal.returns
returns c =
    let e1 : c.map.result ≡ option_map code.Setting.Limit c.args.s.limit = search rules in
    let e2 : c.map-2.result ≡ option_map code.Setting.Tolerance c.args.s.tolerance = search rules in
    let e3 : c.map-3.result ≡ option_map code.Setting.Step c.args.s.step = search rules in
    let e4 : c.map-4.result ≡ option_map code.Setting.StartX c.args.s.x = search rules in
    let e5 : c.map-5.result ≡ option_map code.Setting.StartY c.args.s.y = search rules in
    let e6 : c.map-6.result ≡ option_map code.Setting.Room c.args.s.room = search rules in
    slots_are c.args.s _ _ _ _ _ _ e1 e2 e3 e4 e5 e6
