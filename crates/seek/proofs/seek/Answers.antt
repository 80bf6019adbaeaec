-- `seek` meets its contract: it starts at its origin, at or before the target, and the passes after it stop at the target or the path's end. Assumes nothing.
use native.Mathlib.Omega.{arith}
use Rattle.seek.proofs.LawsSeek.{sought_place, sought_standing, seek_comes}
use borrow.Author.Rules.{rules}
use Rattle.seek.proofs.seek.Goals as goal

pub overflow_sub-k : goal.overflow_sub-k
overflow_sub-k c = sought_place _ _ _ _ _ _ _ _ _ c.origin-o.ensures c.from_origin-s.ensures

pub go-requires : goal.go-requires
go-requires c =
    let q = c.requires in
    let e = c.from_origin-s.ensures in
    let h = sought_place _ _ _ _ _ _ _ _ _ c.origin-o.ensures e in
    (sought_standing _ _ _ _ _ _ _ _ _ c.origin-o.ensures e q.ready q.standing q.keeping, omega (arith, q.near, q.ready.limit-most, q.ready.t_most), search rules)

pub returns : goal.returns
returns c = seek_comes _ _ _ _ _ _ _ _ _ _ _ _ c.origin-o.ensures c.from_origin-s.ensures c.go.ensures
