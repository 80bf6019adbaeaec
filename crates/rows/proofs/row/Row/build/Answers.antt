-- The entries of the corners passed stand in the row, and what the corners from the next one on add to them is the row. Assumes nothing.
use Rattle.std.proofs.Common.{rules, arith, ap, refl, length}
use Rattle.laplace.proofs.LawsCorners.{length_heads, length_links}
use Rattle.laplace.proofs.LawsRow.{building_on}
use Rattle.laplace.proofs.LawsWalk.{walk_none, walk_less, walk_again, walk_done}
use Rattle.rows.proofs.row.Row.build.Goals as goal

pub bounds-corners-r : goal.bounds-corners-r
bounds-corners-r c = let pre = c.requires in omega (arith, ap length c.args.corners.now.linked.first, length_heads 0 c.args.corners.now.mesh.triangles.now (length c.args.corners.now.mesh.tags.now))

pub loop-c-init : goal.loop-c-init
loop-c-init c =
    let pre = c.requires in
    let b = rw pre.1 at pre.0 in
    record { same = search rules; walking = rw pre.1 (walk_none _ _ _ _ _ _ b c.args.corners.now.linked pre.2 _ refl) }

pub add_corner-requires : goal.add_corner-requires
add_corner-requires c =
    let s = c.loop-c.invariant.walking in
    (building_on _ _ _ _ c.requires.0 _ _ _ _ s.written s.tidy, omega (arith, s.within, c.loop-c-test.true))

pub bounds-corners-c : goal.bounds-corners-c
bounds-corners-c c =
    omega (arith, c.loop-c.invariant.walking.within, c.loop-c-test.true, ap length c.args.corners.now.linked.next, length_links 0 c.args.corners.now.mesh.triangles.now)

pub loop-c-smaller : goal.loop-c-smaller
loop-c-smaller c =
    let pre = c.requires in
    let b = rw pre.1 at pre.0 in
    walk_less _ _ _ _ _ _ b c.args.corners.now.linked pre.2 _ _ _ _ c.loop-c.invariant.walking c.loop-c-test.true _ _ _ c.add_corner.ensures.written _ refl

pub loop-c-preserved : goal.loop-c-preserved
loop-c-preserved c =
    let pre = c.requires in
    let b = rw pre.1 at pre.0 in
    record { same = search rules; walking = walk_again _ _ _ _ _ _ b c.args.corners.now.linked pre.2 _ _ _ _ c.loop-c.invariant.walking c.loop-c-test.true _ _ _ c.add_corner.ensures.written _ refl }

pub returns : goal.returns
returns c =
    let pre = c.requires in
    let b = rw pre.1 at pre.0 in
    record { same = c.loop-c.invariant.same; written = walk_done _ _ _ _ _ _ b c.args.corners.now.linked pre.2 _ _ _ _ (omega arith) c.loop-c.invariant.walking }
