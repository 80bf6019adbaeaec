-- What the triangles ahead couple to the right side so far is what all triangles couple to it at entry. Assumes nothing.
use Rattle.std.proofs.Common.{arith, ◌∙◌, ◌+◌, ◌*◌, ◌<◌, length}
use Rattle.laplace.proofs.LawsElement.{triangle_is, triangle-within}
use Rattle.laplace.proofs.LawsRight.{coupling_again, coupling_done}
use Rattle.right.proofs.couple_all.Goals as goal

pub couple_triangle-requires : goal.couple_triangle-requires
couple_triangle-requires c =
    let pre = c.requires in
    let chunks = c.as_chunks.ensures in
    let at = c.loop-q.q-index in
    let within : 3 * at + 2 < length c.args.mesh.now.triangles.now = omega (arith, chunks.front_len, c.loop-q-test.true) in
    (pre.0, rw (triangle_is _ _ at chunks.front within) (triangle-within _ _ at pre.0.corners within), c.loop-q.auto.right ∙ pre.1)

pub loop-q-preserved : goal.loop-q-preserved
loop-q-preserved c =
    let chunks = c.as_chunks.ensures in
    let at = c.loop-q.q-index in
    let within : 3 * at + 2 < length c.args.mesh.now.triangles.now = omega (arith, chunks.front_len, c.loop-q-test.true) in
    rw c.couple_triangle.ensures (coupling_again _ _ _ _ c.loop-q.invariant within _ (triangle_is _ _ at chunks.front within))

pub returns : goal.returns
returns c = coupling_done _ _ _ _ (omega (arith, c.requires.0.whole, c.as_chunks.ensures.front_len)) c.loop-q.invariant
