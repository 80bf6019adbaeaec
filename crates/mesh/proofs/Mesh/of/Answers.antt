-- `Mesh::of` meets its contract: each slice is the part of its buffer where the list stands, so the lists are those of a mesh. Assumes nothing.
use Rattle.std.proofs.Common.{◌≡◌, refl, ℕ, ◌+◌, ◌-◌, ◌*◌, arith}
use Rattle.stretch.specs.Stretch.{part}
use Rattle.mesh.specs.Work.{vertices_of, triangles_of, neighbours_of, tags_of}
use Rattle.mesh.specs.WorkLaws.{meshed_is}
use Rattle.mesh.proofs.Mesh.of.Goals as goal

between : (t : ℕ) → 6 * t - 3 * t ≡ 3 * t
between t = omega arith

behind : (n t : ℕ) → 6 * t + n - 6 * t ≡ n
behind n t = omega arith

pub invariant_of-result : goal.invariant_of-result
unfolding vertices_of triangles_of neighbours_of tags_of part
invariant_of-result c = let a = c.args in record { whole = rw (between a.t, behind a.n a.t) (meshed_is c.requires) }

pub returns : goal.returns
unfolding vertices_of triangles_of neighbours_of tags_of part
returns c = let a = c.args in record { vertices = refl; triangles = refl; neighbours = rw (between a.t); tags = rw (behind a.n a.t) }
