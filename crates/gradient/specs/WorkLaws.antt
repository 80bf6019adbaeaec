-- The gradients of a mesh and a field whose slices are parts of two buffers are those of the mesh that stands there. Assumes nothing.
use Rattle.std.specs.Prelude.{◌≡◌, List, ℕ, ◌+◌, ◌*◌, ◌≤◌, length, take, drop, Float}
use Rattle.std.proofs.Common.{sym, ap, ◌∙◌, arith}
use Rattle.std.proofs.Math.ListN.{take-append-drop}
use Rattle.stretch.specs.Stretch.{part}
use Rattle.stretch.specs.StretchLaws.{length_part, part_front}
use Rattle.mesh.specs.declared.Mesh.{Mesh}
use Rattle.mesh.specs.Work.{MeshAt, Meshed, vertices_of}
use Rattle.mesh.specs.Stands.{Stands}
use Rattle.gradient.specs.Gradient.{gradient_on, gradients}
use Rattle.gradient.specs.Work.{Laid, gradient_in, gradients_in}

module _ {floats us : List Float} {words : List ℕ} {at : MeshAt} {m : Mesh} (u : ℕ) (s : Stands floats words at m) (e : us ≡ part floats u at.n) (flat : Float) where
  pub gradient_stands : (t : ℕ) → gradient_on flat m.vertices.now us m.triangles.now t ≡ gradient_in flat floats words at u t
  unfolding gradient_on gradient_in
  gradient_stands t = rw (s.vertices, s.triangles, e)

  pub gradients_stand : gradients flat m.vertices.now us m.triangles.now ≡ gradients_in flat floats words at u
  gradients_stand = rw (s.vertices, s.triangles, e)

-- What stands before the gradients' place stands in the floats before it alone, too.
module _ {floats : List Float} {words : List ℕ} {m : MeshAt} (u at : ℕ) (laid : Laid floats words m u at) where
  length_before : length (take at floats) ≡ at
  unfolding part
  length_before = length_part floats 0 at (omega (arith, laid.fits))

  part_before : (b n : ℕ) → b + n ≤ at → part (take at floats) b n ≡ part floats b n
  part_before b n h =
      sym (part_front (take at floats) (drop at floats) b n (omega (arith, h, length_before))) ∙ ap (λ (l : List Float). part l b n) (take-append-drop at floats)

  pub before_meshed : Meshed (take at floats) words m
  before_meshed = record { linked = laid.meshed.linked; vertices_fit = omega (arith, length_before, laid.vertices_before) }

  pub before_field_fits : u + m.n ≤ length (take at floats)
  before_field_fits = omega (arith, length_before, laid.field_before)

  pub before_gradients : (flat : Float) → gradients_in flat (take at floats) words m u ≡ gradients_in flat floats words m u
  unfolding vertices_of
  before_gradients flat = rw (part_before m.vertices (2 * m.n) laid.vertices_before, part_before u m.n laid.field_before)
