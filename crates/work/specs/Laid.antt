-- What is known of a plan and the words that are laid out for it: `Ready`, in fields that are each a proposition. Definitions only. Assumes nothing.
use Rattle.std.specs.Prelude.{ℕ, ◌≤◌, ◌<◌, ◌≡◌, List, length, get_or}
use Rattle.sparse.specs.Stored.{Sound}
use Rattle.mesh.specs.Mesh.{no_neighbour}
use Rattle.mesh.specs.Work.{Below, triangles_of, neighbours_of}
use Rattle.format.specs.Content.{max_vertices, max_triangles, max_limit, max_room}
use Rattle.work.specs.declared.Plan.{Plan}
use Rattle.work.specs.Layout.{matrix_at, mesh_at}

-- the plan's counts, and the indices in the words: a neighbour that is not none is a triangle
pub record Laying (plan : Plan) (words : List ℕ) : Type 0 where
  pub n_most : plan.n ≤ max_vertices
  pub t_most : plan.t ≤ max_triangles
  pub limit-most : plan.limit ≤ max_limit
  pub room_least : 1 ≤ plan.room
  pub room_most : plan.room ≤ max_room
  pub sound : Sound words (matrix_at plan.n plan.t)
  pub corners : Below plan.n (triangles_of words (mesh_at plan.n plan.t))
  pub neighbours : (k : ℕ) → k < length (neighbours_of words (mesh_at plan.n plan.t)) → (get_or (neighbours_of words (mesh_at plan.n plan.t)) k 0 ≡ no_neighbour → ⊥)
      → get_or (neighbours_of words (mesh_at plan.n plan.t)) k 0 < plan.t
