-- The sizes and ranges of a task that a run's own sizes rest on: the task of every accepted sheet has them. Definitions only. Assumes nothing.
use Rattle.std.specs.Prelude.{ℕ, ◌*◌, ◌≤◌, ◌<◌, ◌≡◌, ◌⊎◌, length, get_or}
use Rattle.mesh.specs.Mesh.{no_neighbour}
use Rattle.conjugate.specs.Solver.{Solve}
use Rattle.format.specs.Content.{max_vertices, max_triangles, max_limit, max_room}
use Rattle.model.specs.Task.{Task, vertex_count, triangle_count}

pub record Sized (c : Task) : Type 0 where
  -- the lists are as long as the counts say
  pub vertices : length c.vertices ≡ 2 * vertex_count c
  pub triangles : length c.triangles ≡ 3 * triangle_count c
  pub neighbours : length c.neighbours ≡ 3 * triangle_count c
  pub tags : length c.tags ≡ vertex_count c
  -- corners are vertices, and neighbours triangles or none
  pub corners : (i : ℕ) → i < length c.triangles → get_or c.triangles i 0 < vertex_count c
  pub in_range : (i : ℕ) → i < length c.neighbours → (get_or c.neighbours i 0 ≡ no_neighbour) ⊎ (get_or c.neighbours i 0 < triangle_count c)
  -- the counts are within the sheet's limits
  pub vertices_most : vertex_count c ≤ max_vertices
  pub triangles_most : triangle_count c ≤ max_triangles
  pub limit-most : c.limit ≤ max_limit
  pub room : 1 ≤ c.room
  pub room_most : c.room ≤ max_room

-- the three vectors of solving have n places
pub record Vectors (n : ℕ) (s : Solve) : Type 0 where
  pub x : length s.x ≡ n
  pub r : length s.r ≡ n
  pub p : length s.p ≡ n
