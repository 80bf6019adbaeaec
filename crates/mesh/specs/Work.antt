-- What is asked of a mesh's lists: their lengths fit one another, each corner is a vertex and each neighbour a triangle or none. And where a mesh stands in the two lent buffers, and what is
-- asked of it there: every list fits its buffer, the counts are those of an accepted sheet, and the same of corners and neighbours (document 01, Sheet). Definitions only. Assumes nothing.
use Rattle.std.specs.Prelude.{◌≡◌, ◌⊎◌, List, ℕ, ◌+◌, ◌*◌, ◌≤◌, ◌<◌, length, get_or, Float}
use Rattle.stretch.specs.Stretch.{part}
use Rattle.mesh.specs.Mesh.{no_neighbour, triangle_count}

-- ---- a mesh's lists

-- the lists of one mesh
pub record IsMesh (vs : List Float) (ts ns tags : List ℕ) : Type 0 where
  pub vertices_long : length vs ≡ 2 * length tags
  pub triangles_whole : length ts ≡ 3 * triangle_count ts
  pub neighbours_long : length ns ≡ length ts
  pub corners : (k : ℕ) → k < length ts → get_or ts k 0 < length tags
  pub neighbours : (k : ℕ) → k < length ns → (get_or ns k 0 ≡ no_neighbour → ⊥) → get_or ns k 0 < triangle_count ts

-- ---- where a mesh stands

-- how many vertices and triangles there are, and where each list starts
pub record MeshAt : Type 0 where
  pub n : ℕ
  pub t : ℕ
  pub vertices : ℕ
  pub triangles : ℕ
  pub neighbours : ℕ
  pub tags : ℕ

-- the vertices first in the floats; triangles, neighbours and tags first in the words
abbrev pub first_at : ℕ → ℕ → MeshAt
first_at n t = record { n = n; t = t; vertices = 0; triangles = 0; neighbours = 3 * t; tags = 6 * t }

-- ---- the mesh's lists, as parts of the buffers

unfoldable pub vertices_of : List Float → MeshAt → List Float
vertices_of floats m = part floats m.vertices (2 * m.n)

unfoldable pub triangles_of : List ℕ → MeshAt → List ℕ
triangles_of words m = part words m.triangles (3 * m.t)

unfoldable pub neighbours_of : List ℕ → MeshAt → List ℕ
neighbours_of words m = part words m.neighbours (3 * m.t)

unfoldable pub tags_of : List ℕ → MeshAt → List ℕ
tags_of words m = part words m.tags m.n

-- the values of a field that start at u
unfoldable pub field_of : List Float → MeshAt → ℕ → List Float
field_of floats m u = part floats u m.n

-- ---- what is asked of it

-- each number of a list is below n
pub record Below (n : ℕ) (l : List ℕ) : Type 0 where
  pub at : (k : ℕ) → k < length l → get_or l k 0 < n

-- each number of a list is none, or below n
pub record NoneOrBelow (n : ℕ) (l : List ℕ) : Type 0 where
  pub at : (k : ℕ) → k < length l → (get_or l k 0 ≡ no_neighbour) ⊎ (get_or l k 0 < n)

-- of the words
pub record Linked (words : List ℕ) (m : MeshAt) : Type 0 where
  pub n_most : m.n ≤ 4096
  pub t_most : m.t ≤ 8192
  pub triangles_fit : m.triangles + 3 * m.t ≤ length words
  pub neighbours_fit : m.neighbours + 3 * m.t ≤ length words
  pub tags_fit : m.tags + m.n ≤ length words
  pub corners : Below m.n (triangles_of words m)
  pub neighbours : NoneOrBelow m.t (neighbours_of words m)

-- of both
pub record Meshed (floats : List Float) (words : List ℕ) (m : MeshAt) : Type 0 where
  pub linked : Linked words m
  pub vertices_fit : m.vertices + 2 * m.n ≤ length floats

-- and of a field on it, whose n numbers start at u
pub record Fielded (floats : List Float) (words : List ℕ) (m : MeshAt) (u : ℕ) : Type 0 where
  pub meshed : Meshed floats words m
  pub field_fits : u + m.n ≤ length floats

-- ---- what an accessor answers

-- a corner's vertex number, with its bound
pub record Corner (r n c : ℕ) : Type 0 where
  pub is : r ≡ c
  pub below : r < n
