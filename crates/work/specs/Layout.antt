-- Where each list of a run stands in the lent buffers, for n vertices and T triangles: one order for each buffer. Definitions only. Assumes nothing.
-- Floats: vertices 2n, right side n, row buffer n, values 9T + n, x n, r n, p n, product n, gradients 2T, which a pass works on; norms limit + 1; kept x r p 3n; spare.
-- Words: triangles 3T, neighbours 3T, tags n, row starts n + 1, columns 9T + n, heads n, links 3T, row columns n, spare. Path: the coordinates of room points.
use Rattle.std.specs.Prelude.{ℕ, ◌+◌, ◌*◌}
use Rattle.sparse.specs.Stored.{CsrAt}
use Rattle.mesh.specs.Work.{MeshAt}
use Rattle.conjugate.specs.Placed.{VectorsAt}
use Rattle.laplace.specs.declared.Places.{Places}

abbrev pub at_right : ℕ → ℕ → ℕ
at_right n t = 2 * n

abbrev pub at_row : ℕ → ℕ → ℕ
at_row n t = 3 * n

abbrev pub at_values : ℕ → ℕ → ℕ
at_values n t = 4 * n

abbrev pub at_x : ℕ → ℕ → ℕ
at_x n t = 5 * n + 9 * t

abbrev pub at_r : ℕ → ℕ → ℕ
at_r n t = 6 * n + 9 * t

abbrev pub at_p : ℕ → ℕ → ℕ
at_p n t = 7 * n + 9 * t

abbrev pub at_product : ℕ → ℕ → ℕ
at_product n t = 8 * n + 9 * t

abbrev pub at_gradients : ℕ → ℕ → ℕ
at_gradients n t = 9 * n + 9 * t

-- the norms, and so the end of what a pass works on
abbrev pub at_norms : ℕ → ℕ → ℕ
at_norms n t = 9 * n + 11 * t

-- the kept vectors, behind the norms
abbrev pub at_kept : ℕ → ℕ → ℕ → ℕ
at_kept n t limit = 9 * n + 11 * t + (limit + 1)

abbrev pub at_neighbours : ℕ → ℕ
at_neighbours t = 3 * t

abbrev pub at_tags : ℕ → ℕ
at_tags t = 6 * t

abbrev pub at_starts : ℕ → ℕ → ℕ
at_starts n t = n + 6 * t

abbrev pub at_columns : ℕ → ℕ → ℕ
at_columns n t = 2 * n + 6 * t + 1

abbrev pub at_heads : ℕ → ℕ → ℕ
at_heads n t = 3 * n + 15 * t + 1

abbrev pub at_links : ℕ → ℕ → ℕ
at_links n t = 4 * n + 15 * t + 1

abbrev pub at_row_columns : ℕ → ℕ → ℕ
at_row_columns n t = 4 * n + 18 * t + 1

-- the matrix, the mesh and the vectors by their places
abbrev pub matrix_at : ℕ → ℕ → CsrAt
matrix_at n t = record { starts = at_starts n t; cols = at_columns n t; vals = at_values n t; rows = n; count = 9 * t + n }

abbrev pub mesh_at : ℕ → ℕ → MeshAt
mesh_at n t = record { n = n; t = t; vertices = 0; triangles = 0; neighbours = at_neighbours t; tags = at_tags t }

abbrev pub vectors_at : ℕ → ℕ → VectorsAt
vectors_at n t = record { x = at_x n t; r = at_r n t; p = at_p n t; product = at_product n t }

-- where the assembly finds the mesh, the matrix and the right side
abbrev pub places_at : ℕ → ℕ → Places
places_at n t = record {
  vertices = 0;
  right = at_right n t;
  row = at_row n t;
  values = at_values n t;
  triangles = 0;
  tags = at_tags t;
  starts = at_starts n t;
  cols = at_columns n t;
  heads = at_heads n t;
  links = at_links n t;
  rowcols = at_row_columns n t;
}
