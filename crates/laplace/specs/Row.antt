-- A row as it is built: entries by their columns and their values, and what a corner of the mesh adds to them. Definitions only. Assumes nothing.
use Rattle.std.specs.Prelude.{ℕ, zero, suc, ◌*◌, ◌/◌, ◌%◌, ◌<◌, ◌≤◌, ◌≡◌, List, [], ◌∷◌, ltb, length, get_or, take, Float, Option, Some, None, Result, Ok, Err}
use Rattle.binary64.specs.Number.{pick}
use Rattle.stretch.specs.Stretch.{part, splice}
use Rattle.sparse.specs.Sparse.{Entry, entries}
use Rattle.laplace.specs.declared.Places.{Places}
use Rattle.laplace.specs.declared.element.Elements.{Elements}
use Rattle.laplace.specs.declared.element.Stiff.{Stiff}
use Rattle.laplace.specs.Mesh.{free}
use Rattle.laplace.specs.Assembly.{insert}
use Rattle.laplace.specs.Matrix.{Rising, Below}
use Rattle.laplace.specs.Element.{stiff_in, triangle_of}
use Rattle.laplace.specs.Elements.{AreElements}
use Rattle.laplace.specs.Corners.{heads_of, links_of}
use Rattle.laplace.specs.Placed.{values_in, columns_in}

-- ---- one insertion

-- how many columns at the front are below j
unfoldable pub position_of : ℕ → List ℕ → ℕ
position_of j [] = 0
position_of j (c ∷ cs) = pick (ltb c j) (suc (position_of j cs)) 0

-- where the column j stands among the first k, or else where it goes
unfoldable pub Finds : ℕ → ℕ → List ℕ → Result ℕ ℕ → Type 0
Finds j k c (Ok p) = (p ≡ position_of j (take k c)) × (p < k) × (get_or c p 0 ≡ j)
Finds j k c (Err p) = (p ≡ position_of j (take k c)) × (p < k → get_or c p 0 ≡ j → ⊥)

-- the first k entries of columns and values
abbrev pub entries_in : List Float → List ℕ → ℕ → List Entry
entries_in values cols k = entries (take k cols) (take k values)

-- there is room for the entries es
pub record Room (values : List Float) (cols : List ℕ) (es : List Entry) : Type 0 where
  pub values_fit : length es ≤ length values
  pub cols_fit : length es ≤ length cols

-- the k entries es were written to the front, and nothing else
pub record Written (v : List Float) (c : List ℕ) (v' : List Float) (c' : List ℕ) (k : ℕ) (es : List Entry) : Type 0 where
  pub count : k ≡ length es
  pub values : v' ≡ splice v 0 (values_in es)
  pub columns : c' ≡ splice c 0 (columns_in es)

-- ---- the mesh in the work

abbrev pub vertices_in : List Float → ℕ → Places → List Float
vertices_in floats n at = part floats at.vertices (2 * n)

abbrev pub corners_in : List ℕ → ℕ → Places → List ℕ
corners_in words t at = part words at.triangles (3 * t)

abbrev pub tags_in : List ℕ → ℕ → Places → List ℕ
tags_in words n at = part words at.tags n

-- ---- the row that is built

-- columns rise and are below n, so there are at most n
pub record Tidy (n : ℕ) (es : List Entry) : Type 0 where
  pub rising : Rising 0 es
  pub below : Below n es

-- k tidy entries stand in a row with a place for each vertex of the mesh
pub record Building (e : Elements) (values : List Float) (cols : List ℕ) (k : ℕ) : Type 0 where
  pub mesh : AreElements e
  pub values_long : length values ≡ length e.tags.now
  pub cols_long : length cols ≡ length e.tags.now
  pub within : k ≤ length e.tags.now
  pub tidy : Tidy (length e.tags.now) (entries_in values cols k)

-- ---- what a corner adds

-- an entry to a free column
unfoldable pub placed : List ℕ → ℕ → Float → List Entry → List Entry
placed tags j v es = pick (free tags j) (insert j v es) es

-- one for each corner of the triangle
unfoldable pub three_placed : List ℕ → List ℕ → List Float → List Entry → List Entry
unfolding placed
three_placed tags [] s es = es
three_placed tags (j ∷ q) [] es = es
three_placed tags (j ∷ q) (v ∷ s) es = three_placed tags q s (placed tags j v es)

-- the values that corner e of a triangle pushes
unfoldable pub side_of : Stiff → ℕ → List Float
side_of s zero = s.ii ∷ s.ij ∷ s.ik ∷ []
side_of s (suc zero) = s.ij ∷ s.jj ∷ s.jk ∷ []
side_of s (suc (suc e)) = s.ik ∷ s.jk ∷ s.kk ∷ []

-- the entries of corner e of a triangle, none where it is skipped
unfoldable pub sides_placed : List ℕ → List ℕ → ℕ → Option Stiff → List Entry → List Entry
unfolding three_placed
sides_placed tags q e None es = es
sides_placed tags q e (Some s) es = three_placed tags q (side_of s e) es

unfoldable pub added_by : List ℕ → Float → List Float → List ℕ → ℕ → List Entry → List Entry
unfolding sides_placed
added_by tags flat vs q e es = sides_placed tags q e (stiff_in flat vs q) es

-- those of corner c of the mesh
unfoldable pub added : List ℕ → Float → List Float → List ℕ → ℕ → List Entry → List Entry
unfolding added_by
added tags flat vs ts c es = added_by tags flat vs (triangle_of ts (c / 3)) (c % 3) es

-- ---- a vertex's corners, by heads and links

pub record Linked (e : Elements) (heads links : List ℕ) : Type 0 where
  pub first : heads ≡ heads_of e.triangles.now (length e.tags.now)
  pub next : links ≡ links_of e.triangles.now
