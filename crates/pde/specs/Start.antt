-- Where the path starts (mesh/pde.rs, `find_triangle_containing` and `pick_start`; document 01, Start pass). Definitions only. Assumes nothing.
use Rattle.std.specs.Prelude.{ℕ, suc, Bool, false, ◌&&◌, ◌||◌, List, [], ◌∷◌, Option, Some, None, eqb, Float}
use Rattle.std.specs.Float.{inf}
use Rattle.std.specs.Float.Ieee.{lt}
use Rattle.binary64.specs.Arith.{◌⊕◌, ◌⊗◌, ◌⊘◌}
use Rattle.binary64.specs.Constants.{half, three}
use Rattle.binary64.specs.Number.{pick}
use Rattle.plane.specs.declared.Point.{Point}
use Rattle.plane.specs.Plane.{point, point_in_triangle}
use Rattle.mesh.specs.Mesh.{vertex, corner, neighbour, no_neighbour, onward, tag_of}
use Rattle.pde.specs.Search.{or_else, first_of}
use Rattle.pde.specs.declared.Entry.{Entry}

-- no edge
abbrev pub no_edge : ℕ
no_edge = 3

-- the tag that `pick_start` calls inner
abbrev pub inner : ℕ
inner = 2

abbrev pub entry : Point → ℕ → ℕ → Option Entry
entry p t e = Some (record { point = p; triangle = t; edge = e })

-- A given start lies in the first triangle that `point_in_triangle` accepts.
abbrev pub contains : List Float → List ℕ → Point → ℕ → Bool
contains vs ts p t = point_in_triangle p (vertex vs (corner ts t 0)) (vertex vs (corner ts t 1)) (vertex vs (corner ts t 2))

unfoldable pub contained_in : List Float → List ℕ → Point → ℕ → Option Entry
contained_in vs ts p t = pick (contains vs ts p t) (entry p t no_edge) None

unfoldable pub triangle_containing : List Float → List ℕ → ℕ → Point → Option Entry
triangle_containing vs ts count p = first_of (contained_in vs ts p) 0 count

-- Otherwise: the middle of the first edge with no neighbour and both corners inner;
abbrev pub is_inner : List ℕ → List ℕ → List ℕ → ℕ → ℕ → Bool
is_inner ts ns tags t e = eqb (neighbour ns t e) no_neighbour && (eqb (tag_of tags (corner ts t e)) inner && eqb (tag_of tags (corner ts t (onward e))) inner)

abbrev pub middle : List Float → List ℕ → ℕ → ℕ → Point
middle vs ts t e =
    let va = vertex vs (corner ts t e) in
    let vb = vertex vs (corner ts t (onward e)) in
    point ((va.x ⊕ vb.x) ⊗ half) ((va.y ⊕ vb.y) ⊗ half)

unfoldable pub inner_edge : List Float → List ℕ → List ℕ → List ℕ → ℕ → ℕ → Option Entry
inner_edge vs ts ns tags t e = pick (is_inner ts ns tags t e) (entry (middle vs ts t e) t e) None

unfoldable pub inner_edge_of : List Float → List ℕ → List ℕ → List ℕ → ℕ → Option Entry
inner_edge_of vs ts ns tags t = first_of (inner_edge vs ts ns tags t) 0 3

unfoldable pub first_inner : List Float → List ℕ → List ℕ → List ℕ → ℕ → Option Entry
first_inner vs ts ns tags count = first_of (inner_edge_of vs ts ns tags) 0 count

-- else the first least vertex by `<` from +infinity, index 0 if none is less,
unfoldable pub least_from : ℕ → ℕ → Float → List Float → ℕ
least_from i best value [] = best
least_from i best value (u ∷ us) = least_from (suc i) (pick (lt u value) i best) (pick (lt u value) u value) us

unfoldable pub least_vertex : List Float → ℕ
least_vertex us = least_from 0 0 (inf false) us

-- and the centroid of the first triangle that has it.
abbrev pub has : List ℕ → ℕ → ℕ → Bool
has ts v t = eqb (corner ts t 0) v || (eqb (corner ts t 1) v || eqb (corner ts t 2) v)

abbrev pub centroid : List Float → List ℕ → ℕ → Point
centroid vs ts t =
    let va = vertex vs (corner ts t 0) in
    let vb = vertex vs (corner ts t 1) in
    let vc = vertex vs (corner ts t 2) in
    point ((va.x ⊕ vb.x ⊕ vc.x) ⊘ three) ((va.y ⊕ vb.y ⊕ vc.y) ⊘ three)

unfoldable pub centroid_with : List Float → List ℕ → ℕ → ℕ → Option Entry
centroid_with vs ts v t = pick (has ts v t) (entry (centroid vs ts t) t no_edge) None

unfoldable pub first_with : List Float → List ℕ → ℕ → ℕ → Option Entry
first_with vs ts count v = first_of (centroid_with vs ts v) 0 count

unfoldable pub pick_start : List Float → List ℕ → List ℕ → List ℕ → ℕ → List Float → Option Entry
pick_start vs ts ns tags count us = or_else (first_inner vs ts ns tags count) (first_with vs ts count (least_vertex us))
