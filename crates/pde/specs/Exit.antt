-- Where a ray leaves a triangle, and which edge is entered beyond (mesh/pde.rs, `find_exit_edge`, `entry_edge_of`, `find_cut_edge_match`). Definitions only. Assumes nothing.
use Rattle.std.specs.Prelude.{ℕ, zero, suc, Bool, false, ◌&&◌, List, Option, Some, None, eqb, Float}
use Rattle.std.specs.Float.{inf}
use Rattle.std.specs.Float.Ieee.{lt}
use Rattle.binary64.specs.Arith.{◌⊕◌, ◌⊖◌, ◌⊗◌}
use Rattle.binary64.specs.Number.{pick}
use Rattle.binary64.specs.Root.{root}
use Rattle.plane.specs.declared.Point.{Point}
use Rattle.plane.specs.Plane.{ray_line_intersection}
use Rattle.mesh.specs.Mesh.{vertex, corner, neighbour, no_neighbour, onward}
use Rattle.pde.specs.Search.{first_of}
use Rattle.pde.specs.declared.Candidate.{Candidate}
use Rattle.pde.specs.declared.Exit.{Exit}
use Rattle.pde.specs.declared.Side.{Side}

-- the distance of two points, and its square
abbrev pub squared : Point → Point → Float
squared p q =
    let dx = q.x ⊖ p.x in
    let dy = q.y ⊖ p.y in
    dx ⊗ dx ⊕ dy ⊗ dy

unfoldable pub distance : Point → Point → Float
distance p q = root (squared p q)

-- ---- the exit

abbrev pub exit_at : ℕ → Point → Option Exit
exit_at e p = Some (record { edge = e; point = p })

-- the nearest exit so far, and how far it is
pub record Nearest : Type 0 where
  pub far : Float
  pub exit : Option Exit

abbrev pub nearest : Float → Option Exit → Nearest
nearest d e = record { far = d; exit = e }

-- a hit counts where it is farther than the least and nearer than the best
abbrev pub offered : Float → Point → ℕ → Option Point → Nearest → Nearest
offered least pos e (Some p) best = let d = distance pos p in pick (lt least d && lt d best.far) (nearest d (exit_at e p)) best
offered least pos e None best = best

-- edge e, unless it is the entry edge
unfoldable pub considered : Float → List Float → List ℕ → ℕ → Point → Point → ℕ → ℕ → Nearest → Nearest
considered least vs ts t pos dir entry e best =
    pick (eqb e entry) best (offered least pos e (ray_line_intersection pos dir (vertex vs (corner ts t e)) (vertex vs (corner ts t (onward e)))) best)

-- the first k edges in order
unfoldable pub nearest_of : Float → List Float → List ℕ → ℕ → Point → Point → ℕ → ℕ → Nearest
nearest_of least vs ts t pos dir entry zero = nearest (inf false) None
nearest_of least vs ts t pos dir entry (suc e) = considered least vs ts t pos dir entry e (nearest_of least vs ts t pos dir entry e)

abbrev pub exit_edge : Float → List Float → List ℕ → ℕ → Point → Point → ℕ → Option Exit
exit_edge least vs ts t pos dir entry = (nearest_of least vs ts t pos dir entry 3).exit

-- the same of one whose distance is known by its square
abbrev pub rooted : Candidate → Nearest
rooted c = nearest (root c.square) c.exit

-- ---- the edge beyond

abbrev pub side : ℕ → ℕ → Option Side
side t e = Some (record { triangle = t; edge = e })

-- the first edge of t whose neighbour is `prev`
unfoldable pub names_back : List ℕ → ℕ → ℕ → ℕ → Option Side
names_back ns t prev e = pick (eqb (neighbour ns t e) prev) (side t e) None

unfoldable pub entry_edge : List ℕ → ℕ → ℕ → Option Side
entry_edge ns t prev = first_of (names_back ns t prev) 0 3

-- A cut edge, from a to b: the first other triangle, then the first edge, that has no neighbour and the corners reversed.
abbrev pub is_cut : List ℕ → List ℕ → ℕ → ℕ → ℕ → ℕ → Bool
is_cut ts ns a b t e = eqb (neighbour ns t e) no_neighbour && (eqb (corner ts t e) b && eqb (corner ts t (onward e)) a)

unfoldable pub cut_edge : List ℕ → List ℕ → ℕ → ℕ → ℕ → ℕ → Option Side
cut_edge ts ns a b t e = pick (is_cut ts ns a b t e) (side t e) None

unfoldable pub cut_edge_of : List ℕ → List ℕ → ℕ → ℕ → ℕ → Option Side
cut_edge_of ts ns a b t = first_of (cut_edge ts ns a b t) 0 3

unfoldable pub cut_triangle : List ℕ → List ℕ → ℕ → ℕ → ℕ → ℕ → Option Side
cut_triangle ts ns here a b t = pick (eqb t here) None (cut_edge_of ts ns a b t)

unfoldable pub cut_match : List ℕ → List ℕ → ℕ → ℕ → ℕ → Option Side
cut_match ts ns count here e = first_of (cut_triangle ts ns here (corner ts here e) (corner ts here (onward e))) 0 count
