-- Laws of one pass on sizes and ranges: the vectors' and gradients' lengths, the points and the path, and the triangle that a crossing leads into. Assumes nothing.
use Rattle.std.specs.Prelude.{is_some, ℕ, zero, suc, ◌+◌, ◌*◌, ◌/◌, ◌≤◌, ◌<◌, ◌≡◌, refl, Bool, true, false, ◌&&◌, eqb, leb, length, get_or, replicate, Float, Option, Some, None}
use Rattle.std.proofs.Common.{arith, add-one, sym, ap, ◌∙◌, ⊎_elim, length-append, length-set}
use Rattle.std.proofs.lemmas.Bool.{false≢true}
use mathlib.Core.List.{List, [], ◌∷◌, ◌++◌, zip_with}
use Rattle.std.proofs.lemmas.List.{length-replicate}
use Rattle.std.specs.Float.{binary64}
use Rattle.std.specs.Float.Ieee.{sub, lt}
use Rattle.binary64.specs.Arith.{◌⊘◌}
use Rattle.binary64.specs.Constants.{plus_zero}
use Rattle.binary64.specs.Number.{pick, abs_of}
use Rattle.binary64.specs.Root.{root}
use Rattle.plane.specs.declared.Point.{Point}
use Rattle.stretch.specs.Vec.{dot, plus, less}
use Rattle.stretch.proofs.VecLaws.{length_zip}
use Rattle.sparse.specs.Sparse.{Entry, mat_vec}
use Rattle.sparse.specs.ProductLaws.{length-mat_vec}
use Rattle.mesh.specs.Mesh.{neighbour, no_neighbour, free, held}
use Rattle.mesh.specs.Element.{flat}
use Rattle.laplace.specs.Assembly.{Push, pushes, rows, lowered, coupled, all_coupled, settled, right_side}
use Rattle.conjugate.specs.Solver as Solver
use Rattle.conjugate.specs.Solver.{Solve, Turn, halted, reached, moved, begun}
use Rattle.gradient.specs.Gradient.{gradients}
use Rattle.pde.specs.Bounds.{Neighbouring, crossing_in_lem}
use Rattle.pde.specs.PathLaws.{Stands, walked_more, walked-most, walked_stands}
use Rattle.format.specs.Content.{Content, max_limit, max_room, default_limit, whole_or}
use Rattle.format.specs.Range.{InRange, IfGiven, Between}
use Rattle.model.specs.Task.{Task, vertex_count, triangle_count, task_of, task}
use Rattle.model.specs.Space.{factor}
use Rattle.model.specs.Run.{Field, Trail, rule, matrix_of, right_of, solved, solving, crossed, crossing_pass}
use Rattle.model.specs.Sized.{Sized, Vectors}

-- ---- what every accepted sheet has

room_given_lem : (w : Option ℕ) → is_some w ≡ true → IfGiven (Between 1 max_room) w → Between 1 max_room (whole_or 0 w)
room_given_lem None h k = absurd (false≢true h)
room_given_lem (Some v) h k = k

limit_given : (default : ℕ) → default ≤ max_limit → (w : Option ℕ) → IfGiven (Between 0 max_limit) w → whole_or default w ≤ max_limit
limit_given default d None k = d
limit_given default d (Some v) k = k.greatest

pub sized_of : (default : ℕ) → default ≤ max_limit → (c : Content) → InRange c → Sized (task_of default c)
unfolding task_of
sized_of default d c h =
    let r : Between 1 max_room (whole_or 0 c.settings.room) = room_given_lem c.settings.room h.room_given h.room in
    record {
      vertices = h.pairs;
      triangles = h.triples;
      neighbours = h.edges;
      tags = h.tagged;
      corners = h.corners;
      in_range = h.neighbours;
      vertices_most = h.vertices;
      triangles_most = h.triangles;
      limit-most = limit_given default d c.settings.limit h.limit;
      room = r.least;
      room_most = r.greatest;
    }

pub sized : (c : Content) → InRange c → Sized (task c)
sized c h = sized_of default_limit (omega arith) c h

-- ---- the vectors

pub length-rows : (tags : List ℕ) (ps : List Push) (n : ℕ) → length (rows tags ps n) ≡ n
unfolding rows
length-rows tags ps zero = refl
length-rows tags ps (suc n) = rw (length-append, length-rows tags ps n) (add-one n)

length-coupled : (value : ℕ → Float) (tags : List ℕ) (p : Push) (rhs : List Float) → length (coupled value tags p rhs) ≡ length rhs
length-coupled value tags p rhs = go (leb p.row p.col) (held tags p.row && free tags p.col) (free tags p.row && held tags p.col)
  where
    go : (a b d : Bool) → length (pick a (pick b (lowered value tags p.col p.row p.value rhs) (pick d (lowered value tags p.row p.col p.value rhs) rhs)) rhs) ≡ length rhs
    go false b d = refl
    go true true d = length-set rhs p.col _
    go true false true = length-set rhs p.row _
    go true false false = refl

length-all_coupled : (value : ℕ → Float) (tags : List ℕ) (ps : List Push) (rhs : List Float) → length (all_coupled value tags ps rhs) ≡ length rhs
unfolding all_coupled
length-all_coupled value tags [] rhs = refl
length-all_coupled value tags (p ∷ ps) rhs = length-all_coupled value tags ps (coupled value tags p rhs) ∙ length-coupled value tags p rhs

length-settled : (value : ℕ → Float) (tags : List ℕ) (rhs : List Float) → length (settled value tags rhs) ≡ length rhs
unfolding settled
length-settled value [] rhs = refl
length-settled value (t ∷ ts) [] = refl
length-settled value (t ∷ ts) (y ∷ ys) = ap suc (length-settled value ts ys)

pub matrix-length : (c : Task) → length (matrix_of c) ≡ vertex_count c
unfolding matrix_of
matrix-length c = length-rows c.tags (pushes flat c.vertices c.triangles) (vertex_count c)

pub right_length : (c : Task) → length (right_of c) ≡ vertex_count c
unfolding right_of right_side
right_length c =
    length-settled c.held c.tags _
    ∙ length-all_coupled c.held c.tags (pushes flat c.vertices c.triangles) (replicate (vertex_count c) plus_zero)
    ∙ length-replicate (vertex_count c) plus_zero

zipped : (f : Float → Float → Float) (us vs : List Float) (n : ℕ) → length us ≡ n → length vs ≡ n → length (zip_with f us vs) ≡ n
zipped f us vs n h k = length_zip f us vs (h ∙ sym k) ∙ h

pub begun_vectors : (a : List (List Entry)) (b : List Float) (n : ℕ) → length a ≡ n → length b ≡ n → Vectors n (begun a b)
unfolding begun
begun_vectors a b n h k = record { x = length-replicate (length b) plus_zero ∙ k; r = residual; p = residual }
  where
    residual : length (zip_with (sub binary64) b (mat_vec a (replicate (length b) plus_zero))) ≡ n
    residual = zipped (sub binary64) b (mat_vec a (replicate (length b) plus_zero)) n k (length-mat_vec a _ ∙ h)

-- what a pass hands on has n places
abbrev Handed : ℕ → Turn → Type 0
Handed n halted = Unit {0}
Handed n (reached x r norm) = (length x ≡ n) × (length r ≡ n)
Handed n (moved s norm) = Vectors n s

handed : (n : ℕ) (tiny : Float) (a : List (List Entry)) (tolerance : Float) (s : Solve) → length a ≡ n → Vectors n s → Handed n (Solver.pass tiny a tolerance s)
unfolding Solver.pass
handed n tiny a tolerance s e v = go (lt (abs_of pap) tiny) (lt (root (dot r r)) tolerance)
  where
    q : List Float
    q = mat_vec a s.p

    pap : Float
    pap = dot s.p q

    x : List Float
    x = zip_with (plus (s.rs ⊘ pap)) s.x s.p

    r : List Float
    r = zip_with (less (s.rs ⊘ pap)) s.r q

    long_x : length x ≡ n
    long_x = zipped (plus (s.rs ⊘ pap)) s.x s.p n v.x v.p

    long_r : length r ≡ n
    long_r = zipped (less (s.rs ⊘ pap)) s.r q n v.r (length-mat_vec a s.p ∙ e)

    next : Solve
    next = record { x = x; r = r; p = zip_with (plus (dot r r ⊘ s.rs)) r s.p; rs = dot r r }

    go : (t u : Bool) → Handed n (pick t halted (pick u (reached x r (root (dot r r))) (moved next (root (dot r r)))))
    go true u = tt
    go false true = (long_x, long_r)
    go false false = record { x = long_x; r = long_r; p = zipped (plus (dot r r ⊘ s.rs)) r s.p n long_r v.p }

solved_vectors : (n limit : ℕ) (f : Field) (t : Turn) → Vectors n f.solve → Handed n t → Vectors n (solved limit f t).solve
unfolding solved
solved_vectors n limit f halted v h = v
solved_vectors n limit f (reached x r norm) v h = record { x = h.0; r = h.1; p = v.p }
solved_vectors n limit f (moved s norm) v h = h

pub solving_vectors : (c : Task) (f : Field) → Vectors (vertex_count c) f.solve → Vectors (vertex_count c) (solving c f).solve
unfolding solving
solving_vectors c f v =
    solved_vectors (vertex_count c) c.limit f (Solver.pass flat (matrix_of c) c.tolerance f.solve) v
    (handed (vertex_count c) flat (matrix_of c) c.tolerance f.solve (matrix-length c) v)

-- ---- the gradients

pub gradients-length : (vs us : List Float) (ts : List ℕ) → length (gradients flat vs us ts) ≡ 2 * (length ts / 3)
unfolding gradients
gradients-length vs us [] = refl
gradients-length vs us (i ∷ []) = refl
gradients-length vs us (i ∷ j ∷ []) = refl
gradients-length vs us (i ∷ j ∷ k ∷ ts) = omega (arith, gradients-length vs us ts)

-- ---- the points

pub crossing_path_length : (c : Task) (us : List Float) (t : Trail) → length t.path ≡ t.walk.points → length (crossing_pass c us t).path ≡ (crossing_pass c us t).walk.points
unfolding crossing_pass crossed
crossing_path_length c us t h = rw (length-append, h) (walked_more c.room (eqb (t.crossings + 1) (factor * triangle_count c)) t.walk _)

pub crossing_room : (c : Task) (us : List Float) (t : Trail) → t.walk.points ≤ c.room → (crossing_pass c us t).walk.points ≤ c.room
unfolding crossing_pass crossed
crossing_room c us t h = walked-most c.room (eqb (t.crossings + 1) (factor * triangle_count c)) t.walk _ h

-- ---- the triangle that a crossing leads into

neighbouring : (c : Task) → Sized c → Neighbouring c.neighbours (triangle_count c)
unfolding neighbour
neighbouring c s t e h k n =
    let next = get_or c.neighbours (3 * t + e) 0 in
    ⊎_elim (λ (z : next ≡ no_neighbour). absurd (n z)) (λ (z : next < triangle_count c). z) (s.in_range (3 * t + e) (omega (arith, s.neighbours)))

pub crossing_walk : (c : Task) → Sized c → (us : List Float) (t : Trail) → Stands (triangle_count c) t.walk → Stands (triangle_count c) (crossing_pass c us t).walk
unfolding crossing_pass crossed
crossing_walk c s us t h =
    walked_stands c.room (eqb (t.crossings + 1) (factor * triangle_count c)) (triangle_count c) t.walk _
    (crossing_in_lem rule c.vertices c.triangles c.neighbours (triangle_count c) us (neighbouring c s) t.gradients c.step t.walk.position t.walk.triangle t.walk.edge h.triangle_below) h

-- the path after a crossing begins with the path before it
pub crossing_path : (c : Task) (us : List Float) (t : Trail) → (more : List Point) × ((crossing_pass c us t).path ≡ t.path ++ more)
unfolding crossing_pass crossed
crossing_path c us t = (_, refl)

pub crossing-gradients : (c : Task) (us : List Float) (t : Trail) → (crossing_pass c us t).gradients ≡ t.gradients
unfolding crossing_pass crossed
crossing-gradients c us t = refl
