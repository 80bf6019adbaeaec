-- Where an answer points: its triangle is below the count and its edge below 3; and how far an exit is. Definitions, and the laws that the searches' answers are so. Assumes nothing.
use Rattle.std.specs.Prelude.{◌≡◌, refl, Bool, true, false, ◌&&◌, Option, Some, None, IfSome, Ok, Err, IfOk, ok_or, List, ℕ, zero, suc, ◌+◌, ◌≤◌, ◌<◌, eqb, Float}
use Rattle.std.proofs.Common.{subst, arith}
use Rattle.std.proofs.lemmas.Bool.{eqb-false}
use Rattle.std.specs.Float.Ieee.{lt}
use Rattle.binary64.specs.Number.{pick}
use Rattle.plane.specs.declared.Point.{Point}
use Rattle.plane.specs.Plane.{ray_line_intersection}
use Rattle.mesh.specs.Mesh.{vertex, corner, neighbour, no_neighbour, onward}
use Rattle.pde.specs.Search.{or_else, first_of}
use Rattle.pde.specs.declared.Exit.{Exit}
use Rattle.pde.specs.declared.Side.{Side}
use Rattle.pde.specs.declared.Barrier.{Barrier}
use Rattle.pde.specs.declared.Halt.{Halt}
use Rattle.pde.specs.declared.Rule.{Rule}
use Rattle.pde.specs.declared.Entry.{Entry}
use Rattle.pde.specs.Outcome.{Beyond, Crossing}
use Rattle.pde.specs.Start.{no_edge, entry, contains, contained_in, triangle_containing, is_inner, middle, inner_edge, inner_edge_of, first_inner, least_vertex, has, centroid, centroid_with, first_with, pick_start}
use Rattle.pde.specs.Exit.{Nearest, distance, exit_at, side, is_cut, offered, considered, nearest_of, exit_edge, names_back, entry_edge, cut_edge, cut_edge_of, cut_triangle, cut_match, nearest}
use Rattle.pde.specs.Crossing.{gradient_at, magnitude, direction, value_in, entering, entered, beyond, left, crossing_along, crossing}

-- ---- where an answer points

abbrev pub SideIn : ℕ → Option Side → Type 0
SideIn n s = IfSome s (λ x. (x.triangle < n) × (x.edge < 3))

abbrev pub StartIn : ℕ → Option Entry → Type 0
StartIn n s = IfSome s (λ x. (x.triangle < n) × (x.edge ≤ 3))

abbrev pub ExitIn : Option Exit → Type 0
ExitIn s = IfSome s (λ x. x.edge < 3)

abbrev pub BeyondIn : ℕ → Beyond → Type 0
BeyondIn n b = IfOk b (λ s. (s.triangle < n) × (s.edge < 3))

abbrev pub CrossingIn : ℕ → Crossing → Type 0
CrossingIn n c = IfOk c (λ l. BeyondIn n l.beyond)

-- what a match on such an answer tells
pub some_in : {A : Type 0} (P : A → Type 0) {o : Option A} {a : A} → IfSome o P → o ≡ Some a → P a
some_in {A} P h p = subst (λ (o : Option A). IfSome o P) p h

-- ---- of a pick, and of a search

pick_in : {A : Type 0} (P : A → Type 0) (t : Bool) (a b : A) → (t ≡ true → P a) → (t ≡ false → P b) → P (pick t a b)
pick_in P true a b p q = p refl
pick_in P false a b p q = q refl

or_in : {A : Type 0} (P : A → Type 0) (a b : Option A) → IfSome a P → IfSome b P → IfSome (or_else a b) P
or_in P (Some a) b h k = h
or_in P None b h k = k

first_in : {A : Type 0} (P : A → Type 0) (f : ℕ → Option A) (i k : ℕ) → ((j : ℕ) → j < i + k → IfSome (f j) P) → IfSome (first_of f i k) P
unfolding first_of
first_in P f i zero each = tt
first_in P f i (suc k) each = or_in P (f i) (first_of f (suc i) k) (each i (omega arith)) (first_in P f (suc i) k (λ j h. each j (omega arith)))

-- ---- the start

start_in : (n : ℕ) (f : ℕ → Option Entry) (k : ℕ) → ((j : ℕ) → j < k → StartIn n (f j)) → StartIn n (first_of f 0 k)
start_in n f k each = first_in (λ x. (x.triangle < n) × (x.edge ≤ 3)) f 0 k (λ j h. each j (omega arith))

pub containing_in : (vs : List Float) (ts : List ℕ) (n : ℕ) (p : Point) → StartIn n (triangle_containing vs ts n p)
unfolding triangle_containing contained_in
containing_in vs ts n p =
    start_in n (contained_in vs ts p) n (λ t h. pick_in (StartIn n) (contains vs ts p t) (entry p t no_edge) None (λ _. (h, omega arith)) (λ _. tt))

inner_in : (vs : List Float) (ts ns tags : List ℕ) (n t : ℕ) → t < n → StartIn n (inner_edge_of vs ts ns tags t)
unfolding inner_edge_of inner_edge
inner_in vs ts ns tags n t h =
    start_in n (inner_edge vs ts ns tags t) 3 (λ e k. pick_in (StartIn n) (is_inner ts ns tags t e) (entry (middle vs ts t e) t e) None (λ _. (h, omega arith)) (λ _. tt))

with_in : (vs : List Float) (ts : List ℕ) (n v : ℕ) → StartIn n (first_with vs ts n v)
unfolding first_with centroid_with
with_in vs ts n v =
    start_in n (centroid_with vs ts v) n (λ t h. pick_in (StartIn n) (has ts v t) (entry (centroid vs ts t) t no_edge) None (λ _. (h, omega arith)) (λ _. tt))

pub pick_start_in : (vs : List Float) (ts ns tags : List ℕ) (n : ℕ) (us : List Float) → StartIn n (pick_start vs ts ns tags n us)
unfolding pick_start first_inner
pick_start_in vs ts ns tags n us =
    or_in (λ x. (x.triangle < n) × (x.edge ≤ 3)) (first_inner vs ts ns tags n) _ (start_in n (inner_edge_of vs ts ns tags) n (λ t h. inner_in vs ts ns tags n t h)) (with_in vs ts n (least_vertex us))

-- ---- the exit

offered_in : (least : Float) (pos : Point) (e : ℕ) (hit : Option Point) (best : Nearest) → e < 3 → ExitIn best.exit → ExitIn (offered least pos e hit best).exit
offered_in least pos e (Some p) best h b =
    let d = distance pos p in
    pick_in (λ (n : Nearest). ExitIn n.exit) (lt least d && lt d best.far) (nearest d (exit_at e p)) best (λ _. h) (λ _. b)
offered_in least pos e None best h b = b

considered_in : (least : Float) (vs : List Float) (ts : List ℕ) (t : ℕ) (pos dir : Point) (entry e : ℕ) (best : Nearest) → e < 3 → ExitIn best.exit → ExitIn (considered least vs ts t pos dir entry e best).exit
unfolding considered
considered_in least vs ts t pos dir entry e best h b =
    let hit = ray_line_intersection pos dir (vertex vs (corner ts t e)) (vertex vs (corner ts t (onward e))) in
    pick_in (λ (n : Nearest). ExitIn n.exit) (eqb e entry) best (offered least pos e hit best) (λ _. b) (λ _. offered_in least pos e hit best h b)

nearest_in : (least : Float) (vs : List Float) (ts : List ℕ) (t : ℕ) (pos dir : Point) (entry k : ℕ) → k ≤ 3 → ExitIn (nearest_of least vs ts t pos dir entry k).exit
unfolding nearest_of
nearest_in least vs ts t pos dir entry zero h = tt
nearest_in least vs ts t pos dir entry (suc e) h = considered_in least vs ts t pos dir entry e _ (omega arith) (nearest_in least vs ts t pos dir entry e (omega arith))

pub exit_in : (least : Float) (vs : List Float) (ts : List ℕ) (t : ℕ) (pos dir : Point) (entry : ℕ) → ExitIn (exit_edge least vs ts t pos dir entry)
exit_in least vs ts t pos dir entry = nearest_in least vs ts t pos dir entry 3 (omega arith)

-- how far the nearest exit is
abbrev FarFrom : Point → Option Exit → Float → Type 0
FarFrom pos s d = IfSome s (λ x. d ≡ distance pos x.point)

offered-far : (least : Float) (pos : Point) (e : ℕ) (hit : Option Point) (best : Nearest) → FarFrom pos best.exit best.far → FarFrom pos (offered least pos e hit best).exit (offered least pos e hit best).far
offered-far least pos e (Some p) best b =
    let d = distance pos p in
    pick_in (λ (n : Nearest). FarFrom pos n.exit n.far) (lt least d && lt d best.far) (nearest d (exit_at e p)) best (λ _. refl) (λ _. b)
offered-far least pos e None best b = b

nearest-far : (least : Float) (vs : List Float) (ts : List ℕ) (t : ℕ) (pos dir : Point) (entry k : ℕ) → FarFrom pos (nearest_of least vs ts t pos dir entry k).exit (nearest_of least vs ts t pos dir entry k).far
unfolding nearest_of considered
nearest-far least vs ts t pos dir entry zero = tt
nearest-far least vs ts t pos dir entry (suc e) =
    let best = nearest_of least vs ts t pos dir entry e in
    let hit = ray_line_intersection pos dir (vertex vs (corner ts t e)) (vertex vs (corner ts t (onward e))) in
    let b : FarFrom pos best.exit best.far = nearest-far least vs ts t pos dir entry e in
    pick_in (λ (n : Nearest). FarFrom pos n.exit n.far) (eqb e entry) best (offered least pos e hit best) (λ _. b) (λ _. offered-far least pos e hit best b)

pub exit_far : (least : Float) (vs : List Float) (ts : List ℕ) (t : ℕ) (pos dir : Point) (entry k : ℕ) {x : Exit} → (nearest_of least vs ts t pos dir entry k).exit ≡ Some x → (nearest_of least vs ts t pos dir entry k).far ≡ distance pos x.point
exit_far least vs ts t pos dir entry k h = subst (λ (x : Option Exit). FarFrom pos x (nearest_of least vs ts t pos dir entry k).far) h (nearest-far least vs ts t pos dir entry k)

-- ---- the edge beyond

side_in : (n : ℕ) (f : ℕ → Option Side) (k : ℕ) → ((j : ℕ) → j < k → SideIn n (f j)) → SideIn n (first_of f 0 k)
side_in n f k each = first_in (λ x. (x.triangle < n) × (x.edge < 3)) f 0 k (λ j h. each j (omega arith))

pub entry_in : (ns : List ℕ) (n t prev : ℕ) → t < n → SideIn n (entry_edge ns t prev)
unfolding entry_edge names_back
entry_in ns n t prev h = side_in n (names_back ns t prev) 3 (λ e k. pick_in (SideIn n) (eqb (neighbour ns t e) prev) (side t e) None (λ _. (h, k)) (λ _. tt))

cut_edge_in : (ts ns : List ℕ) (a b n t e : ℕ) → t < n → e < 3 → SideIn n (cut_edge ts ns a b t e)
unfolding cut_edge
cut_edge_in ts ns a b n t e h k = pick_in (SideIn n) (is_cut ts ns a b t e) (side t e) None (λ _. (h, k)) (λ _. tt)

cut_triangle_in : (ts ns : List ℕ) (here a b n t : ℕ) → t < n → SideIn n (cut_triangle ts ns here a b t)
unfolding cut_triangle cut_edge_of
cut_triangle_in ts ns here a b n t h =
    pick_in (SideIn n) (eqb t here) None _ (λ _. tt) (λ _. side_in n (cut_edge ts ns a b t) 3 (λ e k. cut_edge_in ts ns a b n t e h k))

pub cut_in : (ts ns : List ℕ) (n here e : ℕ) → SideIn n (cut_match ts ns n here e)
unfolding cut_match
cut_in ts ns n here e = side_in n _ n (λ t h. cut_triangle_in ts ns here _ _ n t h)

-- ---- a crossing

entering_in : (n : ℕ) (above : Float) (vs : List Float) (ts : List ℕ) (us : List Float) (p : Point) (s : Option Side) (other : Barrier) → SideIn n s → BeyondIn n (entering above vs ts us p s other)
unfolding entering
entering_in n above vs ts us p (Some s) other h = pick_in (BeyondIn n) (lt above (value_in vs ts us s.triangle p)) (Err Barrier.Above) (Ok s) (λ _. tt) (λ _. h)
entering_in n above vs ts us p None other h = tt

-- a side, or what is said where there is none
pub ok_in : (n : ℕ) (s : Option Side) (other : Barrier) → SideIn n s → BeyondIn n (ok_or s other)
ok_in n (Some s) other h = h
ok_in n None other h = tt

-- each neighbour is one of the n triangles, or none
abbrev pub Neighbouring : List ℕ → ℕ → Type 0
Neighbouring ns n = (t e : ℕ) → t < n → e < 3 → (neighbour ns t e ≡ no_neighbour → ⊥) → neighbour ns t e < n

pub entered_in : (ts ns : List ℕ) (n : ℕ) → Neighbouring ns n → (t e : ℕ) → t < n → e < 3 → SideIn n (entered ts ns n t e)
unfolding entered
entered_in ts ns n inside t e h k = pick_in (SideIn n) (eqb (neighbour ns t e) no_neighbour) _ _ (λ _. cut_in ts ns n t e) (λ f. entry_in ns n _ t (inside t e h k (eqb-false _ _ f)))

module _ (rule : Rule) (vs : List Float) (ts ns : List ℕ) (n : ℕ) (us : List Float) (inside : Neighbouring ns n) where
  left_in : (pos : Point) (t : ℕ) (exit : Option Exit) → t < n → ExitIn exit → CrossingIn n (left rule vs ts ns n us pos t exit)
  unfolding beyond
  left_in pos t (Some x) h k = entering_in n rule.above vs ts us x.point _ _ (entered_in ts ns n inside t x.edge h k)
  left_in pos t None h k = tt

  pub along_in : (g : Point) (step : Float) (pos : Point) (t entry : ℕ) → t < n → CrossingIn n (crossing_along rule vs ts ns n us g step pos t entry)
  unfolding crossing_along
  along_in g step pos t entry h =
      let mag = magnitude g in
      let exit = exit_edge rule.dull vs ts t pos (direction step g mag) entry in
      pick_in (CrossingIn n) (lt mag rule.dull) (Err Halt.Dull) (left rule vs ts ns n us pos t exit) (λ _. tt) (λ _. left_in pos t exit h (exit_in rule.dull vs ts t pos _ entry))

  pub crossing_in_lem : (gs : List Float) (step : Float) (pos : Point) (t entry : ℕ) → t < n → CrossingIn n (crossing rule vs ts ns n us gs step pos t entry)
  unfolding crossing
  crossing_in_lem gs step pos t entry h = along_in (gradient_at gs t) step pos t entry h
