-- The right side: a push, the pushes of a triangle, those of all triangles, and the held vertices. Assumes nothing.
use Prim.Native.Nat.{ℕ, zero, suc, ◌+◌, ◌*◌, ◌≤◌, ◌<◌}
use native.Mathlib.Omega.{arith}
use mathlib.Core.Path.{◌≡◌, refl, sym, ap, ◌∙◌}
use mathlib.Core.Bool.{Bool, true, false}
use mathlib.Core.List.{List, [], ◌∷◌, ◌++◌}
use mathlib.Core.Logic.{◌⊎◌, inl, inr}
use lib.Dec.{leb, eqb}
use lib.Ieee.{Float, nan}
use lib.ListN.{length, get_or, set, take, drop, drop_of_length-le}
use lib.Seq.{drop-cons}
use borrow.Author.Tests.{le-leb, lt-leb, ne_eqb, eqb-true, eqb-false}
use Rattle.std.specs.Prelude.{Option, Some, None}
use Rattle.std.proofs.lemmas.Option.{none-some, same_Some}
use Rattle.binary64.specs.Arith.{◌⊖◌, ◌⊗◌}
use Rattle.binary64.specs.Number.{pick}
use Rattle.binary64.specs.NumberLaws.{both}
use Rattle.laplace.specs.declared.element.Elements.{Elements}
use Rattle.laplace.specs.declared.element.Stiff.{Stiff}
use Rattle.laplace.specs.Mesh.{tag_of, free, held_value}
use Rattle.laplace.specs.Assembly.{Push, push, triangle_pushes, pushes, coupled, all_coupled, settled}
use Rattle.laplace.specs.Element.{stiff_in, triangle_of}
use Rattle.laplace.specs.Elements.{pushes_of}
use Rattle.laplace.specs.Row.{side_of}
use Rattle.laplace.specs.Right.{side_pushes, stiff_pushes, all_free, coupled_by, held_at, settled_value}
use Rattle.laplace.proofs.LawsElement.{triangle_off, triangle_pushes_lem}

-- ---- one push

-- what the value of a tag tells of it
held-none : (t : ℕ) → held_at t ≡ None → t ≡ 0
unfolding held_at
held-none t = go (eqb t 0) refl
  where
    go : (b : Bool) → eqb t 0 ≡ b → pick b None (Some (held_value t)) ≡ None → t ≡ 0
    go true e h = eqb-true t 0 e
    go false e h = absurd (none-some _ (sym h))

held-some : (t : ℕ) (x : Float) → held_at t ≡ Some x → (t ≡ 0 → ⊥) × (x ≡ held_value t)
unfolding held_at
held-some t x = go (eqb t 0) refl
  where
    go : (b : Bool) → eqb t 0 ≡ b → pick b None (Some (held_value t)) ≡ Some x → (t ≡ 0 → ⊥) × (x ≡ held_value t)
    go true e h = absurd (none-some _ h)
    go false e h = (eqb-false t 0 e, sym (same_Some _ _ h))

module _ (tags : List ℕ) (i j : ℕ) (v : Float) (rhs : List Float) where
  -- the other half of a pair
  pub coupled_above : j < i → rhs ≡ coupled_by tags (push i j v) rhs
  unfolding coupled_by
  coupled_above h = rw (lt-leb i j h)

  module _ (h : i ≤ j) where
    -- one is free and the other held
    pub coupled-row : (x : Float) → held_at (get_or tags i 0) ≡ None → held_at (get_or tags j 0) ≡ Some x → set rhs i (get_or rhs i nan ⊖ v ⊗ x) ≡ coupled_by tags (push i j v) rhs
    unfolding coupled_by free tag_of
    coupled-row x a b = let y = held-some _ _ b in rw (le-leb i j h, held-none _ a, ne_eqb (get_or tags j 0) 0 y.0, y.1)

    pub coupled-col : (x : Float) → held_at (get_or tags i 0) ≡ Some x → held_at (get_or tags j 0) ≡ None → set rhs j (get_or rhs j nan ⊖ v ⊗ x) ≡ coupled_by tags (push i j v) rhs
    unfolding coupled_by free tag_of
    coupled-col x a b = let y = held-some _ _ a in rw (le-leb i j h, ne_eqb (get_or tags i 0) 0 y.0, held-none _ b, y.1)

    -- both are free, or both held
    pub coupled-free : held_at (get_or tags i 0) ≡ None → held_at (get_or tags j 0) ≡ None → rhs ≡ coupled_by tags (push i j v) rhs
    unfolding coupled_by free tag_of
    coupled-free a b = rw (le-leb i j h, held-none _ a, held-none _ b)

    pub coupled-held : (x y : Float) → held_at (get_or tags i 0) ≡ Some x → held_at (get_or tags j 0) ≡ Some y → rhs ≡ coupled_by tags (push i j v) rhs
    unfolding coupled_by free tag_of
    coupled-held x y a b = rw (le-leb i j h, ne_eqb (get_or tags i 0) 0 (held-some _ _ a).0, ne_eqb (get_or tags j 0) 0 (held-some _ _ b).0)

-- ---- several pushes

all_append : (tags : List ℕ) (ps qs : List Push) (rhs : List Float) → all_coupled held_value tags (ps ++ qs) rhs ≡ all_coupled held_value tags qs (all_coupled held_value tags ps rhs)
unfolding all_coupled
all_append tags [] qs rhs = refl
all_append tags (p ∷ ps) qs rhs = all_append tags ps qs (coupled held_value tags p rhs)

-- those of a side, of which some are left
pub side_again : (tags : List ℕ) (v : ℕ) (q : List ℕ) (s : List Float) (rhs : List Float) (j : ℕ) (x : Float) (q' : List ℕ) (s' : List Float) → q ≡ j ∷ q' → s ≡ x ∷ s'
    → all_coupled held_value tags (side_pushes v q' s') (coupled_by tags (push v j x) rhs) ≡ all_coupled held_value tags (side_pushes v q s) rhs
unfolding all_coupled coupled_by side_pushes
side_again tags v q s rhs j x q' s' e f = rw (e, f) refl

pub side_done : (tags : List ℕ) (v : ℕ) (q : List ℕ) (s : List Float) (rhs : List Float) → (length q ≡ 0) ⊎ (length s ≡ 0) → all_coupled held_value tags (side_pushes v q s) rhs ≡ rhs
unfolding all_coupled side_pushes
side_done tags v [] s rhs h = refl
side_done tags v (j ∷ q) [] rhs h = refl
side_done tags v (j ∷ q) (x ∷ s) rhs (inl h) = absurd (omega arith)
side_done tags v (j ∷ q) (x ∷ s) rhs (inr h) = absurd (omega arith)

-- those of the sides of a triangle from corner e on, which are the vertices vs
unfoldable pub sides_from : List ℕ → Stiff → ℕ → List ℕ → List Push
sides_from q s e [] = []
sides_from q s e (v ∷ vs) = side_pushes v q (side_of s e) ++ sides_from q s (suc e) vs

module _ (tags q : List ℕ) (s : Stiff) (rhs : List Float) where
  -- the nine of the triangle
  pub sides_all : length q ≡ 3 → all_coupled held_value tags (sides_from q s 0 (drop 0 q)) rhs ≡ all_coupled held_value tags (stiff_pushes q (Some s)) rhs
  unfolding sides_from side_pushes side_of stiff_pushes
  sides_all h = go q h
    where
      go : (l : List ℕ) → length l ≡ 3 → all_coupled held_value tags (sides_from l s 0 l) rhs ≡ all_coupled held_value tags (stiff_pushes l (Some s)) rhs
      go [] e = absurd (omega arith)
      go (i ∷ []) e = absurd (omega arith)
      go (i ∷ j ∷ []) e = absurd (omega arith)
      go (i ∷ j ∷ k ∷ []) e = refl
      go (i ∷ j ∷ k ∷ x ∷ l) e = absurd (omega arith)

  pub sides_again : (e : ℕ) → e < length q
      → all_coupled held_value tags (sides_from q s (suc e) (drop (suc e) q)) (all_coupled held_value tags (side_pushes (get_or q e 0) q (side_of s e)) rhs)
      ≡ all_coupled held_value tags (sides_from q s e (drop e q)) rhs
  unfolding sides_from
  sides_again e h = rw (drop-cons q e 0 h) (sym (all_append tags (side_pushes (get_or q e 0) q (side_of s e)) (sides_from q s (suc e) (drop (suc e) q)) rhs))

  pub sides_done : (e : ℕ) → length q ≤ e → all_coupled held_value tags (sides_from q s e (drop e q)) rhs ≡ rhs
  unfolding sides_from all_coupled
  sides_done e h = rw (drop_of_length-le q {i = e} h) refl

pub skipped_coupled : (tags : List ℕ) (q : List ℕ) (rhs : List Float) → rhs ≡ all_coupled held_value tags (stiff_pushes q None) rhs
unfolding stiff_pushes all_coupled
skipped_coupled tags q rhs = refl

-- ---- a triangle whose corners are free

module _ (tags : List ℕ) where
  free_both : (p : Push) (rhs : List Float) → free tags p.row ≡ true → free tags p.col ≡ true → coupled held_value tags p rhs ≡ rhs
  free_both p rhs a b = rw (a, b) (same (leb p.row p.col))
    where
      same : (t : Bool) → pick t rhs rhs ≡ rhs
      same true = refl
      same false = refl

  free_on : (p : Push) (ps : List Push) (rhs : List Float) → free tags p.row ≡ true → free tags p.col ≡ true → all_coupled held_value tags (p ∷ ps) rhs ≡ all_coupled held_value tags ps rhs
  unfolding all_coupled
  free_on p ps rhs a b = ap (all_coupled held_value tags ps) (free_both p rhs a b)

  free_none : (rhs : List Float) → all_coupled held_value tags [] rhs ≡ rhs
  unfolding all_coupled
  free_none rhs = refl

  free-nine : (q : List ℕ) (o : Option Stiff) (rhs : List Float) → free tags (get_or q 0 0) ≡ true → free tags (get_or q 1 0) ≡ true → free tags (get_or q 2 0) ≡ true → all_coupled held_value tags (stiff_pushes q o) rhs ≡ rhs
  unfolding stiff_pushes
  free-nine q None rhs i j k = free_none rhs
  free-nine q (Some s) rhs i j k =
      free_on _ _ rhs i i ∙ free_on _ _ rhs i j ∙ free_on _ _ rhs i k ∙ free_on _ _ rhs j i ∙ free_on _ _ rhs j j ∙ free_on _ _ rhs j k ∙ free_on _ _ rhs k i ∙ free_on _ _ rhs k j ∙ free_on _ _ rhs k k ∙ free_none rhs

pub free-coupled : (tags : List ℕ) (q : List ℕ) (o : Option Stiff) (rhs : List Float) → all_free tags q ≡ true → rhs ≡ all_coupled held_value tags (stiff_pushes q o) rhs
unfolding all_free
free-coupled tags q o rhs y =
    let b = both _ _ y in
    let a = both _ _ b.0 in
    sym (free-nine tags q o rhs a.0 a.1 b.1)

-- ---- all triangles

-- after i of them
pub record Coupling (m : Elements) (rhs₀ rhs : List Float) (i : ℕ) : Type 0 where
  pub within : 3 * i ≤ length m.triangles.now
  pub rest : all_coupled held_value m.tags.now (pushes m.flat m.vertices.now (drop (3 * i) m.triangles.now)) rhs ≡ all_coupled held_value m.tags.now (pushes_of m) rhs₀

pub coupling_again : (m : Elements) (rhs₀ rhs : List Float) (i : ℕ) → Coupling m rhs₀ rhs i → 3 * i + 2 < length m.triangles.now → (q : List ℕ) → q ≡ triangle_of m.triangles.now i
    → Coupling m rhs₀ (all_coupled held_value m.tags.now (stiff_pushes q (stiff_in m.flat m.vertices.now q)) rhs) (i + 1)
unfolding pushes triangle_of
coupling_again m rhs₀ rhs i s h q eq =
    let tags = m.tags.now in
    let vs = m.vertices.now in
    let ts = m.triangles.now in
    let t = triangle_of ts i in
    let rest = pushes m.flat vs (drop (3 * (i + 1)) ts) in
    let e : all_coupled held_value tags (pushes m.flat vs (drop (3 * i) ts)) rhs ≡ all_coupled held_value tags rest (all_coupled held_value tags (stiff_pushes t (stiff_in m.flat vs t)) rhs) =
    ap (λ (l : List ℕ). all_coupled held_value tags (pushes m.flat vs l) rhs) (triangle_off ts i h) ∙ all_append tags (triangle_pushes m.flat vs (get_or t 0 0) (get_or t 1 0) (get_or t 2 0)) rest rhs
    ∙ ap (λ (l : List Push). all_coupled held_value tags rest (all_coupled held_value tags l rhs)) (triangle_pushes_lem m.flat vs t) in
    rw eq record { within = omega arith; rest = sym e ∙ s.rest }

pub coupling_done : (m : Elements) (rhs₀ rhs : List Float) (i : ℕ) → length m.triangles.now ≤ 3 * i → Coupling m rhs₀ rhs i → rhs ≡ all_coupled held_value m.tags.now (pushes_of m) rhs₀
unfolding pushes all_coupled
coupling_done m rhs₀ rhs i e s =
    let d : drop (3 * i) m.triangles.now ≡ [] = drop_of_length-le m.triangles.now {i = 3 * i} e in
    rw d at s.rest

-- ---- held vertices

-- the first i of them
pub settle_again : (tags : List ℕ) (rhs : List Float) (i : ℕ) → i < length tags → i < length rhs
    → set (settled held_value (take i tags) rhs) i (settled_value (get_or tags i 0) (get_or (settled held_value (take i tags) rhs) i nan)) ≡ settled held_value (take (suc i) tags) rhs
unfolding settled settled_value
settle_again [] rhs i h g = absurd (omega arith)
settle_again (t ∷ ts) [] i h g = absurd (omega arith)
settle_again (t ∷ ts) (y ∷ ys) zero h g = refl
settle_again (t ∷ ts) (y ∷ ys) (suc i) h g = ap (λ (l : List Float). pick (eqb t 0) y (held_value t) ∷ l) (settle_again ts ys i (omega arith) (omega arith))
