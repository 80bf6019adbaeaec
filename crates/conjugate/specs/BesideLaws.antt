-- What a pass on vectors in a buffer of their own leaves there: the vectors of the definition. Assumes nothing.
use Rattle.std.specs.Prelude.{◌≡◌, refl, List, ◌++◌, ℕ, ◌+◌, ◌*◌, ◌≤◌, length, take, drop, Float}
use Rattle.std.proofs.Math.Seq.{drop-drop}
use Rattle.std.proofs.Common.{sym, ap, ◌∙◌, arith, zero-add, append_assoc, length-append}
use Rattle.stretch.specs.Stretch.{part, splice}
use Rattle.stretch.specs.StretchLaws.{length_part, length-splice, splice_is, splice_part, part_splice-before, part_splice-after, part_splice-same}
use Rattle.sparse.specs.Sparse.{Entry}
use Rattle.sparse.specs.Stored.{CsrAt, matrix}
use Rattle.conjugate.specs.declared.Pass.{Pass}
use Rattle.sparse.specs.ProductLaws.{length-rows_of}
use Rattle.conjugate.specs.Solver.{Solve, Turn, halted, reached, moved, pass}
use Rattle.conjugate.specs.SolverLaws.{Long, after, after_long}
use Rattle.conjugate.specs.Passes.{solve, Leaves, Passes}
use Rattle.conjugate.specs.PlacedLaws.{splice-splice_next, first_split, second_split, third_split}
use Rattle.conjugate.specs.Beside.{vectors_of, left_by, turn_beside, PassedBeside}

-- the vectors of u, one after the other
pub record Vectored (l : List Float) (n : ℕ) (u : Solve) : Type 0 where
  pub x_is : part l 0 n ≡ u.x
  pub r_is : part l n n ≡ u.r
  pub p_is : part l (2 * n) n ≡ u.p

pub length-left : (n : ℕ) (v : List Float) (t : Turn) → length (left_by n v t) ≡ length v
unfolding left_by
length-left n v halted = refl
length-left n v (reached x r norm) = simp length-splice
length-left n v (moved u norm) = simp length-splice

left_vectored : (n : ℕ) (v : List Float) (rs : Float) (t : Turn) → 3 * n ≤ length v → Long n (after (vectors_of v n rs) t) → Vectored (left_by n v t) n (after (vectors_of v n rs) t)
unfolding left_by
left_vectored n v rs halted h long = record { x_is = refl; r_is = refl; p_is = refl }
left_vectored n v rs (reached x r norm) h long =
    let ex : length x ≡ n = long.x_long in
    let er : length r ≡ n = long.r_long in
    let e₁ : length (splice v 0 x) ≡ length v = length-splice v 0 x in
    record {
      x_is = part_splice-before (splice v 0 x) n r 0 n (omega arith) ∙ part_splice-same v 0 x n ex (omega arith);
      r_is = part_splice-same (splice v 0 x) n r n er (omega arith);
      p_is = part_splice-after (splice v 0 x) n r (2 * n) n (omega arith) ∙ part_splice-after v 0 x (2 * n) n (omega arith);
    }
left_vectored n v rs (moved u norm) h long =
    let ex : length u.x ≡ n = long.x_long in
    let er : length u.r ≡ n = long.r_long in
    let ep : length u.p ≡ n = long.p_long in
    let l₁ : List Float = splice v 0 u.x in
    let l₂ : List Float = splice l₁ n u.r in
    let e₁ : length l₁ ≡ length v = length-splice v 0 u.x in
    let e₂ : length l₂ ≡ length l₁ = length-splice l₁ n u.r in
    record {
      x_is = part_splice-before l₂ (2 * n) u.p 0 n (omega arith) ∙ part_splice-before l₁ n u.r 0 n (omega arith) ∙ part_splice-same v 0 u.x n ex (omega arith);
      r_is = part_splice-before l₂ (2 * n) u.p n n (omega arith) ∙ part_splice-same l₁ n u.r n er (omega arith);
      p_is = part_splice-same l₂ (2 * n) u.p n ep (omega arith);
    }

-- what a pass leaves
pub passed_vectored : (words : List ℕ) (floats : List Float) (m : CsrAt) (v : List Float) (tiny tolerance rs : Float) → 3 * m.rows ≤ length v
    → Vectored (left_by m.rows v (turn_beside words floats m v tiny tolerance rs)) m.rows (after (vectors_of v m.rows rs) (turn_beside words floats m v tiny tolerance rs))
passed_vectored words floats m v tiny tolerance rs h =
    let n : ℕ = m.rows in
    let long : Long n (vectors_of v n rs) = record { x_long = length_part v 0 n (omega arith); r_long = length_part v n n (omega arith); p_long = length_part v (2 * n) n (omega arith) } in
    left_vectored n v rs (turn_beside words floats m v tiny tolerance rs) h (after_long n tiny (matrix words floats m) tolerance (vectors_of v n rs) (length-rows_of words floats m n) long)

-- ---- the vectors lent as slices of their own: mat is their matrix, x₀, r₀ and p₀ are the vectors at entry, x, r and p what is left of them

-- what a pass leaves, as the vectors put down
left_put : (n : ℕ) (v : List Float) (rs : Float) (t : Turn) → 3 * n ≤ length v → Long n (after (vectors_of v n rs) t)
    → left_by n v t ≡ splice (splice (splice v 0 (after (vectors_of v n rs) t).x) n (after (vectors_of v n rs) t).r) (2 * n) (after (vectors_of v n rs) t).p
unfolding left_by
left_put n v rs halted h long = simp splice_part
left_put n v rs (reached x r norm) h long =
    let ex : length x ≡ n = long.x_long in
    let er : length r ≡ n = long.r_long in
    let l : List Float = splice (splice v 0 x) n r in
    let keeps : part l (2 * n) n ≡ part v (2 * n) n = part_splice-after (splice v 0 x) n r (2 * n) n (omega arith) ∙ part_splice-after v 0 x (2 * n) n (omega arith) in
    sym (splice_part l (2 * n) n) ∙ ap (λ (q : List Float). splice l (2 * n) q) keeps
left_put n v rs (moved u norm) h long = refl

joined_put : (v : List Float) (n : ℕ) (x r p : List Float) → 3 * n ≤ length v → length x ≡ n → length r ≡ n → length p ≡ n
    → x ++ (r ++ (p ++ drop (3 * n) v)) ≡ splice (splice (splice v 0 x) n r) (2 * n) p
joined_put v n x r p h ex er ep =
    let all : List Float = x ++ (r ++ p) in
    let l₁ : length (r ++ p) ≡ n + n = length-append r p ∙ cc in
    let l₂ : length all ≡ 3 * n = length-append x (r ++ p) ∙ omega arith in
    let parts : x ++ (r ++ (p ++ drop (3 * n) v)) ≡ all ++ drop (3 * n) v = simp append_assoc in
    let put : splice (splice (splice v 0 x) n r) (2 * n) p ≡ splice v 0 all = splice-splice_next (splice v 0 x) n (2 * n) n r p (omega arith) er ∙ splice-splice_next v 0 n n x (r ++ p) (omega arith) ex in
    let back : splice v 0 all ≡ all ++ drop (3 * n) v = splice_is v all 0 (3 * n) l₂ (omega arith) ∙ ap (λ (k : ℕ). all ++ drop k v) (zero-add (3 * n)) in
    parts ∙ sym back ∙ sym put

-- with any matrix of n rows
pub passed_beside_parts : (mat : List (List Entry)) {n : ℕ} {v x₀ r₀ p₀ x r p l : List Float} {answer : Pass} (tiny tolerance rs : Float) → 3 * n ≤ length v → length mat ≡ n
    → x₀ ≡ part v 0 n → r₀ ≡ part v n n → p₀ ≡ part v (2 * n) n → Passes mat tiny tolerance (solve x₀ r₀ p₀ rs) x r p answer
    → l ≡ x ++ (r ++ (p ++ drop (3 * n) v)) → PassedBeside v l n (pass tiny mat tolerance (vectors_of v n rs)) answer
passed_beside_parts mat {n} {v} {x₀} {r₀} {p₀} {x} {r} {p} {l} {answer} tiny tolerance rs h many ex₀ er₀ ep₀ d el =
    let s : Solve = vectors_of v n rs in
    let t : Turn = pass tiny mat tolerance s in
    let done : Leaves s t x r p answer = rw (ex₀, er₀, ep₀) at d in
    let from : Long n s = record { x_long = length_part v 0 n (omega arith); r_long = length_part v n n (omega arith); p_long = length_part v (2 * n) n (omega arith) } in
    let long : Long n (after s t) = after_long n tiny mat tolerance s many from in
    let lx : length x ≡ n = ap length done.x_is ∙ long.x_long in
    let lr : length r ≡ n = ap length done.r_is ∙ long.r_long in
    let lp : length p ≡ n = ap length done.p_is ∙ long.p_long in
    record { said = done.said; left = el ∙ joined_put v n x r p h lx lr lp ∙ cc (done.x_is, done.r_is, done.p_is) ∙ sym (left_put n v rs t h long) }

-- ---- vectors in a row at the front of a slice v, split off one by one: `rest` stands behind them

pub passed_beside_split : (mat : List (List Entry)) {n : ℕ} {v x₀ r₀ p₀ x r p rest : List Float} {answer : Pass} (tiny tolerance rs : Float) → 3 * n ≤ length v → length mat ≡ n
    → x₀ ≡ take n v → r₀ ≡ take n (drop n v) → p₀ ≡ take n (drop n (drop n v)) → rest ≡ drop n (drop n (drop n v)) → Passes mat tiny tolerance (solve x₀ r₀ p₀ rs) x r p answer
    → PassedBeside v (x ++ (r ++ (p ++ rest))) n (pass tiny mat tolerance (vectors_of v n rs)) answer
passed_beside_split mat {n} {v} {x = x} {r = r} {p = p} tiny tolerance rs h many ex er ep el d =
    let all : n + n + n ≡ 3 * n = omega arith in
    let behind : drop n (drop n (drop n v)) ≡ drop (3 * n) v = ap (drop n) (drop-drop n n v) ∙ drop-drop n (n + n) v ∙ ap (λ (k : ℕ). drop k v) all in
    passed_beside_parts mat tiny tolerance rs h many (ex ∙ first_split n v) (er ∙ second_split n v) (ep ∙ third_split n v) d (ap (λ (z : List Float). x ++ (r ++ (p ++ z))) (el ∙ behind))
