-- What stands in the buffer after place 0 or a pass: the vectors of the definition, +0 at the product, and all else as it was. Assumes nothing.
use Rattle.std.specs.Prelude.{◌≡◌, refl, ℕ, ◌+◌, ◌*◌, ◌≤◌, [], ◌++◌, take, drop, replicate}
use Rattle.std.proofs.Common.{sym, ap, ◌∙◌, ⊎_elim, append_assoc, append-nil, length-append}
use mathlib.Core.List.{List}
use lib.ListN.{drop_of_length-le}
use Rattle.std.proofs.Math.Seq.{drop-drop}
use native.Mathlib.Omega.{arith}
use Rattle.std.proofs.Math.ListN.{length, length-replicate}
use Rattle.std.specs.Float.Ieee.{Float}
use Rattle.binary64.specs.Constants.{plus_zero}
use Rattle.stretch.specs.Stretch.{part, splice, Wrote}
use Rattle.stretch.specs.StretchLaws.{length_part, length-splice, part_part, splice_part, splice_is, splice-splice_in, splice-append, part_splice-after, got, kept_before, kept_after}
use Rattle.sparse.specs.Sparse.{Entry}
use Rattle.sparse.specs.Stored.{CsrAt, matrix}
use Rattle.sparse.specs.ProductLaws.{length-rows_of, matrix_kept}
use Rattle.conjugate.specs.declared.Pass.{Pass}
use Rattle.conjugate.specs.declared.Pass.TheVariants.{Halted, Reached, Moved}
use Rattle.conjugate.specs.Solver.{Solve, Turn, halted, reached, moved, pass}
use Rattle.conjugate.specs.Passes.{solve, Leaves, Passes, Begins}
use Rattle.conjugate.specs.SolverLaws.{Long, after, begun_long, after_long}
use Rattle.conjugate.specs.Placed.{VectorsAt, row_of, InRow, Outside, Laid, Starts, read, cleared, placed, stored_after, answer_of, turn_of, Passed, start_of, Begun}

-- l holds the vectors u at their places, and is s outside them
pub record Holds (s l : List Float) (n : ℕ) (at : VectorsAt) (u : Solve) : Type 0 where
  pub vectors : read l at n u.rs ≡ u
  pub clear : part l at.product n ≡ replicate n plus_zero
  pub before : (b k : ℕ) → b + k ≤ at.x → part l b k ≡ part s b k
  pub behind : (b k : ℕ) → at.product + n ≤ b → part l b k ≡ part s b k
  pub as_long : length l ≡ length s

pub outside_kept : {s l : List Float} {n : ℕ} {at : VectorsAt} {u : Solve} → Holds s l n at u → (b k : ℕ) → Outside at n b k → part l b k ≡ part s b k
outside_kept {s} {l} {n} {at} h b k o = ⊎_elim (λ (q : b + k ≤ at.x). h.before b k q) (λ (q : at.product + n ≤ b). h.behind b k q) o

-- ---- the vectors put down

module _ (s : List Float) (n : ℕ) (at : VectorsAt) (u : Solve) (row : InRow (length s) at n) (long : Long n u) where
  pub holds_placed : Holds s (placed n s at u) n at u
  unfolding placed
  holds_placed =
      let s₁ : List Float = splice s at.x u.x in
      let s₂ : List Float = splice s₁ at.r u.r in
      let s₃ : List Float = splice s₂ at.p u.p in
      let s₄ : List Float = cleared n s₃ at in
      let e₁ : length s₁ ≡ length s = length-splice s at.x u.x in
      let e₂ : length s₂ ≡ length s₁ = length-splice s₁ at.r u.r in
      let e₃ : length s₃ ≡ length s₂ = length-splice s₂ at.p u.p in
      let e₄ : length s₄ ≡ length s₃ = length-splice s₃ at.product (replicate n plus_zero) in
      let w₁ : Wrote s s₁ at.x n u.x = record { is = refl; long = long.x_long; fits = omega arith } in
      let w₂ : Wrote s₁ s₂ at.r n u.r = record { is = refl; long = long.r_long; fits = omega arith } in
      let w₃ : Wrote s₂ s₃ at.p n u.p = record { is = refl; long = long.p_long; fits = omega arith } in
      let w₄ : Wrote s₃ s₄ at.product n (replicate n plus_zero) = record { is = refl; long = length-replicate n plus_zero; fits = omega arith } in
      let x : part s₄ at.x n ≡ u.x =
      kept_before w₄ at.x n (omega arith) ∙ kept_before w₃ at.x n (omega arith) ∙ kept_before w₂ at.x n (omega arith) ∙ got w₁ in
      let r : part s₄ at.r n ≡ u.r = kept_before w₄ at.r n (omega arith) ∙ kept_before w₃ at.r n (omega arith) ∙ got w₂ in
      let p : part s₄ at.p n ≡ u.p = kept_before w₄ at.p n (omega arith) ∙ got w₃ in
      record {
        vectors = rw (x, r, p);
        clear = got w₄;
        before = λ b k h. kept_before w₄ b k (omega arith) ∙ kept_before w₃ b k (omega arith) ∙ kept_before w₂ b k (omega arith) ∙ kept_before w₁ b k h;
        behind = λ b k h. kept_after w₄ b k h ∙ kept_after w₃ b k (omega arith) ∙ kept_after w₂ b k (omega arith) ∙ kept_after w₁ b k (omega arith);
        as_long = omega arith;
      }

-- ---- after place 0

start_long : (w : List ℕ) (s : List Float) (m : CsrAt) (b : ℕ) → b + m.rows ≤ length s → Long m.rows (start_of w s m b)
start_long w s m b h = begun_long m.rows (matrix w s m) (part s b m.rows) (length-rows_of w s m m.rows) (length_part s b m.rows h)

pub holds_begun : {w : List ℕ} {s l : List Float} {m : CsrAt} {at : VectorsAt} {b : ℕ} {sum : Float} → Starts w (length s) m at b → Begun s l m.rows at (start_of w s m b) sum
    → Holds s l m.rows at (start_of w s m b)
holds_begun {w} {s} {l} {m} {at} {b} st g = rw g.left (holds_placed s m.rows at (start_of w s m b) st.laid.in_row (start_long w s m b st.reads.right_fits))

-- ---- after a pass

read_long : (s : List Float) (at : VectorsAt) (n : ℕ) (rs : Float) → InRow (length s) at n → Long n (read s at n rs)
read_long s at n rs row =
    record { x_long = length_part s at.x n (omega arith); r_long = length_part s at.r n (omega arith); p_long = length_part s at.p n (omega arith) }

-- what a pass leaves is the vectors after it, put down
pub stored_placed : (s : List Float) (n : ℕ) (at : VectorsAt) (rs : Float) (t : Turn) → InRow (length s) at n → Long n (after (read s at n rs) t)
    → stored_after n s at t ≡ placed n s at (after (read s at n rs) t)
unfolding stored_after placed
stored_placed s n at rs halted row long = simp splice_part
stored_placed s n at rs (reached x r norm) row long =
    let ex : length x ≡ n = long.x_long in
    let er : length r ≡ n = long.r_long in
    let l : List Float = splice (splice s at.x x) at.r r in
    let keeps : part l at.p n ≡ part s at.p n =
    part_splice-after (splice s at.x x) at.r r at.p n (omega arith) ∙ part_splice-after s at.x x at.p n (omega arith) in
    ap (λ (q : List Float). cleared n q at) (sym (splice_part l at.p n) ∙ ap (λ (q : List Float). splice l at.p q) keeps)
stored_placed s n at rs (moved t norm) row long = refl

pub holds_passed : {w : List ℕ} {s l : List Float} {m : CsrAt} {at : VectorsAt} {answer : Pass} (tiny tolerance rs : Float) → Laid w (length s) m at
    → Passed s l m.rows at (turn_of w s m at tiny tolerance rs) answer → Holds s l m.rows at (after (read s at m.rows rs) (turn_of w s m at tiny tolerance rs))
holds_passed {w} {s} {l} {m} {at} tiny tolerance rs laid done =
    let n : ℕ = m.rows in
    let t : Turn = turn_of w s m at tiny tolerance rs in
    let long : Long n (after (read s at n rs) t) =
    after_long n tiny (matrix w s m) tolerance (read s at n rs) (length-rows_of w s m n) (read_long s at n rs laid.in_row) in
    rw (done.left, stored_placed s n at rs t laid.in_row long) (holds_placed s n at (after (read s at n rs) t) laid.in_row long)

-- ---- the vectors lent as slices of their own: mat is their matrix, x₀, r₀ and p₀ are the vectors at entry, x, r, p and q what is left of them and of the product

-- the vectors stand one right after the other
pub record Adjoin (at : VectorsAt) (n : ℕ) : Type 0 where
  pub r_at : at.r ≡ at.x + n
  pub p_at : at.p ≡ at.r + n
  pub product_at : at.product ≡ at.p + n

-- what is written right behind a stretch that was written
pub splice-splice_next : (l : List Float) (at b n : ℕ) (u v : List Float) → b ≡ at + n → length u ≡ n → splice (splice l at u) b v ≡ splice l at (u ++ v)
splice-splice_next l at b n u v h e =
    let k : b ≡ at + length u = omega arith in
    rw k (sym (splice-append l at u v))

module _ (s : List Float) (at : VectorsAt) (n : ℕ) (row : InRow (length s) at n) (next : Adjoin at n) (x r p q : List Float) (ex : length x ≡ n) (er : length r ≡ n) (ep : length p ≡ n) (eq : length q ≡ n) where
  -- the buffer as its parts, and as it is written
  joined_put : take at.x s ++ (x ++ (r ++ (p ++ (q ++ drop (at.product + n) s)))) ≡ splice (splice (splice (splice s at.x x) at.r r) at.p p) at.product q
  joined_put =
      let all : List Float = x ++ (r ++ (p ++ q)) in
      let l₁ : length (p ++ q) ≡ n + n = length-append p q ∙ cc in
      let l₂ : length (r ++ (p ++ q)) ≡ n + (n + n) = length-append r (p ++ q) ∙ cc in
      let l₃ : length all ≡ n + (n + (n + n)) = length-append x (r ++ (p ++ q)) ∙ cc in
      let end : at.product + n ≡ at.x + (n + (n + (n + n))) = omega (arith, next.r_at, next.p_at, next.product_at) in
      let parts : x ++ (r ++ (p ++ (q ++ drop (at.product + n) s))) ≡ all ++ drop (at.product + n) s = simp append_assoc in
      let put : splice (splice (splice (splice s at.x x) at.r r) at.p p) at.product q ≡ splice s at.x all =
      splice-splice_next (splice (splice s at.x x) at.r r) at.p at.product n p q next.product_at ep
      ∙ splice-splice_next (splice s at.x x) at.r at.p n r (p ++ q) next.p_at er
      ∙ splice-splice_next s at.x at.r n x (r ++ (p ++ q)) next.r_at ex in
      ap (λ (z : List Float). take at.x s ++ z) parts
      ∙ ap (λ (k : ℕ). take at.x s ++ (all ++ drop k s)) end
      ∙ sym (splice_is s all at.x (n + (n + (n + n))) l₃ (omega arith))
      ∙ sym put

-- parts of n that are split off one by one
pub first_split : (n : ℕ) (v : List Float) → take n v ≡ part v 0 n
unfolding part
first_split n v = refl

pub second_split : (n : ℕ) (v : List Float) → take n (drop n v) ≡ part v n n
unfolding part
second_split n v = refl

pub third_split : (n : ℕ) (v : List Float) → take n (drop n (drop n v)) ≡ part v (2 * n) n
unfolding part
third_split n v = let two : n + n ≡ 2 * n = omega arith in ap (take n) (drop-drop n n v ∙ ap (λ (k : ℕ). drop k v) two)

-- a pass over the parts of a buffer, with any matrix of n rows
pub passed_parts : (mat : List (List Entry)) {s : List Float} {n : ℕ} {at : VectorsAt} {x₀ r₀ p₀ x r p q l : List Float} {answer : Pass} (tiny tolerance rs : Float) → InRow (length s) at n → Adjoin at n → length mat ≡ n
    → x₀ ≡ part s at.x n → r₀ ≡ part s at.r n → p₀ ≡ part s at.p n → Passes mat tiny tolerance (solve x₀ r₀ p₀ rs) x r p answer → q ≡ replicate n plus_zero
    → l ≡ take at.x s ++ (x ++ (r ++ (p ++ (q ++ drop (at.product + n) s)))) → Passed s l n at (pass tiny mat tolerance (read s at n rs)) answer
unfolding placed
passed_parts mat {s} {n} {at} {x₀} {r₀} {p₀} {x} {r} {p} {q} {l} {answer} tiny tolerance rs row next many ex₀ er₀ ep₀ d eq el =
    let t : Turn = pass tiny mat tolerance (read s at n rs) in
    let u : Solve = after (read s at n rs) t in
    let done : Leaves (read s at n rs) t x r p answer = rw (ex₀, er₀, ep₀) at d in
    let long : Long n u = after_long n tiny mat tolerance (read s at n rs) many (read_long s at n rs row) in
    let lx : length x ≡ n = ap length done.x_is ∙ long.x_long in
    let lr : length r ≡ n = ap length done.r_is ∙ long.r_long in
    let lp : length p ≡ n = ap length done.p_is ∙ long.p_long in
    let lq : length q ≡ n = ap length eq ∙ length-replicate n plus_zero in
    let left : l ≡ placed n s at u = el ∙ joined_put s at n row next x r p q lx lr lp lq ∙ cc (done.x_is, done.r_is, done.p_is, eq) in
    record { said = done.said; left = left ∙ sym (stored_placed s n at rs t row long) }

-- vectors that are begun, in the parts of a buffer
pub begun_parts : {s : List Float} {n : ℕ} {at : VectorsAt} (u : Solve) {x r p q l : List Float} {sum : Float} → InRow (length s) at n → Adjoin at n → Long n u → Begins u x r p sum → q ≡ replicate n plus_zero
    → l ≡ take at.x s ++ (x ++ (r ++ (p ++ (q ++ drop (at.product + n) s)))) → Begun s l n at u sum
unfolding placed
begun_parts {s} {n} {at} u {x} {r} {p} {q} {l} {sum} row next long d eq el =
    let lx : length x ≡ n = ap length d.x_is ∙ long.x_long in
    let lr : length r ≡ n = ap length d.r_is ∙ long.r_long in
    let lp : length p ≡ n = ap length d.p_is ∙ long.p_long in
    let lq : length q ≡ n = ap length eq ∙ length-replicate n plus_zero in
    record { said = d.said; left = el ∙ joined_put s at n row next x r p q lx lr lp lq ∙ cc (d.x_is, d.r_is, d.p_is, eq) }

-- ---- vectors in a row in a slice v of 4n, split off one by one: behind x is `two`, and behind r `three`

module _ (v : List Float) (n : ℕ) (many : length v ≡ 4 * n) where
  row_fits : InRow (length v) (row_of n) n
  row_fits = record { r_after = omega arith; p_after = omega arith; product_after = omega arith; ends = omega arith }

  row_adjoins : Adjoin (row_of n) n
  row_adjoins = record { r_at = omega arith; p_at = omega arith; product_at = omega arith }

  joined_of : (x r p q : List Float) → x ++ (r ++ (p ++ q)) ≡ take 0 v ++ (x ++ (r ++ (p ++ (q ++ drop (3 * n + n) v))))
  joined_of x r p q =
      let none : drop (3 * n + n) v ≡ [] = drop_of_length-le v {i = 3 * n + n} (omega arith) in
      rw (none, append-nil)

  pub passed_split : (mat : List (List Entry)) {x₀ r₀ p₀ x r p q : List Float} {answer : Pass} (tiny tolerance rs : Float) → length mat ≡ n → x₀ ≡ take n v → r₀ ≡ take n (drop n v) → p₀ ≡ take n (drop n (drop n v))
      → Passes mat tiny tolerance (solve x₀ r₀ p₀ rs) x r p answer → q ≡ replicate n plus_zero → Passed v (x ++ (r ++ (p ++ q))) n (row_of n) (pass tiny mat tolerance (read v (row_of n) n rs)) answer
  passed_split mat {x = x} {r = r} {p = p} {q = q} tiny tolerance rs rows ex er ep d eq =
      passed_parts mat tiny tolerance rs row_fits row_adjoins rows (ex ∙ first_split n v) (er ∙ second_split n v) (ep ∙ third_split n v) d eq (joined_of x r p q)

  pub begun_split : (u : Solve) {x r p q : List Float} {sum : Float} → Long n u → Begins u x r p sum → q ≡ replicate n plus_zero → Begun v (x ++ (r ++ (p ++ q))) n (row_of n) u sum
  begun_split u {x} {r} {p} {q} long d eq = begun_parts u row_fits row_adjoins long d eq (joined_of x r p q)

-- ---- a slice v that is the vectors of a buffer s, from at.x on: v' and l are what they are after

-- what is put into a slice is put into its buffer
put_in : (s v : List Float) (a c j : ℕ) (new : List Float) → c ≡ a + j → j + length new ≤ length v → splice s a (splice v j new) ≡ splice (splice s a v) c new
put_in s v a c j new e h = rw e (sym (splice-splice_in s a v j new h))

module _ (s v : List Float) (n : ℕ) (at : VectorsAt) (row : InRow (length s) at n) (next : Adjoin at n) (v_is : v ≡ part s at.x (4 * n)) where
  slice_long : length v ≡ 4 * n
  slice_long = ap length v_is ∙ length_part s at.x (4 * n) (omega (arith, next.r_at, next.p_at, next.product_at))

  part_in : (j c : ℕ) → c ≡ at.x + j → j + n ≤ 4 * n → part v j n ≡ part s c n
  part_in j c e h = ap (λ (w : List Float). part w j n) v_is ∙ part_part s at.x (4 * n) j n h ∙ ap (λ (k : ℕ). part s k n) (sym e)

  read_in : (rs : Float) → read v (row_of n) n rs ≡ read s at n rs
  read_in rs =
      let x : part v 0 n ≡ part s at.x n = part_in 0 at.x (omega arith) (omega arith) in
      let r : part v n n ≡ part s at.r n = part_in n at.r (omega (arith, next.r_at)) (omega arith) in
      let p : part v (2 * n) n ≡ part s at.p n = part_in (2 * n) at.p (omega (arith, next.r_at, next.p_at)) (omega arith) in
      cc

  placed_in : (u : Solve) → Long n u → splice s at.x (placed n v (row_of n) u) ≡ placed n s at u
  unfolding placed
  placed_in u long =
      let ex : length u.x ≡ n = long.x_long in
      let er : length u.r ≡ n = long.r_long in
      let ep : length u.p ≡ n = long.p_long in
      let ez : length (replicate n plus_zero) ≡ n = length-replicate n plus_zero in
      let lv : length v ≡ 4 * n = slice_long in
      let v₁ : List Float = splice v 0 u.x in
      let v₂ : List Float = splice v₁ n u.r in
      let v₃ : List Float = splice v₂ (2 * n) u.p in
      let l₁ : length v₁ ≡ length v = length-splice v 0 u.x in
      let l₂ : length v₂ ≡ length v₁ = length-splice v₁ n u.r in
      let l₃ : length v₃ ≡ length v₂ = length-splice v₂ (2 * n) u.p in
      let same : splice s at.x v ≡ s = ap (splice s at.x) v_is ∙ splice_part s at.x (4 * n) in
      let s₁ : splice s at.x v₁ ≡ splice s at.x u.x = put_in s v at.x at.x 0 u.x (omega arith) (omega arith) ∙ ap (λ (w : List Float). splice w at.x u.x) same in
      let s₂ : splice s at.x v₂ ≡ splice (splice s at.x u.x) at.r u.r = put_in s v₁ at.x at.r n u.r (omega (arith, next.r_at)) (omega arith) ∙ ap (λ (w : List Float). splice w at.r u.r) s₁ in
      let s₃ : splice s at.x v₃ ≡ splice (splice (splice s at.x u.x) at.r u.r) at.p u.p =
      put_in s v₂ at.x at.p (2 * n) u.p (omega (arith, next.r_at, next.p_at)) (omega arith) ∙ ap (λ (w : List Float). splice w at.p u.p) s₂ in
      put_in s v₃ at.x at.product (3 * n) (replicate n plus_zero) (omega (arith, next.r_at, next.p_at, next.product_at)) (omega arith) ∙ ap (λ (w : List Float). splice w at.product (replicate n plus_zero)) s₃

  pub passed_in : (mat : List (List Entry)) {v' l : List Float} {answer : Pass} (tiny tolerance rs : Float) → length mat ≡ n → Passed v v' n (row_of n) (pass tiny mat tolerance (read v (row_of n) n rs)) answer
      → l ≡ splice s at.x v' → Passed s l n at (pass tiny mat tolerance (read s at n rs)) answer
  passed_in mat {v'} {l} {answer} tiny tolerance rs many d el =
      let t : Turn = pass tiny mat tolerance (read s at n rs) in
      let u : Solve = after (read s at n rs) t in
      let e = read_in rs in
      let done : Passed v v' n (row_of n) t answer = rw e at d in
      let long : Long n u = after_long n tiny mat tolerance (read s at n rs) many (read_long s at n rs row) in
      let same : after (read v (row_of n) n rs) t ≡ u = ap (λ (q : Solve). after q t) e in
      let stored : stored_after n v (row_of n) t ≡ placed n v (row_of n) u =
      stored_placed v n (row_of n) rs t (row_fits v n slice_long) (rw same long) ∙ ap (placed n v (row_of n)) same in
      record { said = done.said; left = el ∙ ap (splice s at.x) (done.left ∙ stored) ∙ placed_in u long ∙ sym (stored_placed s n at rs t row long) }

  pub begun_in : (u : Solve) {v' l : List Float} {sum : Float} → Long n u → Begun v v' n (row_of n) u sum → l ≡ splice s at.x v' → Begun s l n at u sum
  begun_in u {v'} {l} {sum} long d el = record { said = d.said; left = el ∙ ap (splice s at.x) d.left ∙ placed_in u long }

-- what an answer tells of a pass from s
pub halted_of : (t : Turn) → Halted ≡ answer_of t → t ≡ halted
unfolding answer_of
halted_of halted e = refl
halted_of (reached x r norm) e = let z : ◌≡◌ {A = ℕ} 0 1 = cc in absurd (omega arith)
halted_of (moved u norm) e = let z : ◌≡◌ {A = ℕ} 0 1 = cc in absurd (omega arith)

pub reached_of : (s : Solve) (t : Turn) (norm : Float) → Reached norm ≡ answer_of t → t ≡ reached (after s t).x (after s t).r norm
unfolding answer_of
reached_of s halted n e = let z : ◌≡◌ {A = ℕ} 0 1 = cc in absurd (omega arith)
reached_of s (reached x r norm) n e = cc
reached_of s (moved u norm) n e = let z : ◌≡◌ {A = ℕ} 0 1 = cc in absurd (omega arith)

pub moved_of : (s : Solve) (t : Turn) (rs norm : Float) → Moved rs norm ≡ answer_of t → (t ≡ moved (after s t) norm) × ((after s t).rs ≡ rs)
unfolding answer_of
moved_of s halted sum n e = let z : ◌≡◌ {A = ℕ} 0 1 = cc in absurd (omega arith)
moved_of s (reached x r norm) sum n e = let z : ◌≡◌ {A = ℕ} 0 1 = cc in absurd (omega arith)
moved_of s (moved u norm) sum n e = (cc, cc)

-- ---- a caller that goes on: the matrix and the layout are as before

module _ {w : List ℕ} {s l : List Float} {m : CsrAt} {at : VectorsAt} {u : Solve} (laid : Laid w (length s) m at) (h : Holds s l m.rows at u) where
  pub matrix-held : matrix w l m ≡ matrix w s m
  matrix-held = matrix_kept w s l m laid.sound (outside_kept h m.vals m.count laid.values_outside)

  pub laid_again : Laid w (length l) m at
  laid_again = rw h.as_long laid
