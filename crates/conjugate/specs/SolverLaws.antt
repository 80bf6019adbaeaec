-- What a pass comes to, case by case, and the lengths of its vectors. Assumes nothing.
use Rattle.std.specs.Prelude.{◌≡◌, Bool, true, false, ℕ, length, replicate, Float}
use Rattle.std.proofs.Common.{◌∙◌, arith}
use mathlib.Core.List.{List, zip_with}
use Rattle.std.proofs.lemmas.List.{length-replicate}
use Rattle.std.specs.Float.{binary64}
use Rattle.std.specs.Float.Ieee.{sub, lt}
use Rattle.binary64.specs.Arith.{◌⊘◌}
use Rattle.binary64.specs.Constants.{plus_zero}
use Rattle.binary64.specs.Number.{pick, abs_of}
use Rattle.binary64.specs.Root.{root}
use Rattle.stretch.specs.Vec.{dot, plus, less}
use Rattle.stretch.proofs.VecLaws.{length_zip}
use Rattle.sparse.specs.Sparse.{Entry, mat_vec}
use Rattle.sparse.specs.ProductLaws.{length-mat_vec}
use Rattle.conjugate.specs.Solver.{Solve, halted, reached, moved, pass, begun}
pub use Rattle.conjugate.specs.Passes.{after}

-- ---- the values of a pass from s

abbrev pub pap_of : List (List Entry) → Solve → Float
pap_of a s = dot s.p (mat_vec a s.p)

abbrev pub next_x : List (List Entry) → Solve → List Float
next_x a s = zip_with (plus (s.rs ⊘ pap_of a s)) s.x s.p

abbrev pub next_r : List (List Entry) → Solve → List Float
next_r a s = zip_with (less (s.rs ⊘ pap_of a s)) s.r (mat_vec a s.p)

abbrev pub next_sum : List (List Entry) → Solve → Float
next_sum a s = dot (next_r a s) (next_r a s)

abbrev pub next_of : List (List Entry) → Solve → Solve
next_of a s = record { x = next_x a s; r = next_r a s; p = zip_with (plus (next_sum a s ⊘ s.rs)) (next_r a s) s.p; rs = next_sum a s }

module _ (tiny : Float) (a : List (List Entry)) (tolerance : Float) (s : Solve) where
  pub pass_halted : lt (abs_of (pap_of a s)) tiny ≡ true → pass tiny a tolerance s ≡ halted
  unfolding pass
  pass_halted h = rw h

  pub pass_reached : lt (abs_of (pap_of a s)) tiny ≡ false → lt (root (next_sum a s)) tolerance ≡ true
      → pass tiny a tolerance s ≡ reached (next_x a s) (next_r a s) (root (next_sum a s))
  unfolding pass
  pass_reached h k = rw (h, k)

  pub pass-moved : lt (abs_of (pap_of a s)) tiny ≡ false → lt (root (next_sum a s)) tolerance ≡ false → pass tiny a tolerance s ≡ moved (next_of a s) (root (next_sum a s))
  unfolding pass
  pass-moved h k = rw (h, k)

-- ---- lengths

pub record Long (n : ℕ) (s : Solve) : Type 0 where
  pub x_long : length s.x ≡ n
  pub r_long : length s.r ≡ n
  pub p_long : length s.p ≡ n

zip_long : (f : Float → Float → Float) (n : ℕ) (us vs : List Float) → length us ≡ n → length vs ≡ n → length (zip_with f us vs) ≡ n
zip_long f n us vs eu ev = length_zip f us vs (omega arith) ∙ eu

pub begun_long : (n : ℕ) (a : List (List Entry)) (b : List Float) → length a ≡ n → length b ≡ n → Long n (begun a b)
unfolding begun
begun_long n a b ea eb =
    let x : List Float = replicate (length b) plus_zero in
    let e : length (zip_with (sub binary64) b (mat_vec a x)) ≡ n = zip_long (sub binary64) n b (mat_vec a x) eb (length-mat_vec a x ∙ ea) in
    record { x_long = length-replicate (length b) plus_zero ∙ eb; r_long = e; p_long = e }

picks_long : (n : ℕ) (c d : Bool) (s : Solve) (x r : List Float) (t : Solve) (norm : Float) → Long n s → length x ≡ n → length r ≡ n → Long n t
    → Long n (after s (pick c halted (pick d (reached x r norm) (moved t norm))))
picks_long n true d s x r t norm l ex er lt = l
picks_long n false true s x r t norm l ex er lt = record { x_long = ex; r_long = er; p_long = l.p_long }
picks_long n false false s x r t norm l ex er lt = lt

pub after_long : (n : ℕ) (tiny : Float) (a : List (List Entry)) (tolerance : Float) (s : Solve) → length a ≡ n → Long n s → Long n (after s (pass tiny a tolerance s))
unfolding pass
after_long n tiny a tolerance s ea l =
    let q : List Float = mat_vec a s.p in
    let ex : length (next_x a s) ≡ n = zip_long (plus (s.rs ⊘ pap_of a s)) n s.x s.p l.x_long l.p_long in
    let er : length (next_r a s) ≡ n = zip_long (less (s.rs ⊘ pap_of a s)) n s.r q l.r_long (length-mat_vec a s.p ∙ ea) in
    let ep : length (next_of a s).p ≡ n = zip_long (plus (next_sum a s ⊘ s.rs)) n (next_r a s) s.p er l.p_long in
    picks_long n (lt (abs_of (pap_of a s)) tiny) (lt (root (next_sum a s)) tolerance) s (next_x a s) (next_r a s) (next_of a s) (root (next_sum a s)) l ex er (record { x_long = ex; r_long = er; p_long = ep })
