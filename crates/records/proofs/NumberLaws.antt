-- The numbers of a record and the record are inverse: what is put into lists that have the places is read as it was, with flags of 0 or 1, and what is read from lists with such flags is put as it was. Assumes nothing.
use Rattle.std.specs.Prelude.{ℕ, zero, suc, ◌≤◌, true, ◌≡◌, List, [], ◌∷◌, Float, length, leb, Option, Some, None}
use Rattle.std.proofs.Common.{arith, leb-true, le-leb}
use Rattle.std.proofs.Math.Path.{refl}
use Rattle.binary64.specs.NumberLaws.{both}
use Rattle.work.specs.declared.Run.{Run}
use Rattle.records.specs.Numbers.{Listed, listed, whole, placed, fits, flagged, plan_from, walk_from, stand_from, run_from, plan_put, walk_put, stand_put, run_put, Holds}
use Rattle.plane.specs.declared.Point.{Point}
use Rattle.work.specs.declared.Kept.{Kept}

-- what holds of every list that begins with seventeen elements holds of every list that is as long
seventeen : (P : List ℕ → Type 0) → ((n0 n1 n2 n3 n4 n5 n6 n7 n8 n9 n10 n11 n12 n13 n14 n15 n16 : ℕ) (rest : List ℕ) → P (n0 ∷ n1 ∷ n2 ∷ n3 ∷ n4 ∷ n5 ∷ n6 ∷ n7 ∷ n8 ∷ n9 ∷ n10 ∷ n11 ∷ n12 ∷ n13 ∷ n14 ∷ n15 ∷ n16 ∷ rest)) → (l : List ℕ) → 17 ≤ length l → P l
seventeen P f [] h = absurd (omega arith)
seventeen P f (n0 ∷ []) h = absurd (omega arith)
seventeen P f (n0 ∷ n1 ∷ []) h = absurd (omega arith)
seventeen P f (n0 ∷ n1 ∷ n2 ∷ []) h = absurd (omega arith)
seventeen P f (n0 ∷ n1 ∷ n2 ∷ n3 ∷ []) h = absurd (omega arith)
seventeen P f (n0 ∷ n1 ∷ n2 ∷ n3 ∷ n4 ∷ []) h = absurd (omega arith)
seventeen P f (n0 ∷ n1 ∷ n2 ∷ n3 ∷ n4 ∷ n5 ∷ []) h = absurd (omega arith)
seventeen P f (n0 ∷ n1 ∷ n2 ∷ n3 ∷ n4 ∷ n5 ∷ n6 ∷ []) h = absurd (omega arith)
seventeen P f (n0 ∷ n1 ∷ n2 ∷ n3 ∷ n4 ∷ n5 ∷ n6 ∷ n7 ∷ []) h = absurd (omega arith)
seventeen P f (n0 ∷ n1 ∷ n2 ∷ n3 ∷ n4 ∷ n5 ∷ n6 ∷ n7 ∷ n8 ∷ []) h = absurd (omega arith)
seventeen P f (n0 ∷ n1 ∷ n2 ∷ n3 ∷ n4 ∷ n5 ∷ n6 ∷ n7 ∷ n8 ∷ n9 ∷ []) h = absurd (omega arith)
seventeen P f (n0 ∷ n1 ∷ n2 ∷ n3 ∷ n4 ∷ n5 ∷ n6 ∷ n7 ∷ n8 ∷ n9 ∷ n10 ∷ []) h = absurd (omega arith)
seventeen P f (n0 ∷ n1 ∷ n2 ∷ n3 ∷ n4 ∷ n5 ∷ n6 ∷ n7 ∷ n8 ∷ n9 ∷ n10 ∷ n11 ∷ []) h = absurd (omega arith)
seventeen P f (n0 ∷ n1 ∷ n2 ∷ n3 ∷ n4 ∷ n5 ∷ n6 ∷ n7 ∷ n8 ∷ n9 ∷ n10 ∷ n11 ∷ n12 ∷ []) h = absurd (omega arith)
seventeen P f (n0 ∷ n1 ∷ n2 ∷ n3 ∷ n4 ∷ n5 ∷ n6 ∷ n7 ∷ n8 ∷ n9 ∷ n10 ∷ n11 ∷ n12 ∷ n13 ∷ []) h = absurd (omega arith)
seventeen P f (n0 ∷ n1 ∷ n2 ∷ n3 ∷ n4 ∷ n5 ∷ n6 ∷ n7 ∷ n8 ∷ n9 ∷ n10 ∷ n11 ∷ n12 ∷ n13 ∷ n14 ∷ []) h = absurd (omega arith)
seventeen P f (n0 ∷ n1 ∷ n2 ∷ n3 ∷ n4 ∷ n5 ∷ n6 ∷ n7 ∷ n8 ∷ n9 ∷ n10 ∷ n11 ∷ n12 ∷ n13 ∷ n14 ∷ n15 ∷ []) h = absurd (omega arith)
seventeen P f (n0 ∷ n1 ∷ n2 ∷ n3 ∷ n4 ∷ n5 ∷ n6 ∷ n7 ∷ n8 ∷ n9 ∷ n10 ∷ n11 ∷ n12 ∷ n13 ∷ n14 ∷ n15 ∷ n16 ∷ rest) h = f n0 n1 n2 n3 n4 n5 n6 n7 n8 n9 n10 n11 n12 n13 n14 n15 n16 rest

-- what holds of every list that begins with eight elements holds of every list that is as long
pub eight : {A : Type 0} (P : List A → Type 0) → ((x0 x1 x2 x3 x4 x5 x6 x7 : A) (rest : List A) → P (x0 ∷ x1 ∷ x2 ∷ x3 ∷ x4 ∷ x5 ∷ x6 ∷ x7 ∷ rest)) → (l : List A) → 8 ≤ length l → P l
eight P f [] h = absurd (omega arith)
eight P f (x0 ∷ []) h = absurd (omega arith)
eight P f (x0 ∷ x1 ∷ []) h = absurd (omega arith)
eight P f (x0 ∷ x1 ∷ x2 ∷ []) h = absurd (omega arith)
eight P f (x0 ∷ x1 ∷ x2 ∷ x3 ∷ []) h = absurd (omega arith)
eight P f (x0 ∷ x1 ∷ x2 ∷ x3 ∷ x4 ∷ []) h = absurd (omega arith)
eight P f (x0 ∷ x1 ∷ x2 ∷ x3 ∷ x4 ∷ x5 ∷ []) h = absurd (omega arith)
eight P f (x0 ∷ x1 ∷ x2 ∷ x3 ∷ x4 ∷ x5 ∷ x6 ∷ []) h = absurd (omega arith)
eight P f (x0 ∷ x1 ∷ x2 ∷ x3 ∷ x4 ∷ x5 ∷ x6 ∷ x7 ∷ rest) h = f x0 x1 x2 x3 x4 x5 x6 x7 rest

long : (l : Listed) → 17 ≤ length l.wholes → 8 ≤ length l.reals → placed 17 8 l ≡ true
long l h g = rw (le-leb 17 (length l.wholes) h, le-leb 8 (length l.reals) g)

-- a record by its start and its mark
abbrev with : Run → Option Point → Option Kept → Run
with r g m = record { plan = record { n = r.plan.n; t = r.plan.t; limit = r.plan.limit; room = r.plan.room; tolerance = r.plan.tolerance; step = r.plan.step; start = g }; stand = r.stand; mark = m; passes = r.passes }

-- seventeen and eight numbers, and what is behind them
abbrev lists : (n0 n1 n2 n3 n4 n5 n6 n7 n8 n9 n10 n11 n12 n13 n14 n15 n16 : ℕ) → List ℕ → (x0 x1 x2 x3 x4 x5 x6 x7 : Float) → List Float → Listed
lists n0 n1 n2 n3 n4 n5 n6 n7 n8 n9 n10 n11 n12 n13 n14 n15 n16 ns x0 x1 x2 x3 x4 x5 x6 x7 xs = listed (n0 ∷ n1 ∷ n2 ∷ n3 ∷ n4 ∷ n5 ∷ n6 ∷ n7 ∷ n8 ∷ n9 ∷ n10 ∷ n11 ∷ n12 ∷ n13 ∷ n14 ∷ n15 ∷ n16 ∷ ns) (x0 ∷ x1 ∷ x2 ∷ x3 ∷ x4 ∷ x5 ∷ x6 ∷ x7 ∷ xs)

-- what holds of all lists that begin so holds of all lists of as many places
all_fitting : (P : Listed → Type 0) → ((n0 n1 n2 n3 n4 n5 n6 n7 n8 n9 n10 n11 n12 n13 n14 n15 n16 : ℕ) (ns : List ℕ) (x0 x1 x2 x3 x4 x5 x6 x7 : Float) (xs : List Float) → P (lists n0 n1 n2 n3 n4 n5 n6 n7 n8 n9 n10 n11 n12 n13 n14 n15 n16 ns x0 x1 x2 x3 x4 x5 x6 x7 xs)) → (l : Listed) → fits l ≡ true → P l
unfolding fits
all_fitting P f l fit =
    let h = both _ _ fit in
    seventeen (λ ns. P (listed ns l.reals)) (λ n0 n1 n2 n3 n4 n5 n6 n7 n8 n9 n10 n11 n12 n13 n14 n15 n16 ns. eight (λ xs. P (listed (n0 ∷ n1 ∷ n2 ∷ n3 ∷ n4 ∷ n5 ∷ n6 ∷ n7 ∷ n8 ∷ n9 ∷ n10 ∷ n11 ∷ n12 ∷ n13 ∷ n14 ∷ n15 ∷ n16 ∷ ns) xs)) (λ x0 x1 x2 x3 x4 x5 x6 x7 xs. f n0 n1 n2 n3 n4 n5 n6 n7 n8 n9 n10 n11 n12 n13 n14 n15 n16 ns x0 x1 x2 x3 x4 x5 x6 x7 xs) l.reals (leb-true _ _ h.1)) l.wholes (leb-true _ _ h.0)

front : (r : Run) (g : Option Point) (m : Option Kept) (n0 n1 n2 n3 n4 n5 n6 n7 n8 n9 n10 n11 n12 n13 n14 n15 n16 : ℕ) (ns : List ℕ) (x0 x1 x2 x3 x4 x5 x6 x7 : Float) (xs : List Float) → Holds (with r g m) (run_put (with r g m) (lists n0 n1 n2 n3 n4 n5 n6 n7 n8 n9 n10 n11 n12 n13 n14 n15 n16 ns x0 x1 x2 x3 x4 x5 x6 x7 xs))
unfolding fits flagged plan_from walk_from stand_from run_from plan_put walk_put stand_put run_put
front r None None n0 n1 n2 n3 n4 n5 n6 n7 n8 n9 n10 n11 n12 n13 n14 n15 n16 ns x0 x1 x2 x3 x4 x5 x6 x7 xs = record { reads = refl; flags = refl; fit = long (lists n0 n1 n2 n3 n4 n5 n6 n7 n8 n9 n10 n11 n12 n13 n14 n15 n16 ns x0 x1 x2 x3 x4 x5 x6 x7 xs) (omega arith) (omega arith) }
front r None (Some k) n0 n1 n2 n3 n4 n5 n6 n7 n8 n9 n10 n11 n12 n13 n14 n15 n16 ns x0 x1 x2 x3 x4 x5 x6 x7 xs = record { reads = refl; flags = refl; fit = long (lists n0 n1 n2 n3 n4 n5 n6 n7 n8 n9 n10 n11 n12 n13 n14 n15 n16 ns x0 x1 x2 x3 x4 x5 x6 x7 xs) (omega arith) (omega arith) }
front r (Some s) None n0 n1 n2 n3 n4 n5 n6 n7 n8 n9 n10 n11 n12 n13 n14 n15 n16 ns x0 x1 x2 x3 x4 x5 x6 x7 xs = record { reads = refl; flags = refl; fit = long (lists n0 n1 n2 n3 n4 n5 n6 n7 n8 n9 n10 n11 n12 n13 n14 n15 n16 ns x0 x1 x2 x3 x4 x5 x6 x7 xs) (omega arith) (omega arith) }
front r (Some s) (Some k) n0 n1 n2 n3 n4 n5 n6 n7 n8 n9 n10 n11 n12 n13 n14 n15 n16 ns x0 x1 x2 x3 x4 x5 x6 x7 xs = record { reads = refl; flags = refl; fit = long (lists n0 n1 n2 n3 n4 n5 n6 n7 n8 n9 n10 n11 n12 n13 n14 n15 n16 ns x0 x1 x2 x3 x4 x5 x6 x7 xs) (omega arith) (omega arith) }

-- what is put is held
pub put_holds : (r : Run) (l : Listed) → fits l ≡ true → Holds r (run_put r l)
put_holds r l fit = all_fitting (λ l. Holds r (run_put r l)) (front r r.plan.start r.mark) l fit

-- ---- what is read is put as it was: no place changes, also those that a record without a start or a mark does not use

same : (n0 n1 n2 n3 n4 n5 n6 n7 n8 n9 n10 n11 n12 n13 n14 n15 n16 : ℕ) (ns : List ℕ) (x0 x1 x2 x3 x4 x5 x6 x7 : Float) (xs : List Float) → flagged (lists n0 n1 n2 n3 n4 n5 n6 n7 n8 n9 n10 n11 n12 n13 n14 n15 n16 ns x0 x1 x2 x3 x4 x5 x6 x7 xs) ≡ true → run_put (run_from (lists n0 n1 n2 n3 n4 n5 n6 n7 n8 n9 n10 n11 n12 n13 n14 n15 n16 ns x0 x1 x2 x3 x4 x5 x6 x7 xs)) (lists n0 n1 n2 n3 n4 n5 n6 n7 n8 n9 n10 n11 n12 n13 n14 n15 n16 ns x0 x1 x2 x3 x4 x5 x6 x7 xs) ≡ lists n0 n1 n2 n3 n4 n5 n6 n7 n8 n9 n10 n11 n12 n13 n14 n15 n16 ns x0 x1 x2 x3 x4 x5 x6 x7 xs
unfolding flagged plan_from walk_from stand_from run_from plan_put walk_put stand_put run_put
same n0 n1 n2 n3 zero n5 n6 n7 n8 n9 n10 n11 n12 zero n14 n15 n16 ns x0 x1 x2 x3 x4 x5 x6 x7 xs f = refl
same n0 n1 n2 n3 zero n5 n6 n7 n8 n9 n10 n11 n12 (suc zero) n14 n15 n16 ns x0 x1 x2 x3 x4 x5 x6 x7 xs f = refl
same n0 n1 n2 n3 zero n5 n6 n7 n8 n9 n10 n11 n12 (suc (suc k)) n14 n15 n16 ns x0 x1 x2 x3 x4 x5 x6 x7 xs f = absurd (omega (arith, leb-true (suc (suc k)) 1 (both true (leb (suc (suc k)) 1) f).1))
same n0 n1 n2 n3 (suc zero) n5 n6 n7 n8 n9 n10 n11 n12 zero n14 n15 n16 ns x0 x1 x2 x3 x4 x5 x6 x7 xs f = refl
same n0 n1 n2 n3 (suc zero) n5 n6 n7 n8 n9 n10 n11 n12 (suc zero) n14 n15 n16 ns x0 x1 x2 x3 x4 x5 x6 x7 xs f = refl
same n0 n1 n2 n3 (suc zero) n5 n6 n7 n8 n9 n10 n11 n12 (suc (suc k)) n14 n15 n16 ns x0 x1 x2 x3 x4 x5 x6 x7 xs f = absurd (omega (arith, leb-true (suc (suc k)) 1 (both true (leb (suc (suc k)) 1) f).1))
same n0 n1 n2 n3 (suc (suc k)) n5 n6 n7 n8 n9 n10 n11 n12 n13 n14 n15 n16 ns x0 x1 x2 x3 x4 x5 x6 x7 xs f = absurd (omega (arith, leb-true (suc (suc k)) 1 (both (leb (suc (suc k)) 1) (leb n13 1) f).0))

pub put_same : (l : Listed) → fits l ≡ true → flagged l ≡ true → run_put (run_from l) l ≡ l
put_same l fit = all_fitting (λ l. flagged l ≡ true → run_put (run_from l) l ≡ l) same l fit

-- ---- what a run shows of its numbers

module _ (l : Listed) where
  pub place_in : whole l.wholes 5 ≡ (run_from l).stand.place
  unfolding run_from stand_from
  place_in = refl

  pub passes_in : whole l.wholes 16 ≡ (run_from l).passes
  unfolding run_from
  passes_in = refl

  pub field_end_in : whole l.wholes 7 ≡ (run_from l).stand.end
  unfolding run_from stand_from
  field_end_in = refl

  pub path_end_in : whole l.wholes 11 ≡ (run_from l).stand.walk.end
  unfolding run_from stand_from walk_from
  path_end_in = refl
