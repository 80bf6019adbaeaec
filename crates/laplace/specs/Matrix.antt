-- What is true of the assembled matrix for every mesh: it equals its transpose bit for bit, a held row and a held column have a lone 1, columns rise and stay below n, and there are few entries.
-- Assumes nothing.
use Rattle.std.specs.Prelude.{ℕ, zero, suc, ◌+◌, ◌*◌, ◌≤◌, ◌<◌, ◌≡◌, refl, Bool, true, false, ◌&&◌, List, [], ◌∷◌, ◌++◌, eqb, ltb, length, Float, Option, Some, None}
use Rattle.std.proofs.Common.{arith, le_refl, sym, ap, ◌∙◌, length-append, ltb-true, ltb-false, eqb-true, eq-eqb, ne_eqb}
use Rattle.std.proofs.Math.Arith.{lt_of_le-ne}
use Rattle.std.proofs.lemmas.Bool.{eqb-false}
use Rattle.std.specs.Float.Ieee.{lt}
use Rattle.binary64.specs.Arith.{◌⊕◌, ◌⊘◌}
use Rattle.binary64.specs.Constants.{one}
use Rattle.binary64.specs.Number.{pick, abs_of}
use Rattle.sparse.specs.Sparse.{Entry, entry}
use Rattle.laplace.specs.Mesh.{vertex, free}
use Rattle.laplace.specs.Assembly.{Push, nine, stiff, slope, area2, triangle_pushes, pushes, insert, inserted, row, rows}

-- ---- what stands at a column

-- the value of an entry, where the row has one at that column
unfoldable pub value_at : List Entry → ℕ → Option Float
value_at [] c = None
value_at (e ∷ es) c = pick (eqb e.col c) (Some e.value) (value_at es c)

-- a sum with one more value on its right
abbrev more : Option Float → Float → Option Float
more None v = Some v
more (Some s) v = Some (s ⊕ v)

-- columns rise from lo on
unfoldable pub Rising : ℕ → List Entry → Type 0
Rising lo [] = Unit
Rising lo (e ∷ es) = (lo ≤ e.col) × Rising (suc e.col) es

-- each column is below n
unfoldable pub Below : ℕ → List Entry → Type 0
Below n [] = Unit
Below n (e ∷ es) = (e.col < n) × Below n es

rising_from : (lo lo' : ℕ) (es : List Entry) → lo ≤ lo' → Rising lo' es → Rising lo es
unfolding Rising
rising_from lo lo' [] h r = tt
rising_from lo lo' (e ∷ es) h r = (omega arith, r.1)

-- ---- an insertion

pub insert_rising : (lo j : ℕ) (v : Float) (es : List Entry) → lo ≤ j → Rising lo es → Rising lo (insert j v es)
unfolding insert Rising
insert_rising lo j v [] h r = (h, tt)
insert_rising lo j v (e ∷ es) h r = go (ltb e.col j) (eqb e.col j) refl refl (λ (k : suc e.col ≤ j). insert_rising (suc e.col) j v es k r.1)
  where
    go : (b c : Bool) → ltb e.col j ≡ b → eqb e.col j ≡ c → (suc e.col ≤ j → Rising (suc e.col) (insert j v es))
        → Rising lo (pick b (e ∷ insert j v es) (pick c (entry j (e.value ⊕ v) ∷ es) (entry j v ∷ e ∷ es)))
    go true c t u f = (r.0, f (ltb-true e.col j t))
    go false true t u f = (h, rising_from (suc j) (suc e.col) es (omega (arith, eqb-true e.col j u)) r.1)
    go false false t u f = (h, (lt_of_le-ne (ltb-false e.col j t) (λ (k : j ≡ e.col). eqb-false e.col j u (sym k)), r.1))

pub insert_below : (n j : ℕ) (v : Float) (es : List Entry) → j < n → Below n es → Below n (insert j v es)
unfolding insert Below
insert_below n j v [] h r = (h, tt)
insert_below n j v (e ∷ es) h r = go (ltb e.col j) (eqb e.col j) (insert_below n j v es h r.1)
  where
    go : (b c : Bool) → Below n (insert j v es) → Below n (pick b (e ∷ insert j v es) (pick c (entry j (e.value ⊕ v) ∷ es) (entry j v ∷ e ∷ es)))
    go true c f = (r.0, f)
    go false true f = (h, r.1)
    go false false f = (h, (r.0, r.1))

pub insert-length : (j : ℕ) (v : Float) (es : List Entry) → length (insert j v es) ≤ suc (length es)
unfolding insert
insert-length j v [] = le_refl 1
insert-length j v (e ∷ es) = go (ltb e.col j) (eqb e.col j) (insert-length j v es)
  where
    go : (b c : Bool) → length (insert j v es) ≤ suc (length es)
        → length (pick b (e ∷ insert j v es) (pick c (entry j (e.value ⊕ v) ∷ es) (entry j v ∷ e ∷ es))) ≤ suc (suc (length es))
    go true c f = omega arith
    go false true f = omega arith
    go false false f = omega arith

-- a column before the first has no entry
none_before : (lo c : ℕ) (es : List Entry) → c < lo → Rising lo es → value_at es c ≡ None
unfolding value_at Rising
none_before lo c [] h r = refl
none_before lo c (e ∷ es) h r = rw (ne_eqb e.col c (λ (k : e.col ≡ c). omega arith)) (none_before (suc e.col) c es (omega arith) r.1)

-- an insertion adds to what stands at its own column, and to no other
pub value_at-insert : (lo j c : ℕ) (v : Float) (es : List Entry) → Rising lo es
    → value_at (insert j v es) c ≡ pick (eqb j c) (more (value_at es c) v) (value_at es c)
unfolding insert value_at Rising
value_at-insert lo j c v [] r = refl
value_at-insert lo j c v (e ∷ es) r = go (ltb e.col j) (eqb e.col j) refl refl (value_at-insert (suc e.col) j c v es r.1)
  where
    after : eqb e.col c ≡ true → eqb j c ≡ true → e.col < j → ⊥
    after x y h = omega (arith, eqb-true e.col c x, eqb-true j c y)

    on : (x y : Bool) → eqb e.col c ≡ x → eqb j c ≡ y → e.col < j
        → pick x (Some e.value) (pick y (more (value_at es c) v) (value_at es c)) ≡ pick y (more (pick x (Some e.value) (value_at es c)) v) (pick x (Some e.value) (value_at es c))
    on true true p q h = absurd (after p q h)
    on true false p q h = refl
    on false true p q h = refl
    on false false p q h = refl

    here : (x y : Bool) → eqb e.col c ≡ x → eqb j c ≡ y → e.col ≡ j
        → pick y (Some (e.value ⊕ v)) (value_at es c) ≡ pick y (more (pick x (Some e.value) (value_at es c)) v) (pick x (Some e.value) (value_at es c))
    here true true p q h = refl
    here true false p q h = absurd (eqb-false j c q (omega (arith, eqb-true e.col c p)))
    here false true p q h = absurd (eqb-false e.col c p (omega (arith, eqb-true j c q)))
    here false false p q h = refl

    before : (y : Bool) → eqb j c ≡ y → j < e.col
        → pick y (Some v) (pick (eqb e.col c) (Some e.value) (value_at es c)) ≡ pick y (more (pick (eqb e.col c) (Some e.value) (value_at es c)) v) (pick (eqb e.col c) (Some e.value) (value_at es c))
    before true q h = rw (none_before (suc j) c (e ∷ es) (omega (arith, eqb-true j c q)) (h, r.1))
    before false q h = refl

    go : (b d : Bool) → ltb e.col j ≡ b → eqb e.col j ≡ d → value_at (insert j v es) c ≡ pick (eqb j c) (more (value_at es c) v) (value_at es c)
        → value_at (pick b (e ∷ insert j v es) (pick d (entry j (e.value ⊕ v) ∷ es) (entry j v ∷ e ∷ es))) c
        ≡ pick (eqb j c) (more (pick (eqb e.col c) (Some e.value) (value_at es c)) v) (pick (eqb e.col c) (Some e.value) (value_at es c))
    go true d p q ih = rw ih (on (eqb e.col c) (eqb j c) refl refl (ltb-true e.col j p))
    go false true p q ih = here (eqb e.col c) (eqb j c) refl refl (eqb-true e.col j q)
    go false false p q ih = before (eqb j c) refl (lt_of_le-ne (ltb-false e.col j p) (λ (k : j ≡ e.col). eqb-false e.col j q (sym k)))

-- ---- a free row, by its pushes

-- the values pushed at row i and column c, summed onto what is there
unfoldable summed : ℕ → ℕ → List Push → Option Float → Option Float
summed i c [] acc = acc
summed i c (p ∷ ps) acc = summed i c ps (pick (eqb p.row i && eqb p.col c) (more acc p.value) acc)

summed-append : (i c : ℕ) (ps qs : List Push) (acc : Option Float) → summed i c (ps ++ qs) acc ≡ summed i c qs (summed i c ps acc)
unfolding summed
summed-append i c [] qs acc = refl
summed-append i c (p ∷ ps) qs acc = summed-append i c ps qs (pick (eqb p.row i && eqb p.col c) (more acc p.value) acc)

-- a column is not both free and held
not_both : (tags : List ℕ) (a c : ℕ) → eqb a c ≡ true → free tags a ≡ true → free tags c ≡ false → ⊥
not_both tags a c m f h =
    let e : a ≡ c = eqb-true a c m in
    let z : ◌≡◌ {A = ℕ} 0 1 = cc in
    omega arith

-- the entries after a push, where it is of row i and to a free column
abbrev pushed : List ℕ → ℕ → Push → List Entry → List Entry
pushed tags i p es = pick (eqb p.row i && free tags p.col) (insert p.col p.value es) es

pushed_rising : (tags : List ℕ) (i : ℕ) (p : Push) (es : List Entry) → Rising 0 es → Rising 0 (pushed tags i p es)
pushed_rising tags i p es r = go (eqb p.row i && free tags p.col)
  where
    go : (b : Bool) → Rising 0 (pick b (insert p.col p.value es) es)
    go true = insert_rising 0 p.col p.value es (omega arith) r
    go false = r

pub inserted_rising : (tags : List ℕ) (i : ℕ) (ps : List Push) (es : List Entry) → Rising 0 es → Rising 0 (inserted tags i ps es)
unfolding inserted
inserted_rising tags i [] es r = r
inserted_rising tags i (p ∷ ps) es r = inserted_rising tags i ps (pushed tags i p es) (pushed_rising tags i p es r)

pushed_at : (tags : List ℕ) (i c : ℕ) (p : Push) (es : List Entry) → free tags c ≡ true → Rising 0 es
    → value_at (pushed tags i p es) c ≡ pick (eqb p.row i && eqb p.col c) (more (value_at es c) p.value) (value_at es c)
pushed_at tags i c p es f r = go (eqb p.row i) (free tags p.col) (eqb p.col c) refl refl
  where
    go : (b d x : Bool) → free tags p.col ≡ d → eqb p.col c ≡ x
        → value_at (pick (b && d) (insert p.col p.value es) es) c ≡ pick (b && x) (more (value_at es c) p.value) (value_at es c)
    go false d x k m = refl
    go true true x k m = rw (value_at-insert 0 p.col c p.value es r, m)
    go true false true k m = absurd (not_both tags c p.col (eq-eqb c p.col (sym (eqb-true p.col c m))) f k)
    go true false false k m = refl

-- at a free column the row has the sum of what is pushed there
inserted-at : (tags : List ℕ) (i c : ℕ) (ps : List Push) (es : List Entry) → free tags c ≡ true → Rising 0 es → value_at (inserted tags i ps es) c ≡ summed i c ps (value_at es c)
unfolding inserted summed
inserted-at tags i c [] es f r = refl
inserted-at tags i c (p ∷ ps) es f r =
    inserted-at tags i c ps (pushed tags i p es) f (pushed_rising tags i p es r) ∙ ap (λ (o : Option Float). summed i c ps o) (pushed_at tags i c p es f r)

pushed-held : (tags : List ℕ) (i c : ℕ) (p : Push) (es : List Entry) → free tags c ≡ false → Rising 0 es → value_at (pushed tags i p es) c ≡ value_at es c
pushed-held tags i c p es f r = go (eqb p.row i) (free tags p.col) (eqb p.col c) refl refl
  where
    go : (b d x : Bool) → free tags p.col ≡ d → eqb p.col c ≡ x → value_at (pick (b && d) (insert p.col p.value es) es) c ≡ value_at es c
    go false d x k m = refl
    go true false x k m = refl
    go true true true k m = absurd (not_both tags p.col c m k f)
    go true true false k m = rw (value_at-insert 0 p.col c p.value es r, m)

-- at a held column it has what was there before
inserted-held : (tags : List ℕ) (i c : ℕ) (ps : List Push) (es : List Entry) → free tags c ≡ false → Rising 0 es → value_at (inserted tags i ps es) c ≡ value_at es c
unfolding inserted
inserted-held tags i c [] es f r = refl
inserted-held tags i c (p ∷ ps) es f r = inserted-held tags i c ps (pushed tags i p es) f (pushed_rising tags i p es r) ∙ pushed-held tags i c p es f r

-- ---- the two places of a pair

-- which of two vertices a corner is
data Side : Bool → Bool → Type 0 where
  first : Side true false
  second : Side false true
  neither : Side false false

side : (c a b : ℕ) → (a ≡ b → ⊥) → Side (eqb c a) (eqb c b)
side c a b n = go (eqb c a) (eqb c b) refl refl
  where
    go : (x y : Bool) → eqb c a ≡ x → eqb c b ≡ y → Side x y
    go true true p q = absurd (n (sym (eqb-true c a p) ∙ eqb-true c b q))
    go true false p q = first
    go false true p q = second
    go false false p q = neither

-- a triangle's nine values, each added where its test passes
abbrev adds : Bool → Bool → Bool → Bool → Bool → Bool → Float → Float → Float → Float → Float → Float → Option Float → Option Float
adds ia ja ka ib jb kb ii ij ik jj jk kk o0 =
    let o1 = pick (ia && ib) (more o0 ii) o0 in
    let o2 = pick (ia && jb) (more o1 ij) o1 in
    let o3 = pick (ia && kb) (more o2 ik) o2 in
    let o4 = pick (ja && ib) (more o3 ij) o3 in
    let o5 = pick (ja && jb) (more o4 jj) o4 in
    let o6 = pick (ja && kb) (more o5 jk) o5 in
    let o7 = pick (ka && ib) (more o6 ik) o6 in
    let o8 = pick (ka && jb) (more o7 jk) o7 in
    pick (ka && kb) (more o8 kk) o8

adds_swap : {ia ja ka ib jb kb : Bool} → Side ia ib → Side ja jb → Side ka kb → (ii ij ik jj jk kk : Float) (o : Option Float)
    → adds ia ja ka ib jb kb ii ij ik jj jk kk o ≡ adds ib jb kb ia ja ka ii ij ik jj jk kk o
adds_swap first first first ii ij ik jj jk kk o = refl
adds_swap first first second ii ij ik jj jk kk o = refl
adds_swap first first neither ii ij ik jj jk kk o = refl
adds_swap first second first ii ij ik jj jk kk o = refl
adds_swap first second second ii ij ik jj jk kk o = refl
adds_swap first second neither ii ij ik jj jk kk o = refl
adds_swap first neither first ii ij ik jj jk kk o = refl
adds_swap first neither second ii ij ik jj jk kk o = refl
adds_swap first neither neither ii ij ik jj jk kk o = refl
adds_swap second first first ii ij ik jj jk kk o = refl
adds_swap second first second ii ij ik jj jk kk o = refl
adds_swap second first neither ii ij ik jj jk kk o = refl
adds_swap second second first ii ij ik jj jk kk o = refl
adds_swap second second second ii ij ik jj jk kk o = refl
adds_swap second second neither ii ij ik jj jk kk o = refl
adds_swap second neither first ii ij ik jj jk kk o = refl
adds_swap second neither second ii ij ik jj jk kk o = refl
adds_swap second neither neither ii ij ik jj jk kk o = refl
adds_swap neither first first ii ij ik jj jk kk o = refl
adds_swap neither first second ii ij ik jj jk kk o = refl
adds_swap neither first neither ii ij ik jj jk kk o = refl
adds_swap neither second first ii ij ik jj jk kk o = refl
adds_swap neither second second ii ij ik jj jk kk o = refl
adds_swap neither second neither ii ij ik jj jk kk o = refl
adds_swap neither neither first ii ij ik jj jk kk o = refl
adds_swap neither neither second ii ij ik jj jk kk o = refl
adds_swap neither neither neither ii ij ik jj jk kk o = refl

nine_swap : (a b i j k : ℕ) (ii ij ik jj jk kk : Float) (acc : Option Float) → (a ≡ b → ⊥)
    → summed a b (nine i j k ii ij ik jj jk kk) acc ≡ summed b a (nine i j k ii ij ik jj jk kk) acc
unfolding summed
nine_swap a b i j k ii ij ik jj jk kk acc n = adds_swap (side i a b n) (side j a b n) (side k a b n) ii ij ik jj jk kk acc

triangle_swap : (flat : Float) (vs : List Float) (a b i j k : ℕ) (acc : Option Float) → (a ≡ b → ⊥) → summed a b (triangle_pushes flat vs i j k) acc ≡ summed b a (triangle_pushes flat vs i j k) acc
unfolding triangle_pushes summed
triangle_swap flat vs a b i j k acc n = go (lt (abs_of (area2 (slope (vertex vs j) (vertex vs k)) (slope (vertex vs k) (vertex vs i)))) flat)
  where
    inv : Float
    inv = one ⊘ abs_of (area2 (slope (vertex vs j) (vertex vs k)) (slope (vertex vs k) (vertex vs i)))

    nines : List Push
    nines = stiff i j k (slope (vertex vs j) (vertex vs k)) (slope (vertex vs k) (vertex vs i)) (slope (vertex vs i) (vertex vs j)) inv

    go : (t : Bool) → summed a b (pick t [] nines) acc ≡ summed b a (pick t [] nines) acc
    go true = refl
    go false = nine_swap a b i j k _ _ _ _ _ _ acc n

pushes_swap : (flat : Float) (vs : List Float) (ts : List ℕ) (a b : ℕ) (acc : Option Float) → (a ≡ b → ⊥) → summed a b (pushes flat vs ts) acc ≡ summed b a (pushes flat vs ts) acc
unfolding pushes summed
pushes_swap flat vs [] a b acc n = refl
pushes_swap flat vs (i ∷ []) a b acc n = refl
pushes_swap flat vs (i ∷ j ∷ []) a b acc n = refl
pushes_swap flat vs (i ∷ j ∷ k ∷ ts) a b acc n =
    rw (summed-append a b (triangle_pushes flat vs i j k) (pushes flat vs ts) acc, summed-append b a (triangle_pushes flat vs i j k) (pushes flat vs ts) acc, triangle_swap flat vs a b i j k acc n)
    (pushes_swap flat vs ts a b (summed b a (triangle_pushes flat vs i j k) acc) n)

-- ---- the theorems

-- A held row is its lone 1.
pub held-row : (tags : List ℕ) (ps : List Push) (i : ℕ) → free tags i ≡ false → row tags ps i ≡ entry i one ∷ []
unfolding row
held-row tags ps i h = rw h

-- A held column has its lone 1 and no other entry.
pub held_column_lem : (tags : List ℕ) (ps : List Push) (i c : ℕ) → free tags c ≡ false → value_at (row tags ps i) c ≡ pick (eqb i c) (Some one) None
unfolding row value_at Rising
held_column_lem tags ps i c h = go (free tags i) (eqb i c) refl refl
  where
    go : (f x : Bool) → free tags i ≡ f → eqb i c ≡ x → value_at (pick f (inserted tags i ps []) (entry i one ∷ [])) c ≡ pick x (Some one) None
    go false x p q = rw q
    go true true p q = absurd (not_both tags i c q p h)
    go true false p q = inserted-held tags i c ps [] h tt

free-entry : (tags : List ℕ) (ps : List Push) (a b : ℕ) → free tags a ≡ true → free tags b ≡ true → value_at (row tags ps a) b ≡ summed a b ps None
unfolding row value_at Rising
free-entry tags ps a b fa fb = rw fa (inserted-at tags a b ps [] fb tt)

-- off the diagonal a held vertex has nothing, in its row and in its column
held-entry : (tags : List ℕ) (ps : List Push) (a b : ℕ) → free tags a ≡ false → eqb a b ≡ false → value_at (row tags ps a) b ≡ None
unfolding value_at
held-entry tags ps a b h e = rw (held-row tags ps a h, e)

held_across : (tags : List ℕ) (ps : List Push) (a b : ℕ) → free tags a ≡ false → eqb a b ≡ false → value_at (row tags ps a) b ≡ value_at (row tags ps b) a
held_across tags ps a b h e =
    let f : eqb b a ≡ false = ne_eqb b a (λ (k : b ≡ a). eqb-false a b e (sym k)) in
    held-entry tags ps a b h e ∙ sym (rw f at (held_column_lem tags ps b a h))

-- The matrix equals its transpose, entries and their bits alike, for every mesh.
pub symmetric : (tags : List ℕ) (flat : Float) (vs : List Float) (ts : List ℕ) (a b : ℕ) → value_at (row tags (pushes flat vs ts) a) b ≡ value_at (row tags (pushes flat vs ts) b) a
symmetric tags flat vs ts a b = go (free tags a) (free tags b) (eqb a b) refl refl refl
  where
    ps : List Push
    ps = pushes flat vs ts

    go : (fa fb x : Bool) → free tags a ≡ fa → free tags b ≡ fb → eqb a b ≡ x → value_at (row tags (pushes flat vs ts) a) b ≡ value_at (row tags (pushes flat vs ts) b) a
    go fa fb true p q e = let k : a ≡ b = eqb-true a b e in cc
    go false fb false p q e = held_across tags (pushes flat vs ts) a b p e
    go true false false p q e = sym (held_across tags (pushes flat vs ts) b a q (ne_eqb b a (λ (k : b ≡ a). eqb-false a b e (sym k))))
    go true true false p q e =
        free-entry tags (pushes flat vs ts) a b p q ∙ pushes_swap flat vs ts a b None (eqb-false a b e) ∙ sym (free-entry tags (pushes flat vs ts) b a q p)

-- Columns rise in every row.
pub row_rising : (tags : List ℕ) (ps : List Push) (i : ℕ) → Rising 0 (row tags ps i)
unfolding row Rising
row_rising tags ps i = go (free tags i)
  where
    go : (f : Bool) → Rising 0 (pick f (inserted tags i ps []) (entry i one ∷ []))
    go true = inserted_rising tags i ps [] tt
    go false = (omega arith, tt)

-- each column that is pushed is below n
unfoldable pub PushedBelow : ℕ → List Push → Type 0
PushedBelow n [] = Unit
PushedBelow n (p ∷ ps) = (p.col < n) × PushedBelow n ps

inserted_below : (n : ℕ) (tags : List ℕ) (i : ℕ) (ps : List Push) (es : List Entry) → PushedBelow n ps → Below n es → Below n (inserted tags i ps es)
unfolding inserted PushedBelow
inserted_below n tags i [] es h r = r
inserted_below n tags i (p ∷ ps) es h r = inserted_below n tags i ps (pushed tags i p es) h.1 (go (eqb p.row i && free tags p.col))
  where
    go : (b : Bool) → Below n (pick b (insert p.col p.value es) es)
    go true = insert_below n p.col p.value es h.0 r
    go false = r

-- Columns are below n in every row of a vertex below n, where those pushed are.
pub row_below : (n : ℕ) (tags : List ℕ) (ps : List Push) (i : ℕ) → i < n → PushedBelow n ps → Below n (row tags ps i)
unfolding row Below
row_below n tags ps i h k = go (free tags i)
  where
    go : (f : Bool) → Below n (pick f (inserted tags i ps []) (entry i one ∷ []))
    go true = inserted_below n tags i ps [] k tt
    go false = (h, tt)

-- each number of a list is below n
unfoldable pub AllBelow : ℕ → List ℕ → Type 0
AllBelow n [] = Unit
AllBelow n (t ∷ ts) = (t < n) × AllBelow n ts

below_append : (n : ℕ) (ps qs : List Push) → PushedBelow n ps → PushedBelow n qs → PushedBelow n (ps ++ qs)
unfolding PushedBelow
below_append n [] qs h k = k
below_append n (p ∷ ps) qs h k = (h.0, below_append n ps qs h.1 k)

triangle_below : (n : ℕ) (flat : Float) (vs : List Float) (i j k : ℕ) → i < n → j < n → k < n → PushedBelow n (triangle_pushes flat vs i j k)
unfolding triangle_pushes PushedBelow
triangle_below n flat vs i j k hi hj hk = go (lt (abs_of (area2 (slope (vertex vs j) (vertex vs k)) (slope (vertex vs k) (vertex vs i)))) flat)
  where
    go : (t : Bool) → PushedBelow n (pick t [] (stiff i j k (slope (vertex vs j) (vertex vs k)) (slope (vertex vs k) (vertex vs i)) (slope (vertex vs i) (vertex vs j)) (one ⊘ abs_of (area2 (slope (vertex vs j) (vertex vs k)) (slope (vertex vs k) (vertex vs i))))))
    go true = tt
    go false = (hi, (hj, (hk, (hi, (hj, (hk, (hi, (hj, (hk, tt)))))))))

-- What the triangles push is below n, where their corners are.
pub pushes_below : (n : ℕ) (flat : Float) (vs : List Float) (ts : List ℕ) → AllBelow n ts → PushedBelow n (pushes flat vs ts)
unfolding pushes PushedBelow AllBelow
pushes_below n flat vs [] h = tt
pushes_below n flat vs (i ∷ []) h = tt
pushes_below n flat vs (i ∷ j ∷ []) h = tt
pushes_below n flat vs (i ∷ j ∷ k ∷ ts) h =
    below_append n (triangle_pushes flat vs i j k) (pushes flat vs ts) (triangle_below n flat vs i j k h.0 h.1.0 h.1.1.0) (pushes_below n flat vs ts h.1.1.1)

-- ---- how many entries

-- how many are pushed to row i, and to the first n rows
unfoldable in_row : ℕ → List Push → ℕ
in_row i [] = 0
in_row i (p ∷ ps) = pick (eqb p.row i) 1 0 + in_row i ps

unfoldable in_rows : ℕ → List Push → ℕ
unfolding in_row
in_rows zero ps = 0
in_rows (suc n) ps = in_rows n ps + in_row n ps

inserted-length : (tags : List ℕ) (i : ℕ) (ps : List Push) (es : List Entry) → length (inserted tags i ps es) ≤ length es + in_row i ps
unfolding inserted in_row
inserted-length tags i [] es = omega arith
inserted-length tags i (p ∷ ps) es = go (eqb p.row i) (free tags p.col) (inserted-length tags i ps (pushed tags i p es))
  where
    go : (b f : Bool) → length (inserted tags i ps (pick (b && f) (insert p.col p.value es) es)) ≤ length (pick (b && f) (insert p.col p.value es) es) + in_row i ps
        → length (inserted tags i ps (pick (b && f) (insert p.col p.value es) es)) ≤ length es + (pick b 1 0 + in_row i ps)
    go true true h = omega (arith, insert-length p.col p.value es)
    go true false h = omega arith
    go false f h = omega arith

-- a push is of one row at most
in_rows_cons : (n : ℕ) (p : Push) (ps : List Push) → (in_rows n (p ∷ ps) ≤ suc (in_rows n ps)) × (n ≤ p.row → in_rows n (p ∷ ps) ≡ in_rows n ps)
unfolding in_rows in_row
in_rows_cons zero p ps = (omega arith, λ (h : 0 ≤ p.row). refl)
in_rows_cons (suc n) p ps = go (eqb p.row n) refl (in_rows_cons n p ps)
  where
    go : (b : Bool) → eqb p.row n ≡ b → (in_rows n (p ∷ ps) ≤ suc (in_rows n ps)) × (n ≤ p.row → in_rows n (p ∷ ps) ≡ in_rows n ps)
        → (in_rows n (p ∷ ps) + (pick b 1 0 + in_row n ps) ≤ suc (in_rows n ps + in_row n ps)) × (suc n ≤ p.row → in_rows n (p ∷ ps) + (pick b 1 0 + in_row n ps) ≡ in_rows n ps + in_row n ps)
    go true e h =
        let k : p.row ≡ n = eqb-true p.row n e in
        (omega (arith, h.1 (omega arith)), λ (j : suc n ≤ p.row). absurd (omega arith))
    go false e h = (omega (arith, h.0), λ (j : suc n ≤ p.row). omega (arith, h.1 (omega arith)))

none_in : (n : ℕ) → in_rows n [] ≡ 0
unfolding in_rows in_row
none_in zero = refl
none_in (suc n) = omega (arith, none_in n)

in_rows-le : (n : ℕ) (ps : List Push) → in_rows n ps ≤ length ps
in_rows-le n [] = omega (arith, none_in n)
in_rows-le n (p ∷ ps) = omega (arith, (in_rows_cons n p ps).0, in_rows-le n ps)

triangle-length : (flat : Float) (vs : List Float) (i j k : ℕ) → length (triangle_pushes flat vs i j k) ≤ 9
unfolding triangle_pushes
triangle-length flat vs i j k = go (lt (abs_of (area2 (slope (vertex vs j) (vertex vs k)) (slope (vertex vs k) (vertex vs i)))) flat)
  where
    go : (t : Bool) → length (pick t [] (stiff i j k (slope (vertex vs j) (vertex vs k)) (slope (vertex vs k) (vertex vs i)) (slope (vertex vs i) (vertex vs j)) (one ⊘ abs_of (area2 (slope (vertex vs j) (vertex vs k)) (slope (vertex vs k) (vertex vs i)))))) ≤ 9
    go true = omega arith
    go false = omega arith

pub pushes-length : (flat : Float) (vs : List Float) (ts : List ℕ) → length (pushes flat vs ts) ≤ 3 * length ts
unfolding pushes
pushes-length flat vs [] = omega arith
pushes-length flat vs (i ∷ []) = omega arith
pushes-length flat vs (i ∷ j ∷ []) = omega arith
pushes-length flat vs (i ∷ j ∷ k ∷ ts) = simp length-append (omega (arith, triangle-length flat vs i j k, pushes-length flat vs ts))

-- the entries of all rows
unfoldable pub count : List (List Entry) → ℕ
count [] = 0
count (es ∷ rs) = length es + count rs

pub count-append : (rs qs : List (List Entry)) → count (rs ++ qs) ≡ count rs + count qs
unfolding count
count-append [] qs = omega arith
count-append (es ∷ rs) qs = omega (arith, count-append rs qs)

row-length : (tags : List ℕ) (ps : List Push) (i : ℕ) → length (row tags ps i) ≤ suc (in_row i ps)
unfolding row
row-length tags ps i = go (free tags i)
  where
    go : (f : Bool) → length (pick f (inserted tags i ps []) (entry i one ∷ [])) ≤ suc (in_row i ps)
    go true = omega (arith, inserted-length tags i ps [])
    go false = omega arith

rows-count : (tags : List ℕ) (ps : List Push) (n : ℕ) → count (rows tags ps n) ≤ n + in_rows n ps
unfolding rows in_rows count
rows-count tags ps zero = omega arith
rows-count tags ps (suc n) = omega (arith, count-append (rows tags ps n) (row tags ps n ∷ []), rows-count tags ps n, row-length tags ps n)

-- The matrix has at most 9T + n entries: 3 for each corner of its triangles, and 1 for each vertex.
pub few_entries : (tags : List ℕ) (flat : Float) (vs : List Float) (ts : List ℕ) (n : ℕ) → count (rows tags (pushes flat vs ts) n) ≤ 3 * length ts + n
few_entries tags flat vs ts n = omega (arith, rows-count tags (pushes flat vs ts) n, in_rows-le n (pushes flat vs ts), pushes-length flat vs ts)
