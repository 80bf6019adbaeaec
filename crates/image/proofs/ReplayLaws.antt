-- Laws of opening and of a list of calls written as numbers: each answer of opening, and a turn of the loop over the calls.
-- Assumes nothing.
use Rattle.std.specs.Prelude.{ℕ, zero, suc, ◌+◌, ◌<◌, min, ◌≡◌, refl, true, false, List, [], ◌∷◌, ◌++◌, length, take, drop, set, Float}
use Rattle.std.proofs.Common.{sym, ap, ◌∙◌, add-one, arith, length-append, take-append-drop, drop-cons}
use Rattle.std.proofs.lemmas.List.{set_at}
use Rattle.std.proofs.Math.Seq.{append_snoc}
use Rattle.format.specs.Content.{Content}
use Rattle.format.specs.Sheet.{accepted, refused, parse}
use Rattle.model.specs.Task.{task}
use Rattle.model.specs.Machine.{return, fresh, needs, Lent}
use Rattle.work.specs.declared.Run.{Run}
use Rattle.work.specs.Record.{no_run}
use Rattle.image.specs.Answer.{Answer}
use Rattle.image.specs.Calls.{Buffers, buffers, answered, fault, run_after, buffers_after, Does}
use Rattle.image.specs.CallLaws.{lacking}
use Rattle.image.specs.Image.{run_of, image, rest_of}
use Rattle.image.specs.Lists.{Held, front, behind, performed, performs}
use Rattle.image.specs.Shown.{lengths_of}
use Rattle.image.specs.Replay.{opened, Opens, call_of, lent_at, decoded, Turned, replayed}

-- ---- opening

module _ (sheet : List ℕ) (b : Buffers) where
  pub opens_refused : (k : ℕ) → parse sheet ≡ refused k → Opens sheet b (answered k no_run) b
  unfolding opened
  opens_refused k e = record { answer = rw e; held = rw e }

  pub opens_short : (c : Content) → parse sheet ≡ accepted c → lacking (needs (task c)) (lengths_of b) ≡ true → Opens sheet b (answered 8 no_run) b
  unfolding opened
  opens_short c e t = record { answer = rw (e, t); held = rw (e, t) }

  pub opens_open : (c : Content) (r : Run) (b' : Buffers) → parse sheet ≡ accepted c → lacking (needs (task c)) (lengths_of b) ≡ false → r ≡ run_of (task c) fresh → b' ≡ image (task c) fresh (rest_of (task c) b)
      → Opens sheet b (answered 0 r) b'
  unfolding opened
  opens_open c r b' e t f g = record { answer = rw (e, t) (ap (answered 0) f); held = rw (e, t) g }

-- ---- the calls

pub call_else : (j k : ℕ) → (j ≡ 0 → ⊥) → (j ≡ 1 → ⊥) → (j ≡ 2 → ⊥) → call_of j k ≡ return
call_else zero k x y z = absurd (x refl)
call_else (suc zero) k x y z = absurd (y refl)
call_else (suc (suc zero)) k x y z = absurd (z refl)
call_else (suc (suc (suc j))) k x y z = refl

performs_snoc : (ls : List Lent) (l : Lent) (h : Held) → performs (ls ++ (l ∷ [])) h ≡ performed l (performs ls h)
unfolding performs
performs_snoc [] l h = refl
performs_snoc (x ∷ ls) l h = performs_snoc ls l (performed x h)

pub replayed_none : (l : List ℕ) (r : Run) (b : Buffers) → replayed l 0 r b ≡ record { run = r; all = b; said = [] }
unfolding replayed decoded performs
replayed_none l r b = refl

pub replayed-more : (l : List ℕ) (i : ℕ) (r : Run) (b : Buffers) → replayed l (i + 1) r b ≡ performed (lent_at l i) (replayed l i r b)
unfolding replayed decoded
replayed-more l i r b = rw (add-one i) (performs_snoc (decoded l i) (lent_at l i) (record { run = r; all = b; said = [] }))

-- a refusal for each call
pub length-said : (l : List ℕ) (i : ℕ) (r : Run) (b : Buffers) → length (replayed l i r b).said ≡ i
unfolding performed
length-said l zero r b = ap (λ (h : Held). length h.said) (replayed_none l r b)
length-said l (suc i) r b =
    let e : length (replayed l i r b).said ≡ i = length-said l i r b in
    let f : suc i ≡ i + 1 = omega arith in
    ap (λ (j : ℕ). length (replayed l j r b).said) f ∙ ap (λ (h : Held). length h.said) (replayed-more l i r b) ∙ length-append (replayed l i r b).said _ ∙ omega arith

take_least : {A : Type 0} (k : ℕ) (l : List A) → take (min k (length l)) l ≡ take k l
take_least zero l = ap (λ (j : ℕ). take j l) (let e : min 0 (length l) ≡ 0 = omega arith in e)
take_least (suc k) [] = let e : min (suc k) 0 ≡ 0 = omega arith in rw e
take_least {A} (suc k) (x ∷ l) = let e : min (suc k) (suc (length l)) ≡ suc (min k (length l)) = omega arith in rw e (ap (λ (t : List A). x ∷ t) (take_least k l))

drop_least : {A : Type 0} (k : ℕ) (l : List A) → drop (min k (length l)) l ≡ drop k l
drop_least zero l = ap (λ (j : ℕ). drop j l) (let e : min 0 (length l) ≡ 0 = omega arith in e)
drop_least (suc k) [] = let e : min (suc k) 0 ≡ 0 = omega arith in rw e
drop_least (suc k) (x ∷ l) = let e : min (suc k) (suc (length l)) ≡ suc (min k (length l)) = omega arith in rw e (drop_least k l)

-- a call that is lent the front of each buffer, as far as there is one
pub turned : (l : Lent) (run : Run) (floats : List Float) (words : List ℕ) (path : List Float) (f w p : ℕ) (a : Answer) (floats' path' : List Float) → f ≡ min l.space.floats (length floats)
    → w ≡ min l.space.words (length words) → p ≡ min l.space.path (length path)
    → Does l.call run (buffers (take f floats) (take w words) (take p path)) a (buffers floats' (take w words) path')
    → Turned l run (buffers floats words path) a (buffers (floats' ++ drop f floats) words (path' ++ drop p path))
turned l run floats words path f w p a floats' path' ef ew ep d =
    let s = l.space in
    let all = buffers floats words path in
    let tf : take f floats ≡ take s.floats floats = ap (λ (k : ℕ). take k floats) ef ∙ take_least s.floats floats in
    let tw : take w words ≡ take s.words words = ap (λ (k : ℕ). take k words) ew ∙ take_least s.words words in
    let tp : take p path ≡ take s.path path = ap (λ (k : ℕ). take k path) ep ∙ take_least s.path path in
    let df : drop f floats ≡ drop s.floats floats = ap (λ (k : ℕ). drop k floats) ef ∙ drop_least s.floats floats in
    let dp : drop p path ≡ drop s.path path = ap (λ (k : ℕ). drop k path) ep ∙ drop_least s.path path in
    let dw : take w words ++ drop s.words words ≡ words = ap (λ (x : List ℕ). x ++ drop s.words words) tw ∙ take-append-drop s.words words in
    let b : buffers (take f floats) (take w words) (take p path) ≡ front s all = rw (tf, tw, tp) in
    let held : buffers floats' (take w words) path' ≡ buffers_after l.call run (front s all) = d.held ∙ ap (buffers_after l.call run) b in
    let back : buffers (floats' ++ drop f floats) words (path' ++ drop p path) ≡ behind s all (buffers floats' (take w words) path') = rw (df, dp, dw) in
    record { said = d.said ∙ ap (fault l.call run) b; left = d.left ∙ ap (run_after l.call run) b; held = back ∙ ap (behind s all) held }

-- a turn of the loop is the next call
pub turn : (h : Held) (l : Lent) (run : Run) (b : Buffers) (a : Answer) (b' : Buffers) → run ≡ h.run → b ≡ h.all → Turned l run b a b'
    → performed l h ≡ record { run = a.run; all = b'; said = h.said ++ (a.refused ∷ []) }
unfolding performed
turn h l run b a b' e f t = rw (← e, ← f, ← t.left, ← t.held, ← t.said)

-- and its refusal goes to the next place
pub said_more : (s said₀ : List ℕ) (i v : ℕ) → length s ≡ i → i < length said₀ → set (s ++ drop i said₀) i v ≡ (s ++ (v ∷ [])) ++ drop (i + 1) said₀
said_more s said₀ i v e h = rw (add-one, drop-cons said₀ i 0 h, set_at s _ (drop (suc i) said₀) v i e) (sym (append_snoc s v (drop (suc i) said₀)))
