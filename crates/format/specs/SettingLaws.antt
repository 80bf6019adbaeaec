-- Section 5: its items and the settings that they say are inverse. Assumes nothing.
use Rattle.std.specs.Prelude.{ℕ, Option, Some, None, ◌+◌, ◌*◌, ◌/◌, ◌%◌, ◌^◌, ◌≤◌, ◌<◌, ◌≡◌, refl, Bool, true, false, not, ◌&&◌, List, [], ◌∷◌, ◌++◌, map, T, leb, ltb, eqb, Float, length}
use Rattle.std.proofs.Common.{zero-le, suc-le-suc, sym, ap, ap₂, ◌∙◌, subst, append-nil, append_assoc, div-lt_iff_lt-mul, arith, ltb-true, lt-ltb, leb-true, eqb-true, lit<, length-append}
use Rattle.std.specs.Float.{binary64}
use Rattle.std.specs.Float.Ieee.{of_bits, to_bits, nan_bits, is_nan}
use Rattle.std.specs.Float.Ieee.Bits.{of_bits-to_bits, to_bits-of_bits, to_bits-lt, nan_bits_is}
use Rattle.binary64.specs.Number.{pick}
use Rattle.format.specs.declared.Settings.{Settings}
use Rattle.format.specs.Setting.{Setting, Limit, Tolerance, Step, StartX, StartY, Room, Unknown, NotANumber}
use Rattle.format.specs.Refusal.{◌then◌, each, whole_fault, real_fault, finite, coordinate, positive, setting_fault, given, present}
use Rattle.format.specs.Sheet.{kind_of, value_of, item_of, real_of, setting_of, item_kind, item_setting, in_turn, no_settings, adding, gathered}
use Rattle.format.specs.Range.{IfGiven, Double}
use Rattle.format.specs.BytesLaws.{Under, under_nil, under_cons, under_head, under_tail}
use Rattle.format.specs.RefusalLaws.{Neither, neither, then_none, passes, pick_true, pick_false, both, proper}

-- ---- one item, from its number and back

-- the setting has this kind and this value
pub record Says (k v : ℕ) (s : Setting) : Type 0 where
  pub kind : kind_of s ≡ k
  pub value : value_of s ≡ v

fails : {t : Bool} → t ≡ false → T (not t)
fails e = subst (λ (t : Bool). T (not t)) (sym e) tt

-- a pattern that is no NaN's
pub pattern_back : (v : ℕ) → v < 2 ^ 64 → nan_bits binary64 v ≡ false → to_bits binary64 (of_bits binary64 v) ≡ v
pattern_back v h e = to_bits-of_bits binary64 v h (fails (sym (nan_bits_is binary64 v) ∙ e))

choose : (k v j : ℕ) (t : Bool) → eqb k j ≡ t → (a b : Setting) → (k ≡ j → setting_fault a ≡ 0 → Says k v a) → (setting_fault b ≡ 0 → Says k v b)
    → setting_fault (pick t a b) ≡ 0 → Says k v (pick t a b)
choose k v j true e a b p q h = p (eqb-true k j e) h
choose k v j false e a b p q h = q h

says_real : (k v j : ℕ) (make : Float → Setting) → v < 2 ^ 64 → ((x : Float) → Says j (to_bits binary64 x) (make x)) → k ≡ j → setting_fault (real_of make v) ≡ 0
    → Says k v (real_of make v)
unfolding setting_fault
says_real k v j make l says e h = go (nan_bits binary64 v) refl h
  where
    x : Float
    x = of_bits binary64 v

    go : (t : Bool) → nan_bits binary64 v ≡ t → setting_fault (pick t NotANumber (make x)) ≡ 0 → Says k v (pick t NotANumber (make x))
    go true n h = absurd (omega arith)
    go false n h = record { kind = (says x).kind ∙ sym e; value = (says x).value ∙ pattern_back v l n }

pub setting_of_says : (k v : ℕ) → v < 2 ^ 64 → setting_fault (setting_of k v) ≡ 0 → Says k v (setting_of k v)
unfolding setting_of setting_fault kind_of value_of
setting_of_says k v l =
    choose k v 1 (eqb k 1) refl _ _ (λ e h. record { kind = sym e; value = refl })
    (choose k v 2 (eqb k 2) refl _ _ (says_real k v 2 Tolerance l (λ x. record { kind = refl; value = refl }))
    (choose k v 3 (eqb k 3) refl _ _ (says_real k v 3 Step l (λ x. record { kind = refl; value = refl }))
    (choose k v 4 (eqb k 4) refl _ _ (says_real k v 4 StartX l (λ x. record { kind = refl; value = refl }))
    (choose k v 5 (eqb k 5) refl _ _ (says_real k v 5 StartY l (λ x. record { kind = refl; value = refl }))
    (choose k v 6 (eqb k 6) refl _ _ (λ e h. record { kind = sym e; value = refl })
    (λ h. absurd (omega arith)))))))

-- the item of what an item says
pub item_back : (x : ℕ) → x < 256 ^ 9 → setting_fault (item_setting x) ≡ 0 → item_of (item_setting x) ≡ x
unfolding item_of
item_back x l h =
    let s : Says (x % 256) (x / 256) (item_setting x) = setting_of_says (x % 256) (x / 256) ((div-lt_iff_lt-mul (lit< tt)).1 l) h in
    ap₂ (λ (k v : ℕ). k + 256 * v) s.kind s.value ∙ omega arith

-- a number in a setting is a binary64 number in its one form
abbrev pub DoubleIn : Setting → Type 0
DoubleIn (Limit v) = Unit {0}
DoubleIn (Tolerance x) = Double x
DoubleIn (Step x) = Double x
DoubleIn (StartX x) = Double x
DoubleIn (StartY x) = Double x
DoubleIn (Room v) = Unit {0}
DoubleIn Unknown = Unit {0}
DoubleIn NotANumber = Unit {0}

kind_small : (s : Setting) → kind_of s < 256
unfolding kind_of
kind_small (Limit v) = lit< tt
kind_small (Tolerance x) = lit< tt
kind_small (Step x) = lit< tt
kind_small (StartX x) = lit< tt
kind_small (StartY x) = lit< tt
kind_small (Room v) = lit< tt
kind_small Unknown = lit< tt
kind_small NotANumber = lit< tt

pub item_kind_lem : (s : Setting) → item_kind (item_of s) ≡ kind_of s
unfolding item_of
item_kind_lem s = let h : kind_of s < 256 = kind_small s in omega arith

item_value : (s : Setting) → item_of s / 256 ≡ value_of s
unfolding item_of
item_value s = let h : kind_of s < 256 = kind_small s in omega arith

real_back : (make : Float → Setting) (good : Float → Bool) (x : Float) → real_fault good x ≡ 0 → Double x → real_of make (to_bits binary64 x) ≡ make x
real_back make good x h d =
    let b : of_bits binary64 (to_bits binary64 x) ≡ x = of_bits-to_bits binary64 x d in
    pick_false NotANumber (make (of_bits binary64 (to_bits binary64 x))) (nan_bits_is binary64 (to_bits binary64 x) ∙ ap is_nan b ∙ (proper good x h).number) ∙ ap make b

setting_says : (s : Setting) → setting_fault s ≡ 0 → DoubleIn s → setting_of (kind_of s) (value_of s) ≡ s
unfolding setting_of setting_fault kind_of value_of
setting_says (Limit v) h d = refl
setting_says (Tolerance x) h d = real_back Tolerance finite x h d
setting_says (Step x) h d = real_back Step positive x h d
setting_says (StartX x) h d = real_back StartX coordinate x h d
setting_says (StartY x) h d = real_back StartY coordinate x h d
setting_says (Room v) h d = refl
setting_says Unknown h d = absurd (omega arith)
setting_says NotANumber h d = absurd (omega arith)

-- what the item of a setting says
pub setting_back : (s : Setting) → setting_fault s ≡ 0 → DoubleIn s → item_setting (item_of s) ≡ s
setting_back s h d = ap₂ setting_of (item_kind_lem s) (item_value s) ∙ setting_says s h d

pub whole_le : (low high v : ℕ) → whole_fault low high v ≡ 0 → v ≤ high
whole_le low high v h = leb-true v high (both (leb low v) (leb v high) (passes (leb low v && leb v high) 6 h)).right

value-small : (s : Setting) → setting_fault s ≡ 0 → DoubleIn s → value_of s < 2 ^ 64
unfolding setting_fault value_of
value-small (Limit v) h d = omega (arith, whole_le 0 100000 v h)
value-small (Tolerance x) h d = to_bits-lt binary64 x d
value-small (Step x) h d = to_bits-lt binary64 x d
value-small (StartX x) h d = to_bits-lt binary64 x d
value-small (StartY x) h d = to_bits-lt binary64 x d
value-small (Room v) h d = omega (arith, whole_le 1 1000000 v h)
value-small Unknown h d = lit< tt
value-small NotANumber h d = lit< tt

item_small : (s : Setting) → setting_fault s ≡ 0 → DoubleIn s → item_of s < 256 ^ 9
unfolding item_of
item_small s h d =
    let k : kind_of s < 256 = kind_small s in
    let v : value_of s < 2 ^ 64 = value-small s h d in
    omega arith

-- ---- a list of items

-- kinds rise, each above `last`
abbrev pub Rising : ℕ → List Setting → Type 0
Rising last [] = Unit {0}
Rising last (s ∷ ss) = (last < kind_of s) × Rising (kind_of s) ss

abbrev pub AllDouble : List Setting → Type 0
AllDouble [] = Unit {0}
AllDouble (s ∷ ss) = DoubleIn s × AllDouble ss

pub rises : {i j : ℕ} (ss : List Setting) → i ≤ j → Rising j ss → Rising i ss
rises [] h r = tt
rises (s ∷ ss) h r = let g : _ < kind_of s = r.0 in (omega arith, r.1)

-- what items in turn tell
pub record InTurn (last : ℕ) (xs : List ℕ) : Type 0 where
  pub rising : Rising last (map item_setting xs)
  pub clean : each setting_fault (map item_setting xs) ≡ 0
  pub back : map item_of (map item_setting xs) ≡ xs

pub in_turn_lem : (last : ℕ) (xs : List ℕ) → Under (256 ^ 9) xs → in_turn last xs ≡ 0 → InTurn last xs
unfolding in_turn each
in_turn_lem last [] u h = record { rising = tt; clean = refl; back = refl }
in_turn_lem last (x ∷ xs) u h =
    let p : Neither (pick (ltb last (item_kind x)) 0 5) (setting_fault (item_setting x) then in_turn (item_kind x) xs) = neither _ _ h in
    let q : Neither (setting_fault (item_setting x)) (in_turn (item_kind x) xs) = neither _ _ p.second in
    let l : last < item_kind x = ltb-true _ _ (passes (ltb last (item_kind x)) 4 p.first) in
    let b : x < 256 ^ 9 = under_head u in
    let k : kind_of (item_setting x) ≡ item_kind x = (setting_of_says (x % 256) (x / 256) ((div-lt_iff_lt-mul (lit< tt)).1 b) q.first).kind in
    let r : InTurn (item_kind x) xs = in_turn_lem (item_kind x) xs (under_tail u) q.second in
    record {
      rising = (subst (λ (n : ℕ). last < n) (sym k) l, subst (λ (n : ℕ). Rising n (map item_setting xs)) (sym k) r.rising);
      clean = then_none q.first r.clean;
      back = ap₂ (λ (y : ℕ) (ys : List ℕ). y ∷ ys) (item_back x b q.first) r.back;
    }

pub settings_back : (ss : List Setting) → each setting_fault ss ≡ 0 → AllDouble ss → map item_setting (map item_of ss) ≡ ss
unfolding each
settings_back [] h d = refl
settings_back (s ∷ ss) h d =
    let p : Neither (setting_fault s) (each setting_fault ss) = neither _ _ h in
    ap₂ (λ (y : Setting) (ys : List Setting). y ∷ ys) (setting_back s p.first d.0) (settings_back ss p.second d.1)

pub items_under : (ss : List Setting) → each setting_fault ss ≡ 0 → AllDouble ss → Under (256 ^ 9) (map item_of ss)
unfolding each
items_under [] h d = under_nil
items_under (s ∷ ss) h d =
    let p : Neither (setting_fault s) (each setting_fault ss) = neither _ _ h in
    under_cons (item_small s p.first d.0) (items_under ss p.second d.1)

pub items_in_turn : (last : ℕ) (ss : List Setting) → Rising last ss → each setting_fault ss ≡ 0 → AllDouble ss → in_turn last (map item_of ss) ≡ 0
unfolding in_turn each
items_in_turn last [] r h d = refl
items_in_turn last (s ∷ ss) r h d =
    let p : Neither (setting_fault s) (each setting_fault ss) = neither _ _ h in
    then_none (pick_true 0 5 (lt-ltb _ _ (subst (λ (n : ℕ). last < n) (sym (item_kind_lem s)) r.0)))
    (then_none (ap setting_fault (setting_back s p.first d.0) ∙ p.first)
    (ap (λ (n : ℕ). in_turn n (map item_of ss)) (item_kind_lem s) ∙ items_in_turn (kind_of s) ss r.1 p.second d.1))

-- ---- settings, from the list of those that are present and back

-- nothing of a kind above `last`
pub record Fresh (last : ℕ) (s : Settings) : Type 0 where
  pub limit : last < 1 → s.limit ≡ None
  pub tolerance : last < 2 → s.tolerance ≡ None
  pub step : last < 3 → s.step ≡ None
  pub x : last < 4 → s.x ≡ None
  pub y : last < 5 → s.y ≡ None
  pub room : last < 6 → s.room ≡ None

pub fresh_none : Fresh 0 no_settings
fresh_none = record { limit = λ h. refl; tolerance = λ h. refl; step = λ h. refl; x = λ h. refl; y = λ h. refl; room = λ h. refl }

record Added (last : ℕ) (s : Settings) (a : Setting) : Type 0 where
  listed : present (adding s a) ≡ present s ++ (a ∷ [])
  fresh : Fresh (kind_of a) (adding s a)

later : (last k : ℕ) (s : Settings) → Fresh last s → last < k → Fresh k s
later last k s f h = record {
  limit = λ g. f.limit (omega arith);
  tolerance = λ g. f.tolerance (omega arith);
  step = λ g. f.step (omega arith);
  x = λ g. f.x (omega arith);
  y = λ g. f.y (omega arith);
  room = λ g. f.room (omega arith);
}

added : (last : ℕ) (s : Settings) (a : Setting) → Fresh last s → last < kind_of a → Added last s a
unfolding adding present kind_of
added last s (Limit v) f h =
    record {
      listed = rw (f.limit (omega arith), f.tolerance (omega arith), f.step (omega arith), f.x (omega arith), f.y (omega arith), f.room (omega arith));
      fresh = (let l : Fresh 1 s = later last 1 s f h in record { limit = λ g. absurd (omega arith); tolerance = l.tolerance; step = l.step; x = l.x; y = l.y; room = l.room });
    }
added last s (Tolerance v) f h =
    record {
      listed = rw (f.tolerance (omega arith), f.step (omega arith), f.x (omega arith), f.y (omega arith), f.room (omega arith)) (simp append-nil);
      fresh = (let l : Fresh 2 s = later last 2 s f h in record { limit = l.limit; tolerance = λ g. absurd (omega arith); step = l.step; x = l.x; y = l.y; room = l.room });
    }
added last s (Step v) f h =
    record {
      listed = rw (f.step (omega arith), f.x (omega arith), f.y (omega arith), f.room (omega arith)) (simp (append-nil, append_assoc));
      fresh = (let l : Fresh 3 s = later last 3 s f h in record { limit = l.limit; tolerance = l.tolerance; step = λ g. absurd (omega arith); x = l.x; y = l.y; room = l.room });
    }
added last s (StartX v) f h =
    record {
      listed = rw (f.x (omega arith), f.y (omega arith), f.room (omega arith)) (simp (append-nil, append_assoc));
      fresh = (let l : Fresh 4 s = later last 4 s f h in record { limit = l.limit; tolerance = l.tolerance; step = l.step; x = λ g. absurd (omega arith); y = l.y; room = l.room });
    }
added last s (StartY v) f h =
    record {
      listed = rw (f.y (omega arith), f.room (omega arith)) (simp (append-nil, append_assoc));
      fresh = (let l : Fresh 5 s = later last 5 s f h in record { limit = l.limit; tolerance = l.tolerance; step = l.step; x = l.x; y = λ g. absurd (omega arith); room = l.room });
    }
added last s (Room v) f h =
    record {
      listed = rw (f.room (omega arith)) (simp (append-nil, append_assoc));
      fresh = (let l : Fresh 6 s = later last 6 s f h in record { limit = l.limit; tolerance = l.tolerance; step = l.step; x = l.x; y = l.y; room = λ g. absurd (omega arith) });
    }
added last s Unknown f h = absurd (omega arith)
added last s NotANumber f h = absurd (omega arith)

-- the settings gathered from a list with rising kinds are present in that order
pub present-gathered : (last : ℕ) (s : Settings) (ss : List Setting) → Fresh last s → Rising last ss → present (gathered s ss) ≡ present s ++ ss
unfolding gathered
present-gathered last s [] f r = sym (append-nil (present s))
present-gathered last s (a ∷ ss) f r =
    let b : Added last s a = added last s a f r.0 in
    present-gathered (kind_of a) (adding s a) ss b.fresh r.1 ∙ ap (λ (l : List Setting). l ++ ss) b.listed ∙ append_assoc (present s) (a ∷ []) ss

pub present_none : present no_settings ≡ []
unfolding present
present_none = refl

gathered-append : (s : Settings) (xs ys : List Setting) → gathered s (xs ++ ys) ≡ gathered (gathered s xs) ys
unfolding gathered
gathered-append s [] ys = refl
gathered-append s (x ∷ xs) ys = gathered-append (adding s x) xs ys

abbrev settings : Option ℕ → Option Float → Option Float → Option Float → Option Float → Option ℕ → Settings
settings l t s x y r = record { limit = l; tolerance = t; step = s; x = x; y = y; room = r }

gather_limit : (l : Option ℕ) → gathered (settings None None None None None None) (given Limit l) ≡ settings l None None None None None
unfolding gathered adding
gather_limit None = refl
gather_limit (Some v) = refl

gather_tolerance : (l : Option ℕ) (t : Option Float) → gathered (settings l None None None None None) (given Tolerance t) ≡ settings l t None None None None
unfolding gathered adding
gather_tolerance l None = refl
gather_tolerance l (Some v) = refl

gather_step : (l : Option ℕ) (t s : Option Float) → gathered (settings l t None None None None) (given Step s) ≡ settings l t s None None None
unfolding gathered adding
gather_step l t None = refl
gather_step l t (Some v) = refl

gather_x : (l : Option ℕ) (t s x : Option Float) → gathered (settings l t s None None None) (given StartX x) ≡ settings l t s x None None
unfolding gathered adding
gather_x l t s None = refl
gather_x l t s (Some v) = refl

gather_y : (l : Option ℕ) (t s x y : Option Float) → gathered (settings l t s x None None) (given StartY y) ≡ settings l t s x y None
unfolding gathered adding
gather_y l t s x None = refl
gather_y l t s x (Some v) = refl

gather_room : (l : Option ℕ) (t s x y : Option Float) (r : Option ℕ) → gathered (settings l t s x y None) (given Room r) ≡ settings l t s x y r
unfolding gathered adding
gather_room l t s x y None = refl
gather_room l t s x y (Some v) = refl

gather_on : (s : Settings) {s' r : Settings} (xs ys : List Setting) → gathered s xs ≡ s' → gathered s' ys ≡ r → gathered s (xs ++ ys) ≡ r
gather_on s xs ys p q = gathered-append s xs ys ∙ ap (λ (g : Settings). gathered g ys) p ∙ q

-- the settings gathered from those that are present
pub gathered-present : (s : Settings) → gathered no_settings (present s) ≡ s
unfolding present
gathered-present s =
    gather_on _ (given Limit s.limit) _ (gather_limit s.limit)
    (gather_on _ (given Tolerance s.tolerance) _ (gather_tolerance s.limit s.tolerance)
    (gather_on _ (given Step s.step) _ (gather_step s.limit s.tolerance s.step)
    (gather_on _ (given StartX s.x) _ (gather_x s.limit s.tolerance s.step s.x)
    (gather_on _ (given StartY s.y) _ (gather_y s.limit s.tolerance s.step s.x s.y)
    (gather_room s.limit s.tolerance s.step s.x s.y s.room)))))

-- those that are present rise
rising_given : {A : Type 0} (i j : ℕ) (make : A → Setting) (w : Option A) (ss : List Setting) → ((v : A) → kind_of (make v) ≡ j) → i < j → Rising j ss → Rising i (given make w ++ ss)
rising_given i j make None ss k h r = rises ss (omega arith) r
rising_given i j make (Some v) ss k h r = (subst (λ (n : ℕ). i < n) (sym (k v)) h, subst (λ (n : ℕ). Rising n ss) (sym (k v)) r)

pub present_rising : (s : Settings) → Rising 0 (present s)
unfolding present kind_of
present_rising s =
    rising_given 0 1 Limit s.limit _ (λ v. refl) (lit< tt)
    (rising_given 1 2 Tolerance s.tolerance _ (λ v. refl) (lit< tt)
    (rising_given 2 3 Step s.step _ (λ v. refl) (lit< tt)
    (rising_given 3 4 StartX s.x _ (λ v. refl) (lit< tt)
    (rising_given 4 5 StartY s.y _ (λ v. refl) (lit< tt)
    (subst (λ (ss : List Setting). Rising 5 ss) (append-nil (given Room s.room)) (rising_given 5 6 Room s.room [] (λ v. refl) (lit< tt) tt))))))

double_whole : (make : ℕ → Setting) (w : Option ℕ) (ss : List Setting) → ((v : ℕ) → DoubleIn (make v)) → AllDouble ss → AllDouble (given make w ++ ss)
double_whole make None ss k d = d
double_whole make (Some v) ss k d = (k v, d)

double_real : (make : Float → Setting) (w : Option Float) (ss : List Setting) → ((v : Float) → Double v → DoubleIn (make v)) → IfGiven Double w → AllDouble ss → AllDouble (given make w ++ ss)
double_real make None ss k h d = d
double_real make (Some v) ss k h d = (k v h, d)

pub present_double : (s : Settings) → IfGiven Double s.tolerance → IfGiven Double s.step → IfGiven Double s.x → IfGiven Double s.y → AllDouble (present s)
unfolding present
present_double s t st x y =
    double_whole Limit s.limit _ (λ v. tt)
    (double_real Tolerance s.tolerance _ (λ v d. d) t
    (double_real Step s.step _ (λ v d. d) st
    (double_real StartX s.x _ (λ v d. d) x
    (double_real StartY s.y _ (λ v d. d) y
    (subst AllDouble (append-nil (given Room s.room)) (double_whole Room s.room [] (λ v. tt) tt))))))

one-given : {A : Type 0} (make : A → Setting) (w : Option A) → length (given make w) ≤ 1
one-given make None = zero-le
one-given make (Some v) = suc-le-suc zero-le

pub present_few : (s : Settings) → length (present s) ≤ 6
unfolding present
present_few s =
    simp length-append
    (omega (arith, one-given Limit s.limit, one-given Tolerance s.tolerance, one-given Step s.step, one-given StartX s.x, one-given StartY s.y, one-given Room s.room))
