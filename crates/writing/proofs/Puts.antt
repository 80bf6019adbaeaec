-- The steps of the writer: the settings that are given, and what a section puts down. Assumes nothing.
use Prim.Native.Nat.{ℕ, suc, ◌+◌, ◌*◌, ◌/◌, ◌%◌, ◌≤◌, ◌<◌}
use mathlib.Core.Path.{◌≡◌, refl, sym, ap, ap₂, ◌∙◌}
use mathlib.Core.Bool.{cond}
use Rattle.std.specs.List.{fold}
use mathlib.Core.List.{List, [], ◌∷◌, ◌++◌, map, append-nil, append_assoc}
use native.Mathlib.Numerals.{add-one}
use native.Mathlib.Omega.{arith}
use lib.ListN.{length, get_or, take, drop, length-append, length-map}
use lib.Seq.{take-suc, take_all, drop-cons}
use Rattle.std.specs.Prelude.{Option, Some, None, is_some, count_by}
use Rattle.std.specs.Option.{option_map}
use Rattle.std.proofs.Common.{take-append-drop, subst, add-zero}
use Rattle.format.specs.declared.Settings.{Settings}
use Rattle.format.specs.declared.Setting as code
use Rattle.format.specs.Setting.{Setting, Limit, Tolerance, Step, StartX, StartY, Room, said}
use Rattle.format.specs.Bytes.{bytes, all_bytes}
use Rattle.format.specs.Place.{placed}
use Rattle.format.specs.Refusal.{◌then◌, each, setting_fault, given, present}
use Rattle.format.specs.Sheet.{kind_of, value_of, item_of, section}
use Rattle.format.specs.BytesLaws.{length-all_bytes}
use Rattle.format.specs.PlaceLaws.{placed_none, placed-next, length-placed}
use Rattle.writing.specs.declared.putting.Output.{Output}
use Rattle.writing.specs.Write.{slot_fault, given_in, slot_bytes, laid_all, HasRoom, Adds}

-- ---- settings

slot_given : {A : Type 0} (make : A → code.Setting) (o : Option A) (rest : List (Option code.Setting)) → given_in (option_map make o ∷ rest) ≡ given (λ (v : A). said (make v)) o ++ given_in rest
slot_given make None rest = refl
slot_given make (Some v) rest = refl

listed : (s : Settings) → given_in (option_map code.Setting.Limit s.limit ∷ option_map code.Setting.Tolerance s.tolerance ∷ option_map code.Setting.Step s.step
    ∷ option_map code.Setting.StartX s.x ∷ option_map code.Setting.StartY s.y ∷ option_map code.Setting.Room s.room ∷ []) ≡ present s
unfolding present
listed s =
    slot_given code.Setting.Limit s.limit _ ∙ ap (λ (l : List Setting). given Limit s.limit ++ l)
    (slot_given code.Setting.Tolerance s.tolerance _ ∙ ap (λ (l : List Setting). given Tolerance s.tolerance ++ l)
    (slot_given code.Setting.Step s.step _ ∙ ap (λ (l : List Setting). given Step s.step ++ l)
    (slot_given code.Setting.StartX s.x _ ∙ ap (λ (l : List Setting). given StartX s.x ++ l)
    (slot_given code.Setting.StartY s.y _ ∙ ap (λ (l : List Setting). given StartY s.y ++ l)
    (slot_given code.Setting.Room s.room [] ∙ append-nil (given Room s.room))))))

pub slots_are : (s : Settings) (a b c d e f : Option code.Setting)
    → a ≡ option_map code.Setting.Limit s.limit → b ≡ option_map code.Setting.Tolerance s.tolerance → c ≡ option_map code.Setting.Step s.step
    → d ≡ option_map code.Setting.StartX s.x → e ≡ option_map code.Setting.StartY s.y → f ≡ option_map code.Setting.Room s.room
    → given_in (a ∷ b ∷ c ∷ d ∷ e ∷ f ∷ []) ≡ present s
slots_are s a b c d e f p q r t u v = ap given_in (six p q r t u v) ∙ listed s
  where
    six : {a b c d e f a' b' c' d' e' f' : Option code.Setting} → a ≡ a' → b ≡ b' → c ≡ c' → d ≡ d' → e ≡ e' → f ≡ f'
        → ◌≡◌ {A = List (Option code.Setting)} (a ∷ b ∷ c ∷ d ∷ e ∷ f ∷ []) (a' ∷ b' ∷ c' ∷ d' ∷ e' ∷ f' ∷ [])
    six p q r t u v = cc

counted : (n : ℕ) (slots : List (Option code.Setting)) → fold (λ (a : ℕ) (x : Option code.Setting). a + cond (is_some x) 1 0) n slots ≡ n + length (given_in slots)
counted n [] = omega arith
counted n (None ∷ slots) = counted (n + 0) slots ∙ omega arith
counted n (Some s ∷ slots) = counted (n + 1) slots ∙ omega arith

pub count_given : (slots : List (Option code.Setting)) → count_by is_some slots ≡ length (given_in slots)
count_given slots = counted 0 slots ∙ omega arith

pub slots_fault : (slots : List (Option code.Setting)) → each slot_fault slots ≡ each setting_fault (given_in slots)
unfolding each
slots_fault [] = refl
slots_fault (None ∷ slots) = slots_fault slots
slots_fault (Some s ∷ slots) = ap (λ (k : ℕ). setting_fault (said s) then k) (slots_fault slots)

pub slots_laid : (slots : List (Option code.Setting)) → laid_all slot_bytes slots ≡ all_bytes 9 (map item_of (given_in slots))
unfolding laid_all all_bytes
slots_laid [] = refl
slots_laid (None ∷ slots) = slots_laid slots
slots_laid (Some s ∷ slots) = ap (λ (l : List ℕ). bytes 9 (item_of (said s)) ++ l) (slots_laid slots)

-- ---- items that are laid down

pub numbers_laid : {A : Type 0} (w : ℕ) (f : A → ℕ) (xs : List A) → laid_all (λ (x : A). bytes w (f x)) xs ≡ all_bytes w (map f xs)
unfolding laid_all all_bytes
numbers_laid w f [] = refl
numbers_laid w f (x ∷ xs) = ap (λ (l : List ℕ). bytes w (f x) ++ l) (numbers_laid w f xs)

pub same_laid : (w : ℕ) (xs : List ℕ) → laid_all (λ (x : ℕ). bytes w x) xs ≡ all_bytes w xs
unfolding laid_all all_bytes
same_laid w [] = refl
same_laid w (x ∷ xs) = ap (λ (l : List ℕ). bytes w x ++ l) (same_laid w xs)

pub numbers-long : {A : Type 0} (w : ℕ) (f : A → ℕ) (xs : List A) → length (laid_all (λ (x : A). bytes w (f x)) xs) ≡ w * length xs
numbers-long w f xs = ap length (numbers_laid w f xs) ∙ length-all_bytes w (map f xs) ∙ ap (λ (k : ℕ). w * k) (length-map xs f)

pub same-long : (w : ℕ) (xs : List ℕ) → length (laid_all (λ (x : ℕ). bytes w x) xs) ≡ w * length xs
same-long w xs = ap length (same_laid w xs) ∙ length-all_bytes w xs

pub slots-long : (slots : List (Option code.Setting)) → length (laid_all slot_bytes slots) ≡ 9 * length (given_in slots)
slots-long slots = ap length (slots_laid slots) ∙ length-all_bytes 9 (map item_of (given_in slots)) ∙ ap (λ (k : ℕ). 9 * k) (length-map (given_in slots) item_of)

pub section_numbers : {A : Type 0} (w n : ℕ) (f : A → ℕ) (xs : List A) → bytes 4 n ++ laid_all (λ (x : A). bytes w (f x)) xs ≡ section w n (map f xs)
unfolding section
section_numbers w n f xs = ap (λ (l : List ℕ). bytes 4 n ++ l) (numbers_laid w f xs)

pub section-same : (w n : ℕ) (xs : List ℕ) → bytes 4 n ++ laid_all (λ (x : ℕ). bytes w x) xs ≡ section w n xs
unfolding section
section-same w n xs = ap (λ (l : List ℕ). bytes 4 n ++ l) (same_laid w xs)

pub section_slots : (n : ℕ) (slots : List (Option code.Setting)) (ss : List Setting) → given_in slots ≡ ss → bytes 4 n ++ laid_all slot_bytes slots ≡ section 9 n (map item_of ss)
unfolding section
section_slots n slots ss e = ap (λ (l : List ℕ). bytes 4 n ++ l) (slots_laid slots ∙ ap (λ (l : List Setting). all_bytes 9 (map item_of l)) e)

pub one_byte : (x : ℕ) → x < 256 → ◌≡◌ {A = List ℕ} (x ∷ []) (bytes 1 x)
unfolding bytes
one_byte x h =
    let e : x ≡ x % 256 = omega arith in
    ap (λ (v : ℕ). v ∷ []) e

-- a kind and a value are an item
item_bytes : (kind v : ℕ) → kind < 256 → kind ∷ bytes 8 v ≡ bytes 9 (kind + 256 * v)
unfolding bytes
item_bytes kind v h =
    let k : kind ≡ (kind + 256 * v) % 256 = omega arith in
    let q : v ≡ (kind + 256 * v) / 256 = omega arith in
    ap₂ (λ (a b : ℕ). a ∷ bytes 8 b) k q

pub slot_laid : (slot : Option code.Setting) (s : code.Setting) (kind v : ℕ) (laid : List ℕ) → slot ≡ Some s → kind < 256 → kind ≡ kind_of (said s) → v ≡ value_of (said s) → laid ≡ bytes 8 v
    → (kind ∷ []) ++ laid ≡ slot_bytes slot
unfolding item_of
slot_laid slot s kind v laid e h p q r =
    ap (λ (l : List ℕ). kind ∷ l) r ∙ item_bytes kind v h ∙ ap₂ (λ (a b : ℕ). bytes 9 (a + 256 * b)) p q ∙ ap slot_bytes (sym e)

-- ---- bytes put behind one another

pub adds_none : (s : Output) → Adds s s []
adds_none s = record { same = refl; down = sym (placed_none s.bytes.now s.at); next = sym (add-zero s.at) }

pub adds_more : {s l m : Output} {xs ys : List ℕ} → Adds s l xs → Adds l m ys → Adds s m (xs ++ ys)
adds_more {s} {l} {m} {xs} {ys} p q = record {
  same = q.same ∙ p.same;
  down = q.down ∙ ap (λ (z : List ℕ). placed z l.at ys) p.down ∙ placed-next s.bytes.now s.at l.at xs ys p.next;
  next = let n : length (xs ++ ys) ≡ length xs + length ys = length-append xs ys in omega (arith, p.next, q.next);
}

-- in other words
pub adds_as : {s l : Output} {xs ys : List ℕ} → Adds s l xs → xs ≡ ys → Adds s l ys
adds_as {s} {l} p e = subst (Adds s l) e p

pub room_as : (s : Output) {xs ys : List ℕ} → xs ≡ ys → HasRoom s ys → HasRoom s xs
room_as s e r = subst (HasRoom s) (sym e) r

-- there is room for the first of two, and then for the second
pub room_first : (s : Output) (xs ys : List ℕ) → HasRoom s (xs ++ ys) → HasRoom s xs
room_first s xs ys r = record { room = omega (arith, r.room, length-append xs ys) }

pub room_next : {s l : Output} {xs : List ℕ} (ys : List ℕ) → Adds s l xs → HasRoom s (xs ++ ys) → HasRoom l ys
room_next {s} {l} {xs} ys p r =
    let n : length l.bytes.now ≡ length s.bytes.now = ap length p.down ∙ length-placed s.bytes.now s.at xs in
    record { room = omega (arith, r.room, p.next, length-append xs ys) }

-- ---- the items of a section, i of them put

module _ {A : Type 0} (laid : A → List ℕ) where
  laid-append : (xs ys : List A) → laid_all laid (xs ++ ys) ≡ laid_all laid xs ++ laid_all laid ys
  unfolding laid_all
  laid-append [] ys = refl
  laid-append (x ∷ xs) ys = ap (λ (l : List ℕ). laid x ++ l) (laid-append xs ys) ∙ sym (append_assoc (laid x) (laid_all laid xs) (laid_all laid ys))

  laid-cons : (x : A) (xs : List A) → laid_all laid (x ∷ xs) ≡ laid x ++ laid_all laid xs
  unfolding laid_all
  laid-cons x xs = refl

  laid_none : laid_all laid [] ≡ []
  unfolding laid_all
  laid_none = refl

  module _ (xs : List A) where
    pub items_none : (s : Output) → Adds s s (laid_all laid (take 0 xs))
    items_none s = adds_as (adds_none s) (sym laid_none)

    more : (i : ℕ) (x : A) → i < length xs → x ≡ get_or xs i x → laid_all laid (take (i + 1) xs) ≡ laid_all laid (take i xs) ++ laid x
    more i x h e =
        ap (λ (k : ℕ). laid_all laid (take k xs)) (add-one i)
        ∙ ap (laid_all laid) (take-suc xs i x h ∙ ap (λ (y : A). take i xs ++ (y ∷ [])) (sym e))
        ∙ laid-append (take i xs) (x ∷ [])
        ∙ ap (λ (l : List ℕ). laid_all laid (take i xs) ++ l) (laid-cons x [] ∙ ap (λ (l : List ℕ). laid x ++ l) laid_none ∙ append-nil (laid x))

    pub items_more : {s l m : Output} (i : ℕ) (x : A) → Adds s l (laid_all laid (take i xs)) → i < length xs → x ≡ get_or xs i x → Adds l m (laid x) → Adds s m (laid_all laid (take (i + 1) xs))
    items_more i x p h e q = adds_as (adds_more p q) (sym (more i x h e))

    pub items_room : {s l : Output} (i : ℕ) (x : A) → Adds s l (laid_all laid (take i xs)) → i < length xs → x ≡ get_or xs i x → HasRoom s (laid_all laid xs) → HasRoom l (laid x)
    items_room {s} {l} i x p h e r =
        let rest = laid_all laid (drop (suc i) xs) in
        let f : laid_all laid xs ≡ laid_all laid (take i xs) ++ (laid x ++ rest) =
        ap (laid_all laid) (sym (take-append-drop i xs) ∙ ap (λ (l : List A). take i xs ++ l) (drop-cons xs i x h ∙ ap (λ (y : A). y ∷ drop (suc i) xs) (sym e)))
        ∙ laid-append (take i xs) (x ∷ drop (suc i) xs)
        ∙ ap (λ (l : List ℕ). laid_all laid (take i xs) ++ l) (laid-cons x (drop (suc i) xs)) in
        room_first l (laid x) rest (room_next (laid x ++ rest) p (subst (HasRoom s) f r))

    pub items_all : {s l : Output} (i : ℕ) → Adds s l (laid_all laid (take i xs)) → length xs ≤ i → Adds s l (laid_all laid xs)
    items_all i p h = adds_as p (ap (laid_all laid) (take_all i xs h))
