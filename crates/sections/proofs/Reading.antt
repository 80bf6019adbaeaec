-- The loop over the items of section 5: what is left to do from here is what was to do at the start. Assumes nothing.
use Prim.Native.Nat.{ℕ, zero, suc, ◌+◌, ◌-◌, ◌*◌, ◌/◌, ◌≤◌, ◌<◌}
use mathlib.Core.Path.{◌≡◌, refl, sym, ap, ap₂, ◌∙◌}
use mathlib.Core.List.{List, [], ◌∷◌, map}
use native.Mathlib.Nat.{le_of_suc-le-suc}
use native.Mathlib.Numerals.{add-one}
use native.Mathlib.Omega.{arith}
use borrow.Author.Tests.{lt-ltb, le-ltb}
use lib.Dec.{ltb}
use lib.Ieee.{Float}
use lib.ListN.{length, get_or, drop, drop_of_length-le}
use Rattle.std.specs.Prelude.{Result, Ok, Err, Option, None}
use Rattle.std.proofs.lemmas.List.{length-map}
use Rattle.binary64.specs.Number.{pick}
use Rattle.refusal.specs.Refusal.{number_of}
use Rattle.refusal.specs.declared.Refusal.{Refusal}
use Rattle.format.specs.declared.Settings.{Settings}
use Rattle.format.specs.declared.Setting as code
use Rattle.format.specs.Setting.{Setting, Limit, Tolerance, Step, StartX, StartY, Room, Unknown, NotANumber, said, read_of}
use Rattle.format.specs.Bytes.{number}
use Rattle.format.specs.Refusal.{◌then◌, setting_fault}
use Rattle.format.specs.Sheet.{setting_of, item_kind, item_setting, in_turn, no_settings, adding, gathered}
use Rattle.format.specs.BytesLaws.{number-drop}
use Rattle.format.specs.RefusalLaws.{pick_true, pick_false, then_first, then_second}
use Rattle.format.specs.TriesLaws.{refused}
use Rattle.sections.specs.Steps.{Read, Refused, items_by, items_read}

pub refused_number : (k : ℕ) (st : Settings) → (k ≡ 0 → ⊥) → Refused k ≡ items_by k st
refused_number zero st h = absurd (h refl)
refused_number (suc k) st h = refl

pub refused_by : (e : Refusal) {a : ℕ} (st : Settings) → number_of e ≡ a → Refused (number_of e) ≡ items_by a st
refused_by e {a} st p = refused_number (number_of e) st (refused e) ∙ ap (λ (n : ℕ). items_by n st) p

pub none_is : (l : Option ℕ) (t s x y : Option Float) (r : Option ℕ) → l ≡ None → t ≡ None → s ≡ None → x ≡ None → y ≡ None → r ≡ None
    → ◌≡◌ {A = Settings} (record { limit = l; tolerance = t; step = s; x = x; y = y; room = r }) no_settings
none_is l t s x y r a b c d e f = cc

-- ---- what the reader answers to an item

pub err_fault : (x : Setting) (e : Refusal) → ◌≡◌ {A = Result code.Setting Refusal} (Err e) (read_of x) → number_of e ≡ setting_fault x
unfolding setting_fault
err_fault (Limit v) e h = cc
err_fault (Tolerance v) e h = cc
err_fault (Step v) e h = cc
err_fault (StartX v) e h = cc
err_fault (StartY v) e h = cc
err_fault (Room v) e h = cc
err_fault Unknown e h = let p : e ≡ Refusal.Setting = cc in ap number_of p
err_fault NotANumber e h = let p : e ≡ Refusal.NotANumber = cc in ap number_of p

pub ok_said : (x : Setting) (s : code.Setting) → ◌≡◌ {A = Result code.Setting Refusal} (Ok s) (read_of x) → said s ≡ x
ok_said (Limit v) s h = let p : s ≡ code.Setting.Limit v = cc in ap said p
ok_said (Tolerance v) s h = let p : s ≡ code.Setting.Tolerance v = cc in ap said p
ok_said (Step v) s h = let p : s ≡ code.Setting.Step v = cc in ap said p
ok_said (StartX v) s h = let p : s ≡ code.Setting.StartX v = cc in ap said p
ok_said (StartY v) s h = let p : s ≡ code.Setting.StartY v = cc in ap said p
ok_said (Room v) s h = let p : s ≡ code.Setting.Room v = cc in ap said p
ok_said Unknown s h = cc
ok_said NotANumber s h = cc

-- i items are taken, the last one of kind `last`, and the settings are st
pub record Reading (items : List (List ℕ)) (last : ℕ) (st : Settings) (i : ℕ) : Type 0 where
  pub turn : in_turn 0 (map (number 9) items) ≡ in_turn last (drop i (map (number 9) items))
  pub said : gathered no_settings (map item_setting (map (number 9) items)) ≡ gathered st (map item_setting (drop i (map (number 9) items)))

-- the i-th item is of this kind and value
pub record Item (items : List (List ℕ)) (i kind value : ℕ) : Type 0 where
  pub below : i < length items
  pub small : kind < 256
  pub first : kind ≡ get_or (get_or items i []) 0 0
  pub rest : value ≡ number 8 (drop 1 (get_or items i []))

-- nine bytes taken apart: the first, and the eight behind it
pub taken_apart : (items : List (List ℕ)) (i : ℕ) (eight : List ℕ) (value : ℕ) → i < length items → get_or (get_or items i []) 0 0 < 256 → length (get_or items i []) ≡ 9
    → eight ≡ drop (length (get_or items i []) - 8) (get_or items i []) → value ≡ number 8 eight → Item items i (get_or (get_or items i []) 0 0) value
taken_apart items i eight value below small nine behind read =
    let o : length (get_or items i []) - 8 ≡ 1 = omega arith in
    record { below = below; small = small; first = refl; rest = read ∙ ap (number 8) (behind ∙ ap (λ (k : ℕ). drop k (get_or items i [])) o) }

front : (items : List (List ℕ)) (i : ℕ) → i < length items → drop i (map (number 9) items) ≡ number 9 (get_or items i []) ∷ drop (suc i) (map (number 9) items)
front [] i h = absurd (omega arith)
front (x ∷ xs) zero h = refl
front (x ∷ xs) (suc i) h = front xs i (le_of_suc-le-suc h)

module _ (items : List (List ℕ)) where
  pub read_none : (st : Settings) → st ≡ no_settings → Reading items 0 st 0
  read_none st e = record { turn = refl; said = ap (λ (z : Settings). gathered z (map item_setting (map (number 9) items))) (sym e) }

  pub read_all : (last : ℕ) (st : Settings) (i : ℕ) → Reading items last st i → length items ≤ i → Read st ≡ items_read (map (number 9) items)
  unfolding items_read in_turn gathered
  read_all last st i r h =
      let e : drop i (map (number 9) items) ≡ [] = drop_of_length-le (map (number 9) items) (omega (arith, length-map items (number 9))) in
      sym (ap₂ items_by (r.turn ∙ ap (in_turn last) e) (r.said ∙ ap (λ (l : List ℕ). gathered st (map item_setting l)) e))

  module _ (last : ℕ) (st : Settings) (i kind value : ℕ) (r : Reading items last st i) (e : Item items i kind value) where
    head : drop i (map (number 9) items) ≡ (kind + 256 * value) ∷ drop (i + 1) (map (number 9) items)
    head =
        let x = get_or items i [] in
        front items i e.below
        ∙ ap₂ (λ (y n : ℕ). y ∷ drop n (map (number 9) items)) (number-drop 8 0 x ∙ ap₂ (λ (k v : ℕ). k + 256 * v) (sym e.first) (sym e.rest)) (sym (add-one i))

    its_kind : item_kind (kind + 256 * value) ≡ kind
    its_kind = omega (arith, e.small)

    its_value : (kind + 256 * value) / 256 ≡ value
    its_value = omega (arith, e.small)

    its_setting : item_setting (kind + 256 * value) ≡ setting_of kind value
    its_setting = ap₂ setting_of its_kind its_value

    in_turn_lem : in_turn 0 (map (number 9) items) ≡ (pick (ltb last kind) 0 5 then setting_fault (setting_of kind value) then in_turn kind (drop (i + 1) (map (number 9) items)))
    unfolding in_turn
    in_turn_lem =
        r.turn ∙ ap (in_turn last) head
        ∙ ap₂ (λ (k : ℕ) (x : Setting). pick (ltb last k) 0 5 then setting_fault x then in_turn k (drop (i + 1) (map (number 9) items))) its_kind its_setting

    pub read_low : kind ≤ last → Refused 5 ≡ items_read (map (number 9) items)
    unfolding items_read
    read_low l =
        sym (ap (λ (k : ℕ). items_by k (gathered no_settings (map item_setting (map (number 9) items)))) (in_turn_lem ∙ ap (λ (k : ℕ). k then setting_fault (setting_of kind value) then in_turn kind (drop (i + 1) (map (number 9) items))) (pick_false 0 5 (le-ltb last kind l))))

    rising : last < kind → in_turn 0 (map (number 9) items) ≡ (setting_fault (setting_of kind value) then in_turn kind (drop (i + 1) (map (number 9) items)))
    rising l = in_turn_lem ∙ then_second _ (pick_true 0 5 (lt-ltb last kind l))

    pub read-fault_number : (k : ℕ) → last < kind → k ≡ setting_fault (setting_of kind value) → (k ≡ 0 → ⊥) → Refused k ≡ items_read (map (number 9) items)
    unfolding items_read
    read-fault_number k l q z =
        refused_number k _ z ∙ ap (λ (n : ℕ). items_by n (gathered no_settings (map item_setting (map (number 9) items)))) (sym (rising l ∙ then_first _ (λ y. z (q ∙ y)) ∙ sym q))

    pub read-fault : (x : Refusal) → last < kind → number_of x ≡ setting_fault (setting_of kind value) → Refused (number_of x) ≡ items_read (map (number 9) items)
    read-fault x l q = read-fault_number (number_of x) l q (refused x)

    pub read_more : (x : Setting) (st' : Settings) → last < kind → x ≡ setting_of kind value → 0 ≡ setting_fault x → st' ≡ adding st x → Reading items kind st' (i + 1)
    unfolding gathered
    read_more x st' l p q a = record {
      turn = rising l ∙ then_second _ (sym (q ∙ ap setting_fault p));
      said =
          r.said
          ∙ ap (λ (xs : List ℕ). gathered st (map item_setting xs)) head
          ∙ ap (λ (y : Settings). gathered y (map item_setting (drop (i + 1) (map (number 9) items)))) (ap (adding st) (its_setting ∙ sym p) ∙ sym a);
    }
