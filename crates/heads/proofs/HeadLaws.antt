-- The numbers of settings and the settings are inverse, and so are those of a head: what is put into lists that have the places is read as it was. What a check and a write that are not refused come to, by the format's theorems. Assumes nothing.
use Rattle.std.specs.Prelude.{ℕ, ◌≤◌, Bool, false, ◌&&◌, ◌≡◌, Float, set, drop, Option, Some, None}
use Rattle.std.proofs.Common.{arith, ◌∙◌}
use Rattle.std.proofs.Math.Bool.{true}
use Rattle.std.proofs.Math.Path.{refl, sym, ap}
use mathlib.Core.List.{List, [], ◌∷◌}
use borrow.Author.Tests.{leb-true}
use Rattle.std.proofs.Math.Dec.{leb}
use Rattle.std.proofs.Math.ListN.{length, get_or, take}
use Rattle.std.proofs.Math.Seq.{take-append_seam}
use Rattle.std.proofs.lemmas.List.{set-get_or}
use Rattle.binary64.specs.Number.{pick}
use Rattle.binary64.specs.NumberLaws.{both}
use Rattle.format.specs.declared.Settings.{Settings}
use Rattle.format.specs.Content.{Content}
use Rattle.format.specs.Refusal.{refusal_of}
use Rattle.format.specs.Sheet.{Parsed, accepted, parse, bytes_of}
use Rattle.format.specs.RefusalLaws.{neither}
use Rattle.format.specs.Range.{Doubles}
use Rattle.format.specs.Theorems.{bytes-parse}
use Rattle.sheet.specs.declared.Header.{Header}
use Rattle.sheet.specs.Answer.{Accepted, checked_of, header_of}
use Rattle.sheet.specs.Write.{write_refusal}
use Rattle.records.proofs.NumberLaws.{eight}
use Rattle.records.specs.Numbers.{Listed, listed, given_by}
use Rattle.heads.specs.Heads.{settings_fit, settings_from, presence, number_put, settings_put, head_numbers, check_fault, head_checked, settings_checked, Checks, content_from, WritesFrom, HasHead}

-- ---- lists that have the places

-- what holds of every list that begins with six elements holds of every list that is as long; with eight by `eight` of records
six : (P : List ℕ → Type 0) → ((n0 n1 n2 n3 n4 n5 : ℕ) (rest : List ℕ) → P (n0 ∷ n1 ∷ n2 ∷ n3 ∷ n4 ∷ n5 ∷ rest)) → (l : List ℕ) → 6 ≤ length l → P l
six P f [] h = absurd (omega arith)
six P f (n0 ∷ []) h = absurd (omega arith)
six P f (n0 ∷ n1 ∷ []) h = absurd (omega arith)
six P f (n0 ∷ n1 ∷ n2 ∷ []) h = absurd (omega arith)
six P f (n0 ∷ n1 ∷ n2 ∷ n3 ∷ []) h = absurd (omega arith)
six P f (n0 ∷ n1 ∷ n2 ∷ n3 ∷ n4 ∷ []) h = absurd (omega arith)
six P f (n0 ∷ n1 ∷ n2 ∷ n3 ∷ n4 ∷ n5 ∷ rest) h = f n0 n1 n2 n3 n4 n5 rest

-- with four
four : (P : List Float → Type 0) → ((x0 x1 x2 x3 : Float) (rest : List Float) → P (x0 ∷ x1 ∷ x2 ∷ x3 ∷ rest)) → (l : List Float) → 4 ≤ length l → P l
four P f [] h = absurd (omega arith)
four P f (x0 ∷ []) h = absurd (omega arith)
four P f (x0 ∷ x1 ∷ []) h = absurd (omega arith)
four P f (x0 ∷ x1 ∷ x2 ∷ []) h = absurd (omega arith)
four P f (x0 ∷ x1 ∷ x2 ∷ x3 ∷ rest) h = f x0 x1 x2 x3 rest

-- ---- one setting

-- its number, or what stood at its place
abbrev number_or : {A : Type 0} → Option A → A → A
number_or None v = v
number_or (Some w) v = w

given_back : {A : Type 0} (o : Option A) (v : A) → given_by (presence o) (number_or o v) ≡ o
given_back None v = refl
given_back (Some w) v = refl

put_is : {A : Type 0} (o : Option A) (i : ℕ) (l : List A) (d : A) → number_put o i l ≡ set l i (number_or o (get_or l i d))
put_is None i l d = sym (set-get_or l i d)
put_is (Some v) i l d = refl

-- ---- settings

-- the settings' numbers in front of what is behind them
are : (s : Settings) (n0 n1 n2 n3 n4 n5 n6 n7 : ℕ) (ns : List ℕ) (x0 x1 x2 x3 : Float) (xs : List Float)
    → settings_put s (listed (n0 ∷ n1 ∷ n2 ∷ n3 ∷ n4 ∷ n5 ∷ n6 ∷ n7 ∷ ns) (x0 ∷ x1 ∷ x2 ∷ x3 ∷ xs))
    ≡ listed (presence s.limit ∷ number_or s.limit n1 ∷ presence s.tolerance ∷ presence s.step ∷ presence s.x ∷ presence s.y ∷ presence s.room ∷ number_or s.room n7 ∷ ns) (number_or s.tolerance x0 ∷ number_or s.step x1 ∷ number_or s.x x2 ∷ number_or s.y x3 ∷ xs)
unfolding settings_put
are s n0 n1 n2 n3 n4 n5 n6 n7 ns x0 x1 x2 x3 xs =
    rw (put_is s.limit 1 (presence s.limit ∷ n1 ∷ n2 ∷ n3 ∷ n4 ∷ n5 ∷ n6 ∷ n7 ∷ ns) 0, put_is s.tolerance 0 (x0 ∷ x1 ∷ x2 ∷ x3 ∷ xs) x0, put_is s.step 1 (number_or s.tolerance x0 ∷ x1 ∷ x2 ∷ x3 ∷ xs) x1, put_is s.x 2 (number_or s.tolerance x0 ∷ number_or s.step x1 ∷ x2 ∷ x3 ∷ xs) x2, put_is s.y 3 (number_or s.tolerance x0 ∷ number_or s.step x1 ∷ number_or s.x x2 ∷ x3 ∷ xs) x3)
    (rw (put_is s.room 7 (presence s.limit ∷ number_or s.limit n1 ∷ presence s.tolerance ∷ presence s.step ∷ presence s.x ∷ presence s.y ∷ presence s.room ∷ n7 ∷ ns) 0) refl)

front : (s : Settings) (n0 n1 n2 n3 n4 n5 n6 n7 : ℕ) (ns : List ℕ) (x0 x1 x2 x3 : Float) (xs : List Float)
    → settings_from (settings_put s (listed (n0 ∷ n1 ∷ n2 ∷ n3 ∷ n4 ∷ n5 ∷ n6 ∷ n7 ∷ ns) (x0 ∷ x1 ∷ x2 ∷ x3 ∷ xs))) ≡ s
unfolding settings_from
front s n0 n1 n2 n3 n4 n5 n6 n7 ns x0 x1 x2 x3 xs =
    rw (are s n0 n1 n2 n3 n4 n5 n6 n7 ns x0 x1 x2 x3 xs, given_back s.limit n1, given_back s.tolerance x0, given_back s.step x1, given_back s.x x2, given_back s.y x3, given_back s.room n7)

-- what is put is read as it was
pub settings_back : (s : Settings) (l : Listed) → settings_fit l ≡ true → settings_from (settings_put s l) ≡ s
settings_back s l fit =
    let places = both (leb 8 (length l.wholes)) (leb 4 (length l.reals)) fit in
    eight (λ ns. settings_from (settings_put s (listed ns l.reals)) ≡ s) (λ n0 n1 n2 n3 n4 n5 n6 n7 ns. four (λ xs. settings_from (settings_put s (listed (n0 ∷ n1 ∷ n2 ∷ n3 ∷ n4 ∷ n5 ∷ n6 ∷ n7 ∷ ns) xs)) ≡ s) (λ x0 x1 x2 x3 xs. front s n0 n1 n2 n3 n4 n5 n6 n7 ns x0 x1 x2 x3 xs) l.reals (leb-true 4 (length l.reals) places.1)) l.wholes (leb-true 8 (length l.wholes) places.0)

-- ---- a head

head_front : (h : Header) (n0 n1 n2 n3 n4 n5 : ℕ) (l : List ℕ) → HasHead h (head_numbers h (n0 ∷ n1 ∷ n2 ∷ n3 ∷ n4 ∷ n5 ∷ l))
unfolding head_numbers
head_front h n0 n1 n2 n3 n4 n5 l = record { n = refl; t = refl; vertices = refl; triangles = refl; neighbours = refl; tags = refl }

pub head_back : (h : Header) (hs : List ℕ) → 6 ≤ length hs → HasHead h (head_numbers h hs)
head_back h hs l = six (λ hs. HasHead h (head_numbers h hs)) (head_front h) hs l

-- ---- what the contracts come to

fitted : (t : Bool) (k : ℕ) → pick t k 8 ≡ 0 → t ≡ true
fitted true k e = refl
fitted false k e = absurd (omega (arith, e))

-- a sheet that is checked and not refused: its lists hold the settings and the head of what it is read as
pub checked_says : (sheet hs : List ℕ) (l : Listed) (hs' : List ℕ) (l' : Listed) (c : Content) → parse sheet ≡ accepted c → Checks sheet hs l 0 hs' l'
    → (settings_from l' ≡ c.settings) × HasHead (header_of c) hs'
checked_says sheet hs l hs' l' c e k =
    let z : 0 ≡ check_fault (Accepted (header_of c)) hs l = k.said ∙ ap (λ (p : Parsed). check_fault (checked_of p) hs l) e in
    let fit : (leb 6 (length hs) && settings_fit l) ≡ true = fitted (leb 6 (length hs) && settings_fit l) 0 (sym z) in
    let places = both (leb 6 (length hs)) (settings_fit l) fit in
    let p : hs' ≡ head_numbers (header_of c) hs = k.head ∙ ap (λ (p : Parsed). head_checked (checked_of p) hs l) e ∙ rw fit in
    let q : l' ≡ settings_put c.settings l = k.settings ∙ ap (λ (p : Parsed). settings_checked (checked_of p) hs l) e ∙ rw fit in
    (rw q (settings_back c.settings l places.1), rw p (head_back (header_of c) hs (leb-true 6 (length hs) places.0)))

-- a sheet that is written and not refused is read as the content it was written from
module _ (vertices : List Float) (triangles neighbours tags : List ℕ) (l : Listed) (out written out' written' : List ℕ) where
  abbrev content : Content
  content = content_from vertices triangles neighbours tags l

  pub written_reads : Doubles content → WritesFrom vertices triangles neighbours tags l out written 0 out' written' → parse (take (get_or written' 0 0) out') ≡ accepted content
  unfolding write_refusal
  written_reads d w =
      let fit : (settings_fit l && leb 1 (length written)) ≡ true = fitted (settings_fit l && leb 1 (length written)) (write_refusal content (length out)) (sym w.said) in
      let fine : write_refusal content (length out) ≡ 0 = sym (w.said ∙ rw fit) in
      let refusal : refusal_of content ≡ 0 = (neither (refusal_of content) (pick (leb (length (bytes_of content)) (length out)) 0 8) fine).first in
      let long : 1 ≤ length written = leb-true 1 (length written) (both (settings_fit l) (leb 1 (length written)) fit).1 in
      let count : get_or written' 0 0 ≡ length (bytes_of content) = ap (λ (l : List ℕ). get_or l 0 0) w.told ∙ put_first written (length (bytes_of content)) long in
      let front : take (length (bytes_of content)) out' ≡ bytes_of content = ap (take (length (bytes_of content))) w.left ∙ take-append_seam (bytes_of content) (drop (length (bytes_of content)) out) in
      rw (count, front) (bytes-parse content d refusal)
    where
      put_first : (l : List ℕ) (v : ℕ) → 1 ≤ length l → get_or (set l 0 v) 0 0 ≡ v
      put_first [] v h = absurd (omega arith)
      put_first (x ∷ l) v h = refl
