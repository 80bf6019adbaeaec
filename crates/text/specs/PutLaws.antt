-- Laws of putting text piece by piece: s is the buffer as it was, l as it is now. Assumes nothing.
use Rattle.std.specs.Prelude.{◌≡◌, refl, List, [], ◌∷◌, ◌++◌, ℕ, ◌+◌, ◌-◌, ◌≤◌, ◌<◌, length, take, get_or, set}
use Rattle.std.proofs.Common.{sym, ap, ◌∙◌, add-one, arith, length-append, take-suc, take_all, length-take-le}
use Rattle.std.proofs.lemmas.Slice.{put_mid-paste}
use Rattle.std.proofs.lemmas.List.Edits.{paste_all}
use borrow.Rule.Slice.PartMut.{put_mid}
use Rattle.stretch.specs.Stretch.{splice}
use Rattle.stretch.specs.StretchLaws.{length-splice, splice-one, splice_is}
use Rattle.stretch.proofs.LoopLaws.{write_step}
use Rattle.text.specs.declared.raw.Output.{Output}
use Rattle.text.specs.Put.{Puts, Printed, Room, Adds, Left}
use Rattle.text.specs.LeftLaws as Lists

pub puts : {s l : List ℕ} {at next : ℕ} {text : List ℕ} → l ≡ splice s at text → next ≡ at + length text → Puts s at text next l
puts {s} {l} {at} {next} {text} e g = record { is = e; goes = g; long = ap length e ∙ length-splice s at text }

pub printed : {s l m : List ℕ} {at next : ℕ} {text : List ℕ} → Puts s at text next m → l ≡ m → at + length text ≤ length s → Printed s at text next l
printed {s} {l} {m} {at} {next} {text} p e h =
    let w : next ≤ length l = rw e (omega (arith, p.goes, p.long)) in
    record { puts = record { is = e ∙ p.is; goes = p.goes; long = ap length e ∙ p.long }; within = w; front = sym (length-take-le next l w) }

-- the text in other words
pub printed_as : {s l : List ℕ} {at next : ℕ} {text : List ℕ} (other : List ℕ) → Printed s at text next l → text ≡ other → Printed s at other next l
printed_as {s} {l} {at} {next} {text} other p e = rw e at p

pub adds_as : {s m : Output} {text : List ℕ} (other : List ℕ) → Adds s m text → text ≡ other → Adds s m other
adds_as {s} {m} {text} other p e = rw e at p

-- a part that the library writes, as a stretch
pub put_is : (l new part : List ℕ) (a b k : ℕ) → new ≡ part → length part ≡ k → b ≡ a + k → b ≤ length l → put_mid a (b - a) l new ≡ splice l a part
put_is l new part a b k i e s h =
    let m : k ≡ b - a = omega arith in
    put_mid-paste a (b - a) l new part k i m (sym e) ∙ paste_all l a part k (sym e) ∙ sym (splice_is l part a k e (omega arith))

-- ---- what is left of a text that is put into an output (of any list and place: LeftLaws)

-- all of it
pub left-all : {text : List ℕ} (s : Output) (rest : List ℕ) → text ≡ rest → Left s text s rest
left-all {text} s rest e = record { same = refl; left = Lists.left-all s.bytes.now s.at rest e }

-- in other words
pub left_as : {s l : Output} {text rest : List ℕ} (other : List ℕ) → Left s text l rest → rest ≡ other → Left s text l other
left_as {s} {l} {text} {rest} other p e = record { same = p.same; left = Lists.left_as other p.left e }

-- a piece is put
pub left-more : {s l m : Output} {text a : List ℕ} (b : List ℕ) → Adds l m a → Left s text l (a ++ b) → Left s text m b
left-more {s} {l} {m} {text} {a} b q p = record { same = q.same ∙ p.same; left = Lists.left-more b q.put p.left }

-- one piece of a text is put, two, three and four
pub left_1 : {s l : Output} {text a rest : List ℕ} → text ≡ a ++ rest → Adds s l a → Left s text l rest
left_1 e p = left-more _ p (left-all _ _ e)

pub left_2 : {s l m : Output} {text a b rest : List ℕ} → text ≡ a ++ (b ++ rest) → Adds s l a → Adds l m b → Left s text m rest
left_2 e p q = left-more _ q (left_1 e p)

pub left_3 : {s l m n : Output} {text a b c rest : List ℕ} → text ≡ a ++ (b ++ (c ++ rest)) → Adds s l a → Adds l m b → Adds m n c → Left s text n rest
left_3 e p q r = left-more _ r (left_2 e p q)

pub left_4 : {s l m n o : Output} {text a b c d rest : List ℕ} → text ≡ a ++ (b ++ (c ++ (d ++ rest))) → Adds s l a → Adds l m b → Adds m n c → Adds n o d → Left s text o rest
left_4 e p q r t = left-more _ t (left_3 e p q r)

-- the last piece is put
pub left_last : {s l m : Output} {text a : List ℕ} → Adds l m a → Left s text l a → Adds s m text
left_last {s} {l} {m} {text} {a} q p = record { same = q.same ∙ p.same; put = Lists.left_last q.put p.left }

-- nothing is left
pub left_none : {s l : Output} {text : List ℕ} → Left s text l [] → Adds s l text
left_none {s} {l} {text} p = record { same = p.same; put = Lists.left_none p.left }

-- there is room for what is left, and for a piece of it
pub left-room : {s l : Output} {text : List ℕ} (a b : List ℕ) → Left s text l (a ++ b) → Room s text → Room l a
left-room {s} {l} {text} a b p h = omega (arith, h, p.left.goes, p.left.long, length-append a b)

pub left_room_last : {s l : Output} {text a : List ℕ} → Left s text l a → Room s text → Room l a
left_room_last {s} {l} {text} {a} p h = omega (arith, h, p.left.goes, p.left.long)

-- ---- bytes

pub byte_put : (s : List ℕ) (at v : ℕ) → Puts s at (v ∷ []) (at + 1) (set s at v)
byte_put s at v = puts (sym (splice-one s at v)) refl

-- a byte more of a text
pub bytes_step : (s l : List ℕ) (at i : ℕ) (text : List ℕ) → i < length text → l ≡ splice s at (take i text) → set l (at + i) (get_or text i 0) ≡ splice s at (take (i + 1) text)
bytes_step s l at i text h e =
    write_step s l at i (take i text) (get_or text i 0) (length-take-le i text (omega arith)) e
    ∙ ap (splice s at) (sym (take-suc text i 0 h) ∙ ap (λ (k : ℕ). take k text) (sym (add-one i)))

pub bytes_put : (s l : List ℕ) (at i : ℕ) (text : List ℕ) → i ≡ length text → l ≡ splice s at (take i text) → Puts s at text (at + i) l
bytes_put s l at i text h e = puts (e ∙ ap (splice s at) (take_all i text (omega arith))) (ap (λ (k : ℕ). at + k) h)
