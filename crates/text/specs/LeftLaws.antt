-- What is left of a text that is put piece by piece into any list from any place on: s is the buffer as it was, l as it is now. Assumes nothing.
use Rattle.std.specs.Prelude.{◌≡◌, refl, List, [], ◌++◌, ℕ, ◌+◌, length}
use Rattle.std.proofs.Common.{sym, ap, ◌∙◌, add-zero, arith, length-append}
use Rattle.stretch.specs.Stretch.{splice}
use Rattle.stretch.specs.StretchLaws.{splice_nil, splice-append}
use Rattle.text.specs.Put.{Puts, LeftAt}

-- all of it
pub left-all : {text : List ℕ} (s : List ℕ) (at : ℕ) (rest : List ℕ) → text ≡ rest → LeftAt s at text s at rest
left-all {text} s at rest e = record { is = ap (splice s at) (sym e); goes = ap (λ (r : List ℕ). at + length r) (sym e); long = refl }

-- in other words
pub left_as : {s l text rest : List ℕ} {at next : ℕ} (other : List ℕ) → LeftAt s at text l next rest → rest ≡ other → LeftAt s at text l next other
left_as {s} {l} {text} {rest} {at} {next} other p e = record {
  is = ap (splice l next) (sym e) ∙ p.is;
  goes = ap (λ (r : List ℕ). next + length r) (sym e) ∙ p.goes;
  long = p.long;
}

-- a piece is put
pub left-more : {s l m text a : List ℕ} {at next then : ℕ} (b : List ℕ) → Puts l next a then m → LeftAt s at text l next (a ++ b) → LeftAt s at text m then b
left-more {s} {l} {m} {text} {a} {at} {next} {then} b q p = record {
  is = ap (λ (z : List ℕ). splice z then b) q.is ∙ ap (λ (k : ℕ). splice (splice l next a) k b) q.goes ∙ sym (splice-append l next a b) ∙ p.is;
  goes = omega (arith, p.goes, q.goes, length-append a b);
  long = q.long ∙ p.long;
}

-- the last piece is put
pub left_last : {s l m text a : List ℕ} {at next then : ℕ} → Puts l next a then m → LeftAt s at text l next a → Puts s at text then m
left_last {s} {l} {m} {text} {a} {at} {next} {then} q p = record { is = q.is ∙ p.is; goes = q.goes ∙ p.goes; long = q.long ∙ p.long }

-- nothing is left
pub left_none : {s l text : List ℕ} {at next : ℕ} → LeftAt s at text l next [] → Puts s at text next l
left_none {s} {l} {text} {at} {next} p = record { is = sym (splice_nil l next) ∙ p.is; goes = sym (add-zero next) ∙ p.goes; long = p.long }
