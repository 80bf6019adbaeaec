-- Laws of a text at the front of the lent bytes, and of an input of which no more is read than tells whether it is too long. Assumes nothing.
use Rattle.std.proofs.Common.{◌≡◌, ℕ, ◌+◌, ◌≤◌, ◌<◌, List, ◌++◌, length, take, drop, Result, Ok, Err, None, Some, IfSome, OnOk, arith, sym, ap, ◌∙◌, ⊎_elim, length-append, length-take-le}
use Rattle.std.proofs.lemmas.List.{append-nil, take-append-le, take_all}
use Rattle.std.proofs.Math.Nat.{eq-or-lt_of_le}
use Rattle.std.specs.declared.option.Option.{Option}
use Rattle.std.specs.Io.KnownBytes.{Appends, Consumes, IsAtEnd}
use borrow.Author.Tests.{lt-ltb}
use Rattle.stretch.specs.StretchLaws.{splice_is}
use Rattle.text.specs.Put.{Printed}
use Rattle.text.specs.Text.{refused_text}
use Rattle.printing.specs.Printed.{most_bytes, printed}

-- what stands at the front of the lent bytes
pub text_front : (s l text : List ℕ) (next : ℕ) → Printed s 0 text next l → take next l ≡ text
text_front s l text next p =
    let whole : length text ≡ next = omega (arith, p.puts.goes) in
    let fits : 0 + next ≤ length s = omega (arith, p.within, p.puts.long) in
    let all : take next text ≡ text = take_all next text (omega arith) in
    ap (take next) (p.puts.is ∙ splice_is s text 0 next whole fits) ∙ take-append-le next text (drop (0 + next) s) (omega arith) ∙ all

-- too many bytes, however many
long_refused : (sheet : List ℕ) → most_bytes < length sheet → printed sheet ≡ refused_text 8
unfolding printed
long_refused sheet h = rw (lt-ltb most_bytes (length sheet) h)

-- What was read of an input into the space for one byte more than a sheet may have says what is printed of the input: where it ended, all was read, and else there were too many bytes.
pub read_suffices : (before after : Option (List ℕ)) (space : List ℕ) (got : ℕ) → length space ≡ most_bytes + 1 → got ≤ length space
    → Consumes before after (take got space) → (got < length space → IsAtEnd after) → IfSome before (λ sheet. printed (take got space) ≡ printed sheet)
read_suffices None after space got one within taken ended = tt
read_suffices (Some xs) None space got one within taken ended = absurd taken
read_suffices (Some xs) (Some ys) space got one within taken ended =
    let upto : got ≤ most_bytes + 1 = omega (arith, one, within) in
    ⊎_elim (λ h. long h) (λ h. whole h) (eq-or-lt_of_le upto)
  where
    long : got ≡ most_bytes + 1 → printed (take got space) ≡ printed xs
    long h =
        let front : length (take got space) ≡ got = length-take-le got space within in
        let all : length xs ≡ length (take got space) + length ys = ap length taken ∙ length-append (take got space) ys in
        long_refused (take got space) (omega arith) ∙ sym (long_refused xs (omega arith))

    whole : got < most_bytes + 1 → printed (take got space) ≡ printed xs
    whole h = ap printed (sym (taken ∙ ap (λ l. take got space ++ l) (ended (omega arith)) ∙ append-nil (take got space)))

-- the same of what is written
pub writes_printed : {E : Type 0} (r : Result Unit E) (input before after : Option (List ℕ)) (text : List ℕ)
    → IfSome input (λ sheet. text ≡ printed sheet) → OnOk r (Appends before after text) → OnOk r (IfSome input (λ sheet. Appends before after (printed sheet)))
writes_printed (Ok u) None before after text same done = tt
writes_printed (Ok u) (Some xs) before after text same done = rw (← same) done
writes_printed (Err e) input before after text same done = tt
