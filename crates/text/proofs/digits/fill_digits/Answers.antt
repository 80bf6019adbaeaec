-- With the digits that are left put down, the bytes are what they have to be. Assumes nothing.
use Rattle.std.proofs.Common.{arith, refl, ap, ◌∙◌, ◌≡◌, ◌+◌, ◌-◌, ◌/◌, ℕ}
use lib.ListN.{set, length-set}
use Rattle.stretch.specs.Stretch.{splice}
use Rattle.stretch.specs.StretchLaws.{splice_all}
use Rattle.text.specs.Text.{digits}
use Rattle.text.specs.TextLaws.{length_digits, digit_step, digits_none}
use Rattle.text.proofs.digits.fill_digits.Goals as goal

pub loop-i-init : goal.loop-i-init
loop-i-init c = record { within = omega arith; long = refl; is = splice_all _ _ (length_digits _ _ _) }

pub loop-i-preserved : goal.loop-i-preserved
loop-i-preserved c =
    let a = c.args in
    let l = c.loop-i in
    let z : 0 + (l.i - 1) ≡ l.i - 1 = omega arith in
    record {
      within = omega (arith, length-set l.out (l.i - 1) c.glyph.result);
      long = length-set _ _ _ ∙ l.invariant.long;
      is =
          ap (λ (v : ℕ). splice (set l.out (l.i - 1) v) 0 (digits a.base (l.i - 1) (l.rest / a.base))) c.glyph.ensures
          ∙ rw z at (digit_step l.out _ 0 a.base l.i l.rest (omega arith) l.invariant.is);
    }

pub returns : goal.returns
returns c =
    let l = c.loop-i in
    let z : l.i ≡ 0 = omega arith in
    digits_none _ _ 0 _ _ (rw z at l.invariant.is)
