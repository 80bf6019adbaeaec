-- With the digits that are left put down, the bytes are what they have to be. Assumes nothing.
use Rattle.std.proofs.Common.{◌≡◌, ◌≤◌, length}
use Rattle.stretch.specs.Stretch.{splice}
use Rattle.text.specs.Text.{digits}
use Rattle.text.proofs.digits.fill_digits.Given as goal

abbrev pub invariant-loop-i : goal.invariant-loop-i
invariant-loop-i l = record {
  within : l.i ≤ length l.out;
  long : length l.out ≡ length l.initial.out;
  is : splice l.out 0 (digits l.base l.i l.rest) ≡ digits l.base (length l.initial.out) l.n;
}
