use Rattle.std.proofs.Common.{refl, sym, ap, ◌∙◌, ◌+◌, ℕ, length}
use Rattle.stretch.specs.StretchLaws.{part_lent, length_part}
use Rattle.text.specs.Text.{digits}
use Rattle.text.specs.PutLaws.{puts, put_is}
use Rattle.text.specs.TextLaws.{length_digits}
use Rattle.text.proofs.raw.Output.digits.Goals as goal

pub returns : goal.returns
returns c =
    let a = c.args in
    let n = length_digits a.base a.k a.n in
    record {
      same = refl;
      put = puts (put_is _ _ _ _ _ _ (c.fill_digits.ensures ∙ ap (λ (k : ℕ). digits a.base k a.n) (ap length (part_lent _ _ _ _ refl) ∙ length_part _ _ _ c.requires.0)) n refl c.requires.0) (ap (λ (k : ℕ). a.self.now.at + k) (sym n));
    }
