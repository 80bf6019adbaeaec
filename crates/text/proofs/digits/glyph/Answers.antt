-- `text::digits::glyph` meets its contract. Assumes nothing.
use native.Mathlib.Omega.{arith}
use Rattle.text.specs.TextLaws.{glyph-low, glyph_high}
use Rattle.text.proofs.digits.glyph.Goals as goal

pub returns-then-d-lt10 : goal.returns-then-d-lt10
returns-then-d-lt10 c = glyph-low _ (omega arith)

pub returns-else-d-lt10 : goal.returns-else-d-lt10
returns-else-d-lt10 c = glyph_high _ (omega arith)
