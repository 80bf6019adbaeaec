-- `writing::putting::F64Item::put` meets its contract: what is put are the bytes of the number's pattern.
-- Assumes nothing.
use mathlib.Core.Path.{ap, ◌∙◌}
use Rattle.format.specs.Bytes.{bytes}
use Rattle.format.specs.LeLaws.{to_eight}
use Rattle.writing.proofs.Puts.{adds_as}
use Rattle.writing.proofs.putting.F64Item.put.Goals as goal

pub returns : goal.returns
returns c = adds_as c.put.ensures (c.to_le_bytes.ensures ∙ to_eight c.f64_to_bits_with_nan.result ∙ ap (bytes 8) c.f64_to_bits_with_nan.ensures)
