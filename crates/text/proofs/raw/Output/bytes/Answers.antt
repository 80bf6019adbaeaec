use Rattle.std.proofs.Common.{refl}
use Rattle.text.specs.PutLaws.{puts, put_is}
use Rattle.text.proofs.raw.Output.bytes.Goals as goal

pub returns : goal.returns
returns c = record { same = refl; put = puts (put_is _ _ _ _ _ _ c.copy_from_slice.ensures.after refl refl c.requires) refl }
