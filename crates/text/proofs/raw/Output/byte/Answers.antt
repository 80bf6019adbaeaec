use Rattle.std.proofs.Common.{refl}
use Rattle.text.specs.PutLaws.{byte_put}
use Rattle.text.proofs.raw.Output.byte.Goals as goal

pub returns : goal.returns
returns c = record { same = refl; put = byte_put _ _ _ }
