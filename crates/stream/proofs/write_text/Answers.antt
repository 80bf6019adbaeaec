-- `write_text` meets its contract: what is written is the text's bytes. Assumes nothing.
use Rattle.std.proofs.Common.{ℕ, List, OnOk, subst}
use Rattle.std.specs.Io.KnownBytes.{Appends}
use Rattle.stream.proofs.Laws.{text_front}
use Rattle.stream.proofs.write_text.Goals as goal

pub returns : goal.returns
returns g c =
    subst (λ (bytes : List ℕ). OnOk c.write_all.result (Appends (g.W.Write.contents c.args.writer.now) (g.W.Write.contents c.write_all.new.self) bytes)) (text_front _ _ _ _ c.print_read-end.ensures.prints.text) c.write_all.ensures.bytes
