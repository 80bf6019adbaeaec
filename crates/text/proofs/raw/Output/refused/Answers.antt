-- A refusal's text is that of its number. Assumes nothing.
use Rattle.text.proofs.raw.Output.refused.Goals as goal

pub refused_by-requires : goal.refused_by-requires
refused_by-requires c = rw (c.from.ensures, c.number.ensures) c.requires
