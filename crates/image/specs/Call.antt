-- The machine's call that a call of the code is. Definitions only. Assumes nothing.
use Rattle.model.specs.Machine as Machine
use Rattle.image.specs.declared.Call.{Call}
use Rattle.image.specs.declared.Call.TheVariants.{Advance, Back, Mark, Return}

abbrev pub machine_call : Call → Machine.Call
machine_call (Advance k) = Machine.advance k
machine_call (Back k) = Machine.back k
machine_call Mark = Machine.mark
machine_call Return = Machine.return
