-- A path's place as an entry of its triangle. Definitions only. Assumes nothing.
use Rattle.pde.specs.declared.Entry.{Entry}
use Rattle.pde.specs.declared.Walk.{Walk}

abbrev pub entry_at : Walk → Entry
entry_at w = record { point = w.position; triangle = w.triangle; edge = w.edge }
