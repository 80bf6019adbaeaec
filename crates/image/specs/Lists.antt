-- A list of calls, each handed what the last returned and left, and lent the front of each buffer. Definitions only. Assumes nothing.
use Rattle.std.specs.Prelude.{ℕ, List, [], ◌∷◌, ◌++◌, take, drop}
use Rattle.model.specs.Machine.{Lent, Space}
use Rattle.work.specs.declared.Run.{Run}
use Rattle.image.specs.Calls.{Buffers, buffers, fault, run_after, buffers_after}

pub record Held : Type 0 where
  pub run : Run
  pub all : Buffers
  pub said : List ℕ

-- the front of each buffer that a call is lent, and the rest that waits
abbrev pub front : Space → Buffers → Buffers
front s b = buffers (take s.floats b.floats) (take s.words b.words) (take s.path b.path)

abbrev pub behind : Space → Buffers → Buffers → Buffers
behind s b lent = buffers (lent.floats ++ drop s.floats b.floats) (lent.words ++ drop s.words b.words) (lent.path ++ drop s.path b.path)

unfoldable pub performed : Lent → Held → Held
performed l h = record {
  run = run_after l.call h.run (front l.space h.all);
  all = behind l.space h.all (buffers_after l.call h.run (front l.space h.all));
  said = h.said ++ (fault l.call h.run (front l.space h.all) ∷ []);
}

unfoldable pub performs : List Lent → Held → Held
unfolding performed
performs [] h = h
performs (l ∷ ls) h = performs ls (performed l h)

-- a record and the buffers, before any call
abbrev pub begun : Run → Buffers → Held
begun run b = record { run = run; all = b; said = [] }
