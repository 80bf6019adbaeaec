-- A list of calls on the numbers of a record, each handed what the last left, and lent the front of each buffer. Definitions only. Assumes nothing.
use Rattle.std.specs.Prelude.{ℕ, List, [], ◌∷◌, ◌++◌, ◌≡◌}
use Rattle.model.specs.Machine.{Lent}
use Rattle.image.specs.Calls.{Buffers, run_after, buffers_after}
use Rattle.image.specs.Lists.{front, behind, Held}
use Rattle.records.specs.Numbers.{Listed, run_from, run_put, Holds}
use Rattle.controls.specs.Controls.{fault_in, unless_refused}
use Rattle.image.specs.Replay.{opened}

-- the record's numbers, the buffers, and what the calls answered
pub record HeldIn : Type 0 where
  pub lists : Listed
  pub all : Buffers
  pub said : List ℕ

-- what `Called` says of one call, on the front of each buffer
unfoldable pub called_in : Lent → HeldIn → HeldIn
called_in l h = record {
  lists = unless_refused (fault_in l.call h.lists (front l.space h.all)) (run_put (run_after l.call (run_from h.lists) (front l.space h.all)) h.lists) h.lists;
  all = behind l.space h.all (unless_refused (fault_in l.call h.lists (front l.space h.all)) (buffers_after l.call (run_from h.lists) (front l.space h.all)) (front l.space h.all));
  said = h.said ++ (fault_in l.call h.lists (front l.space h.all) ∷ []);
}

unfoldable pub calls_in : List Lent → HeldIn → HeldIn
unfolding called_in
calls_in [] h = h
calls_in (l ∷ ls) h = calls_in ls (called_in l h)

-- the numbers and the buffers of an opened sheet
abbrev pub begun_in : List ℕ → Listed → Buffers → HeldIn
begun_in sheet l b = record { lists = run_put (opened sheet b).answer.run l; all = (opened sheet b).all; said = [] }

-- what the numbers stand for
abbrev pub held_of : HeldIn → Held
held_of n = record { run = run_from n.lists; all = n.all; said = n.said }

-- the lists hold the record, and all else is the same
pub record Follows (h : Held) (n : HeldIn) : Type 0 where
  pub holds : Holds h.run n.lists
  pub all : n.all ≡ h.all
  pub said : n.said ≡ h.said
