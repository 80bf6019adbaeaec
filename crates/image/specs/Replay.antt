-- Opening a sheet, and a list of calls written as numbers (document 01, Counter machine and the table of refusals). Definitions only. Assumes nothing.
use Rattle.std.specs.Prelude.{ℕ, zero, suc, ◌+◌, ◌*◌, ◌/◌, min, ◌≡◌, List, [], ◌∷◌, ◌++◌, eqb, length, drop, get_or}
use Rattle.binary64.specs.Number.{pick}
use Rattle.format.specs.Content.{Content}
use Rattle.format.specs.Sheet.{Parsed, accepted, refused, parse}
use Rattle.model.specs.Task.{Task, task}
use Rattle.model.specs.Machine.{Call, advance, back, mark, return, fresh, needs, short, Lent, Ticked}
use Rattle.work.specs.declared.Run.{Run}
use Rattle.work.specs.Record.{no_run}
use Rattle.image.specs.Answer.{Answer}
use Rattle.image.specs.Calls.{Buffers, answered, fault, run_after, buffers_after}
use Rattle.image.specs.Image.{run_of, image, rest_of}
use Rattle.image.specs.Lists.{Held, front, behind, performs}
use Rattle.image.specs.Shown.{lengths_of, machine, Shown}

-- ---- opening

-- what opening answers, and the buffers after it
pub record Opening : Type 0 where
  pub answer : Answer
  pub all : Buffers

abbrev pub opening : ℕ → Run → Buffers → Opening
opening k run b = record { answer = answered k run; all = b }

-- The sheet's refusal, then 8, with no run and all buffers as they were; else the run at place 0.
abbrev pub opened_by : Parsed → Buffers → Opening
opened_by (refused k) b = opening k no_run b
opened_by (accepted c) b =
    pick (eqb (short (needs (task c)) (lengths_of b)) 0) (opening 0 (run_of (task c) fresh) (image (task c) fresh (rest_of (task c) b))) (opening (short (needs (task c)) (lengths_of b)) no_run b)

unfoldable pub opened : List ℕ → Buffers → Opening
opened sheet b = opened_by (parse sheet) b

-- what `open` ensures
pub record Opens (sheet : List ℕ) (b : Buffers) (a : Answer) (b' : Buffers) : Type 0 where
  pub answer : a ≡ (opened sheet b).answer
  pub held : b' ≡ (opened sheet b).all

-- ---- a list of calls as numbers, six for each: kind, k, a number that no call takes yet, and how many floats, words and places of the path are lent

abbrev pub call_numbers : ℕ
call_numbers = 6

-- kind 0 is advance, 1 back, 2 mark, any other return; mark and return take no k
abbrev pub call_of : ℕ → ℕ → Call
call_of zero k = advance k
call_of (suc zero) k = back k
call_of (suc (suc zero)) k = mark
call_of (suc (suc (suc j))) k = return

abbrev pub lent_at : List ℕ → ℕ → Lent
lent_at l i = record {
  call = call_of (get_or l (call_numbers * i) 0) (get_or l (call_numbers * i + 1) 0);
  space = record { floats = get_or l (call_numbers * i + 3) 0; words = get_or l (call_numbers * i + 4) 0; path = get_or l (call_numbers * i + 5) 0 };
}

-- the first i calls
unfoldable pub decoded : List ℕ → ℕ → List Lent
decoded l zero = []
decoded l (suc i) = decoded l i ++ (lent_at l i ∷ [])

-- what a turn of the loop ensures: the call is lent the front of each buffer, and the rest waits
pub record Turned (l : Lent) (run : Run) (b : Buffers) (a : Answer) (b' : Buffers) : Type 0 where
  pub said : a.refused ≡ fault l.call run (front l.space b)
  pub left : a.run ≡ run_after l.call run (front l.space b)
  pub held : b' ≡ behind l.space b (buffers_after l.call run (front l.space b))

-- as many as there are whole ones, and places for their refusals
abbrev pub call_count : List ℕ → List ℕ → ℕ
call_count l said = min (length said) (length l / call_numbers)

-- the first i calls, from a record and the buffers
unfoldable pub replayed : List ℕ → ℕ → Run → Buffers → Held
unfolding decoded
replayed l i r b = performs (decoded l i) (record { run = r; all = b; said = [] })

-- what the loop over the calls ensures: each call's refusal goes to its place of `said`
pub record Performs (calls : List ℕ) (run : Run) (said : List ℕ) (b : Buffers) (run' : Run) (said' : List ℕ) (b' : Buffers) : Type 0 where
  pub left : run' ≡ (replayed calls (call_count calls said) run b).run
  pub told : said' ≡ (replayed calls (call_count calls said) run b).said ++ drop (call_count calls said) said
  pub held : b' ≡ (replayed calls (call_count calls said) run b).all

-- ---- a sheet is opened and a list of calls made

-- the machine after the calls, where there are the lent places
abbrev pub machine_of : Task → List ℕ → List ℕ → Buffers → Ticked
machine_of c calls said b = machine c (lengths_of b) (decoded calls (call_count calls said))

-- where the sheet is accepted and the space suffices: the record, the refusals, each lent place, and what they show
pub record Ran (c : Task) (calls said : List ℕ) (b : Buffers) (a : Answer) (said' : List ℕ) (b' : Buffers) : Type 0 where
  pub answer : a ≡ answered 0 (run_of c (machine_of c calls said b).counter)
  pub told : said' ≡ (machine_of c calls said b).said ++ drop (call_count calls said) said
  pub held : b' ≡ image c (machine_of c calls said b).counter (rest_of c b)
  pub shown : Shown c (machine_of c calls said b).counter (run_of c (machine_of c calls said b).counter) b'

-- what `replay` ensures
pub record Replayed (sheet calls said : List ℕ) (b : Buffers) (a : Answer) (said' : List ℕ) (b' : Buffers) : Type 0 where
  -- refused: the number, and every lent place as it was
  pub refuses : ((opened sheet b).answer.refused ≡ 0 → ⊥) → (a ≡ (opened sheet b).answer) × (said' ≡ said) × (b' ≡ b)
  pub runs : (c : Content) → parse sheet ≡ accepted c → short (needs (task c)) (lengths_of b) ≡ 0 → Ran (task c) calls said b a said' b'
