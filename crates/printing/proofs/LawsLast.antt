-- An accepted sheet that is opened and advanced stands at the last place of its uninterrupted run, and what it shows there is printed. Assumes nothing.
use Prim.Native.Nat.{ℕ, ◌+◌, ◌-◌, ◌≤◌, min}
use mathlib.Core.Path.{◌≡◌, refl, sym, ap, ◌∙◌}
use mathlib.Core.Bool.{Bool, true, false}
use mathlib.Core.List.{List, [], ◌∷◌, append-nil}
use native.Mathlib.Omega.{arith}
use borrow.Author.Tests.{le-ltb}
use lib.Dec.{eqb}
use lib.ListN.{length, get_or}
use lib.Seq.{take_all, drop-length}
use Rattle.binary64.specs.Number.{pick}
use Rattle.format.specs.Bytes.{Bytes}
use Rattle.format.specs.Content.{Content}
use Rattle.format.specs.Sheet.{Parsed, accepted, refused, parse}
use Rattle.format.specs.Theorems.{parse_sound}
use Rattle.model.specs.Task.{Task, task}
use Rattle.model.specs.Sized.{Sized}
use Rattle.model.proofs.SizeLaws.{sized}
use Rattle.model.specs.Run.{at, last_place}
use Rattle.model.proofs.RunLaws.{last_bound}
use Rattle.model.specs.Machine.{Space, fresh, most, needs, short, ahead, refused as machine_refused, tick, Lent, Ticked, ticks}
use Rattle.work.specs.declared.Run.{Run}
use Rattle.work.specs.Record.{no_run}
use Rattle.image.specs.Answer.{Answer}
use Rattle.image.specs.Calls.{Buffers, fault, run_after, buffers_after}
use Rattle.image.specs.CallLaws.{lacking}
use Rattle.image.proofs.Instance.{facts}
use Rattle.image.specs.Lists.{Held, front, behind, performed, performs, begun}
use Rattle.image.proofs.ListTheorem.{counted}
use Rattle.image.specs.Image.{run_of, image, rest_of}
use Rattle.image.specs.Replay.{Opening, opening, opened_by, opened, Opens}
use Rattle.image.proofs.ReplayTheorem.{as_long, opened_run, refused_unopened, open_space}
use Rattle.image.specs.Shown.{lengths_of, machine, Shown, HandedOut}
use Rattle.image.proofs.Theorem.{lists_of_calls_image, as_opened_lem, lists_from_sheet, handed_from_sheet}
use Rattle.text.specs.Put.{Printed}
use Rattle.text.specs.Text.{refused_text}
use Rattle.printing.specs.Printed.{most_bytes, places, state_text, task_text, parsed_text, printed, at_last, parsed_buffers, printed_buffers, Prints}
use Rattle.printing.specs.Steps.{shown_text, far, last_text, PutsLast}
use Rattle.printing.proofs.LawsText.{printed_as}

-- buffers of so many places
pub as_places : (b : Buffers) → length b.floats ≡ 8192 → length b.words ≡ 16384 → length b.path ≡ 8192 → lengths_of b ≡ places
as_places b f w p = rw (f, w, p)

-- ---- a front that is all there is

front-all : (s : Space) (b : Buffers) → lengths_of b ≡ s → front s b ≡ b
front-all s b e = rw (← e) (rw (take_all (length b.floats) b.floats (omega arith), take_all (length b.words) b.words (omega arith), take_all (length b.path) b.path (omega arith)))

behind-all : (s : Space) (b b' : Buffers) → lengths_of b ≡ s → behind s b b' ≡ b'
behind-all s b b' e = rw (← e) (rw (drop-length b.floats, drop-length b.words, drop-length b.path, append-nil b'.floats, append-nil b'.words, append-nil b'.path))

-- ---- the machine

module _ (c : Task) (good : Sized c) where
  last_near : last_place c ≤ 4294967295
  last_near = let k : _ = counted c good in omega (arith, last_bound c, k.triangles, k.limit)

  machine_last : (all : Space) → short (needs c) all ≡ 0 → machine c all (record { call = far; space = all } ∷ []) ≡ record { counter = at_last c; said = 0 ∷ [] }
  unfolding ticks tick machine_refused
  machine_last all space =
      let n : last_place c ≤ 4294967295 = last_near in
      let m : ahead (last_place c) 4294967295 0 ≡ last_place c = omega arith in
      let s : last_place c - 0 ≡ last_place c = omega arith in
      let z : 0 + last_place c ≡ last_place c = omega arith in
      rw (min_self all.floats, min_self all.words, min_self all.path, space, m, s, z, le-ltb most (last_place c) (omega arith))
    where
      min_self : (k : ℕ) → min k k ≡ k
      min_self k = omega arith

-- ---- a sheet that is opened, and the advance

module _ (sheet : List ℕ) (bytes : Bytes sheet) (b : Buffers) (content : Content) (e : parse sheet ≡ accepted content) (o : (opened sheet b).answer.refused ≡ 0) where
  abbrev c : Task
  c = task content

  abbrev run : Run
  run = (opened sheet b).answer.run

  space : short (needs c) (lengths_of b) ≡ 0
  space = open_space sheet b content e o

  good : Sized c
  good = sized content (parse_sound sheet content bytes e)

  abbrev advances : List Lent
  advances = record { call = far; space = lengths_of b } ∷ []

  abbrev held : Held
  held = performs advances (begun run (opened sheet b).all)

  -- what it shows
  held_text : shown_text held.run held.all.floats held.all.path ≡ state_text (last_place c) (at c (last_place c))
  unfolding shown_text state_text
  held_text =
      let m : machine c (lengths_of b) advances ≡ record { counter = at_last c; said = 0 ∷ [] } = machine_last c good (lengths_of b) space in
      let s : Shown c (at_last c) held.run held.all = rw m at (lists_from_sheet sheet bytes b content e o advances).shown in
      let h : HandedOut c (at_last c) held.run held.all = rw m at (handed_from_sheet sheet bytes b content e o advances) in
      rw (s.place, s.field_end, s.path_end, h.field, h.norms, h.gradients, h.points)

  -- opening leaves the buffers as long as they were
  same_lengths : lengths_of (opened sheet b).all ≡ lengths_of b
  same_lengths = rw (opened_run sheet b content e space) (as_long c good (facts c good) b space)

  -- the advance is lent all there is
  lent-all : front (lengths_of b) (opened sheet b).all ≡ (opened sheet b).all
  lent-all = front-all (lengths_of b) (opened sheet b).all same_lengths

  fault_none : fault far run (opened sheet b).all ≡ 0
  unfolding performs performed
  fault_none =
      let m : machine c (lengths_of b) advances ≡ record { counter = at_last c; said = 0 ∷ [] } = machine_last c good (lengths_of b) space in
      let s : held.said ≡ 0 ∷ [] = rw m at (lists_from_sheet sheet bytes b content e o advances).refusals in
      ap (fault far run) (sym lent-all) ∙ ap (λ (l : List ℕ). get_or l 0 0) s

  run_held : run_after far run (opened sheet b).all ≡ held.run
  unfolding performs performed
  run_held = ap (run_after far run) (sym lent-all)

  all_held : buffers_after far run (opened sheet b).all ≡ held.all
  unfolding performs performed
  all_held = sym (behind-all (lengths_of b) (opened sheet b).all (buffers_after far run (opened sheet b).all) same_lengths) ∙ ap (λ (x : Buffers). behind (lengths_of b) (opened sheet b).all (buffers_after far run x)) (sym lent-all)

  -- what it leaves
  last_held : buffers_after far run (opened sheet b).all ≡ image c (at_last c) (rest_of c b)
  last_held =
      let m : machine c (lengths_of b) advances ≡ record { counter = at_last c; said = 0 ∷ [] } = machine_last c good (lengths_of b) space in
      all_held ∙ ap (λ (h : Held). (performs advances h).all) (as_opened_lem sheet bytes b content e o advances) ∙ ap (λ (h : Held). h.all) (lists_of_calls_image c good b space advances)
      ∙ ap (λ (t : Ticked). image c t.counter (rest_of c b)) m

  last_state : last_text run (opened sheet b).all ≡ state_text (last_place c) (at c (last_place c))
  unfolding last_text
  last_state = rw (fault_none, run_held, all_held) held_text

-- ---- what is printed

-- what opening answers, and what it leaves, by whether the space lacks
abbrev by_lack : Task → Buffers → Bool → Opening
by_lack c b t = pick (eqb (pick {A = ℕ} t 8 0) 0) (opening 0 (run_of c fresh) (image c fresh (rest_of c b))) (opening (pick t 8 0) no_run b)

module _ (b : Buffers) (long : lengths_of b ≡ places) where
  -- of the same buffers
  same_text : (c : Task) → pick (eqb (short (needs c) (lengths_of b)) 0) (state_text (last_place c) (at c (last_place c))) (refused_text 8) ≡ task_text c
  unfolding task_text
  same_text c = ap (λ (s : Space). pick (eqb (short (needs c) s) 0) (state_text (last_place c) (at c (last_place c))) (refused_text 8)) long

  -- the sheet is refused, or its space is short
  refused_text_lem : (p : Parsed) → ((opened_by p b).answer.refused ≡ 0 → ⊥) → refused_text (opened_by p b).answer.refused ≡ parsed_text p
  refused_text_lem (refused j) n = refl
  refused_text_lem (accepted c) n = go (lacking (needs (task c)) (lengths_of b)) n ∙ same_text (task c)
    where
      go : (t : Bool) → ((by_lack (task c) b t).answer.refused ≡ 0 → ⊥)
          → refused_text (by_lack (task c) b t).answer.refused ≡ pick (eqb (pick {A = ℕ} t 8 0) 0) (state_text (last_place (task c)) (at (task c) (last_place (task c)))) (refused_text 8)
      go true f = refl
      go false f = absurd (f refl)

  refused-held : (p : Parsed) → ((opened_by p b).answer.refused ≡ 0 → ⊥) → (opened_by p b).all ≡ parsed_buffers p b
  refused-held (refused j) n = refl
  refused-held (accepted c) n = go (lacking (needs (task c)) (lengths_of b)) n
    where
      go : (t : Bool) → ((by_lack (task c) b t).answer.refused ≡ 0 → ⊥)
          → (by_lack (task c) b t).all ≡ pick (eqb (pick {A = ℕ} t 8 0) 0) (image (task c) (at_last (task c)) (rest_of (task c) b)) b
      go true f = refl
      go false f = absurd (f refl)

  module _ (sheet : List ℕ) (bytes : Bytes sheet) (o : (opened sheet b).answer.refused ≡ 0) where
    -- the run is open
    open_text : (p : Parsed) → parse sheet ≡ p → last_text (opened sheet b).answer.run (opened sheet b).all ≡ parsed_text p
    open_text (refused j) q = absurd (refused_unopened sheet b j q o)
    open_text (accepted c) q =
        let s : short (needs (task c)) (lengths_of b) ≡ 0 = open_space sheet b c q o in
        rw (← (same_text (task c)), s) (last_state sheet bytes b c q o)

    open_held : (p : Parsed) → parse sheet ≡ p → buffers_after far (opened sheet b).answer.run (opened sheet b).all ≡ parsed_buffers p b
    open_held (refused j) q = absurd (refused_unopened sheet b j q o)
    open_held (accepted c) q =
        let s : short (needs (task c)) (lengths_of b) ≡ 0 = open_space sheet b c q o in
        rw s (last_held sheet bytes b c q o)

  module _ (sheet : List ℕ) (few : length sheet ≤ most_bytes) (a : Answer) (b' : Buffers) (o : Opens sheet b a b') where
    same-refused : a.refused ≡ (opened sheet b).answer.refused
    same-refused = ap (λ (x : Answer). x.refused) o.answer

    pub refused_prints : {out out' : List ℕ} {r : ℕ} → (a.refused ≡ 0 → ⊥) → Printed out 0 (refused_text a.refused) r out' → Prints sheet b out r b' out'
    unfolding printed printed_buffers opened
    refused_prints n p =
        let f : (opened_by (parse sheet) b).answer.refused ≡ 0 → ⊥ = λ z. n (same-refused ∙ z) in
        record {
          text = printed_as (printed sheet) p (rw (le-ltb most_bytes (length sheet) few) (ap refused_text same-refused ∙ refused_text_lem (parse sheet) f));
          held = rw (le-ltb most_bytes (length sheet) few) (o.held ∙ refused-held (parse sheet) f);
        }

    pub run_prints : {out out' : List ℕ} {r : ℕ} {b'' : Buffers} → Bytes sheet → a.refused ≡ 0 → PutsLast a.run b' out r b'' out' → Prints sheet b out r b'' out'
    unfolding printed printed_buffers
    run_prints bytes e p =
        let f : (opened sheet b).answer.refused ≡ 0 = sym same-refused ∙ e in
        let g : a.run ≡ (opened sheet b).answer.run = ap (λ (x : Answer). x.run) o.answer in
        record {
          text = printed_as (printed sheet) p.text (rw (le-ltb most_bytes (length sheet) few) (rw (g, o.held) (open_text sheet bytes f (parse sheet) refl)));
          held = rw (le-ltb most_bytes (length sheet) few) (p.held ∙ rw (g, o.held) (open_held sheet bytes f (parse sheet) refl));
        }
