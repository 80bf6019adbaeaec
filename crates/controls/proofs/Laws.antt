-- What each way through a call comes to. Assumes nothing.
use Prim.Native.Nat.{ℕ, zero, suc, ◌≤◌}
use native.Mathlib.Omega.{arith}
use mathlib.Core.Bool.{Bool, true, false, ◌&&◌}
use mathlib.Core.Path.{◌≡◌, refl, sym, ap, ◌∙◌}
use mathlib.Core.List.{List, []}
use borrow.Author.Tests.{ne_eqb, leb-true, le-leb}
use lib.Dec.{eqb, leb}
use lib.ListN.{length, set}
use lib.Ieee.{Float}
use Rattle.binary64.specs.Number.{pick}
use Rattle.binary64.specs.NumberLaws.{both}
use Rattle.pde.specs.Path.{length_of}
use Rattle.format.specs.Content.{Content, max_vertices, max_triangles, max_limit, max_room}
use Rattle.format.specs.Refusal.{◌then◌, whole_fault}
use Rattle.format.specs.Sheet.{Parsed, accepted, refused, parse}
use Rattle.format.specs.SheetLaws.{refuses}
use Rattle.sheet.specs.Answer.{checked_of}
use Rattle.model.specs.Space.{float_space, word_space, path_space}
use Rattle.model.specs.Task.{task}
use Rattle.model.specs.Machine.{Call, fresh, needs, short}
use Rattle.work.specs.declared.Run.{Run}
use Rattle.work.specs.Record.{no_run}
use Rattle.image.specs.Answer.{Answer}
use Rattle.image.specs.Calls.{Buffers, held_fault, fault, buffers_after, Does}
use Rattle.image.proofs.AcceptedLaws.{then_first, then_second, then_none}
use Rattle.image.specs.Image.{run_of, image, rest_of}
use Rattle.image.specs.Points.{points_of}
use Rattle.image.specs.Replay.{Opening, opening, opened_by, opened, Opens}
use Rattle.image.specs.CallLaws.{lacking}
use Rattle.image.proofs.ReplayTheorem.{replayed-refused}
use Rattle.image.specs.Shown.{lengths_of}
use Rattle.records.specs.Numbers.{Listed, fits, flagged, run_from, run_put}
use Rattle.controls.specs.Controls.{flag_fault, flags_fault, held_fault_in, fault_in, refusal_or8, open_fault_in, length_fault_in, needed_by, needed_fault, OpenedIn, Called, Measured, Needed}

-- a flag's fault is one
flag_refuses : (k : ℕ) → flag_fault k ≡ 0 → ⊥
flag_refuses k = go (eqb k 8)
  where
    go : (t : Bool) → pick {A = ℕ} t 8 10 ≡ 0 → ⊥
    go true e = omega (arith, e)
    go false e = omega (arith, e)

module _ (l : Listed) (b : Buffers) where
  abbrev held : ℕ
  held = held_fault (run_from l) b

  -- what refuses the lists or the flags refuses any call
  pub flags_first : (k : ℕ) → k ≡ flags_fault l b → (k ≡ 0 → ⊥) → k ≡ held_fault_in l b
  unfolding held_fault_in
  flags_first k e n = go (fits l) (flagged l) e
    where
      go : (f g : Bool) → k ≡ pick f (pick g 0 (flag_fault held)) 8 → k ≡ pick f (pick g held (flag_fault held)) 8
      go true true e = absurd (n e)
      go true false e = e
      go false g e = e

  -- where nothing refuses them, what refuses the record does
  pub flags_passed : 0 ≡ flags_fault l b → held_fault (run_from l) b ≡ held_fault_in l b
  unfolding held_fault_in
  flags_passed e = go (fits l) (flagged l) e
    where
      go : (f g : Bool) → 0 ≡ pick f (pick g 0 (flag_fault held)) 8 → held ≡ pick f (pick g held (flag_fault held)) 8
      go true true e = refl
      go true false e = absurd (flag_refuses held (sym e))
      go false g e = absurd (omega (arith, e))

module _ (c : Call) (l : Listed) (b : Buffers) where
  held_first : (k : ℕ) → k ≡ held_fault_in l b → (k ≡ 0 → ⊥) → k ≡ fault_in c l b
  unfolding fault_in
  held_first k e n = e ∙ sym (then_first _ _ (λ z. n (e ∙ z)))

  sound_call : 0 ≡ flags_fault l b → fault c (run_from l) b ≡ fault_in c l b
  unfolding fault_in fault
  sound_call e = rw (flags_passed l b e)

  refusing : (k : ℕ) → k ≡ fault_in c l b → (k ≡ 0 → ⊥) → Called c l b k l b
  refusing k e n =
      let f : eqb (fault_in c l b) 0 ≡ false = ne_eqb (fault_in c l b) 0 (λ z. n (e ∙ z)) in
      record { said = e; lists = rw f; held = rw f }

  -- the lists or the flags are refused
  pub call_flags : (k : ℕ) → k ≡ flags_fault l b → (k ≡ 0 → ⊥) → Called c l b k l b
  call_flags k e n = refusing k (held_first k (flags_first l b k e n) n) n

  module _ (e : 0 ≡ flags_fault l b) {r : Run} (same : r ≡ run_from l) {a : Answer} {b' : Buffers} (does : Does c r b a b') where
    d : Does c (run_from l) b a b'
    d = rw (← same) does

    told : a.refused ≡ fault_in c l b
    told = d.said ∙ sound_call e

    -- the call is refused
    pub call_refused : (a.refused ≡ 0 → ⊥) → Called c l b a.refused l b'
    unfolding buffers_after
    call_refused n =
        let g : eqb (fault c (run_from l) b) 0 ≡ false = ne_eqb (fault c (run_from l) b) 0 (λ z. n (d.said ∙ z)) in
        let unchanged : b' ≡ b = d.held ∙ rw g in
        rw unchanged (refusing a.refused told n)

    -- the call is made, and the record's numbers are put
    pub call_made : a.refused ≡ 0 → (l' : Listed) → l' ≡ run_put a.run l → Called c l b a.refused l' b'
    call_made z l' p =
        let g : fault_in c l b ≡ 0 = sym told ∙ z in
        record {
          said = told;
          lists = rw g (p ∙ ap (λ (r : Run). run_put r l) d.left);
          held = rw g d.held;
        }

-- ---- opening

-- what refuses a sheet, or 8, is what opening says that has no lists for its record
refused_or_8 : (sheet : List ℕ) (b : Buffers) → refusal_or8 (checked_of (parse sheet)) ≡ ((opened sheet b).answer.refused then 8)
unfolding opened
refused_or_8 sheet b = go (parse sheet) (refuses sheet)
  where
    space : (s : Bool) → 8 ≡ (pick {A = ℕ} (eqb (pick s 8 0) 0) 0 (pick s 8 0) then 8)
    space true = refl
    space false = refl

    kept : (k : ℕ) → (k ≡ 0 → ⊥) → k ≡ (k then 8)
    kept k n = sym (then_first k 8 n)

    by : (c : Content) (t : Bool) → (pick {A = Opening} t (opening 0 (run_of (task c) fresh) (image (task c) fresh (rest_of (task c) b))) (opening (short (needs (task c)) (lengths_of b)) no_run b)).answer.refused ≡ pick t 0 (short (needs (task c)) (lengths_of b))
    by c true = refl
    by c false = refl

    go : (p : Parsed) → ((k : ℕ) → p ≡ refused k → k ≡ 0 → ⊥) → refusal_or8 (checked_of p) ≡ ((opened_by p b).answer.refused then 8)
    go (refused k) n = kept k (n k refl)
    go (accepted c) n = rw (by c (eqb (short (needs (task c)) (lengths_of b)) 0)) (space (lacking (needs (task c)) (lengths_of b)))

module _ (sheet : List ℕ) (l : Listed) (b : Buffers) where
  open_refusing : (k : ℕ) → k ≡ open_fault_in sheet l b → (k ≡ 0 → ⊥) → OpenedIn sheet l b k l b
  open_refusing k e n =
      let f : eqb (open_fault_in sheet l b) 0 ≡ false = ne_eqb (open_fault_in sheet l b) 0 (λ z. n (e ∙ z)) in
      record { said = e; lists = rw f; held = rw f }

  -- the lists have not the places
  pub open_unfit : fits l ≡ false → (k : ℕ) → k ≡ refusal_or8 (checked_of (parse sheet)) → OpenedIn sheet l b k l b
  unfolding open_fault_in
  open_unfit e k h =
      let g : k ≡ open_fault_in sheet l b = h ∙ refused_or_8 sheet b ∙ rw e in
      open_refusing k g (λ z. then_8 (opened sheet b).answer.refused (sym (refused_or_8 sheet b) ∙ sym h ∙ z))
    where
      then_8 : (j : ℕ) → (j then 8) ≡ 0 → ⊥
      then_8 zero z = omega (arith, z)
      then_8 (suc j) z = omega (arith, z)

  module _ (e : fits l ≡ true) {a : Answer} {b' : Buffers} (o : Opens sheet b a b') where
    told_open : a.refused ≡ open_fault_in sheet l b
    unfolding open_fault_in
    told_open = ap (λ (x : Answer). x.refused) o.answer ∙ rw e (then_zero (opened sheet b).answer.refused)
      where
        then_zero : (j : ℕ) → j ≡ (j then 0)
        then_zero zero = refl
        then_zero (suc j) = refl

    -- the sheet or the space is refused
    pub open_refused : (a.refused ≡ 0 → ⊥) → OpenedIn sheet l b a.refused l b'
    open_refused n =
        let unchanged : b' ≡ b = ((replayed-refused sheet [] [] b a b' o n).refuses (λ z. n (ap (λ (x : Answer). x.refused) o.answer ∙ z))).2 in
        rw unchanged (open_refusing a.refused told_open n)

    -- the run is open, and its record's numbers are put
    pub open_made : a.refused ≡ 0 → (l' : Listed) → l' ≡ run_put a.run l → OpenedIn sheet l b 0 l' b'
    open_made z l' p =
        let g : open_fault_in sheet l b ≡ 0 = sym told_open ∙ z in
        record {
          said = sym g;
          lists = rw g (p ∙ ap (λ (x : Answer). run_put x.run l) o.answer);
          held = rw g o.held;
        }

-- ---- the length

module _ (l : Listed) (b : Buffers) (out : List Float) where
  -- the record is refused
  pub length-held : (k : ℕ) → k ≡ held_fault_in l b → (k ≡ 0 → ⊥) → Measured l b out k out
  unfolding length_fault_in
  length-held k e n =
      let g : k ≡ length_fault_in l b out = e ∙ sym (then_first _ _ (λ z. n (e ∙ z))) in
      let f : eqb (length_fault_in l b out) 0 ≡ false = ne_eqb (length_fault_in l b out) 0 (λ z. n (g ∙ z)) in
      record { said = g; left = rw f }

  module _ {k : ℕ} (e : k ≡ held_fault_in l b) (z : k ≡ 0) where
    late : length_fault_in l b out ≡ pick (leb 1 (length out)) 0 8
    unfolding length_fault_in
    late = then_second _ _ (sym e ∙ z)

    -- there is no place for it
    pub length-short : leb 1 (length out) ≡ false → Measured l b out 8 out
    length-short f =
        let g : length_fault_in l b out ≡ 8 = late ∙ rw f in
        record { said = sym g; left = rw g }

    pub length_made : 1 ≤ length out → (x : Float) → x ≡ length_of (points_of (run_from l) b.path) → Measured l b out 0 (set out 0 x)
    length_made f x h =
        let g : length_fault_in l b out ≡ 0 = late ∙ rw (le-leb 1 (length out) f) in
        record { said = sym g; left = rw (g, h) }

-- ---- the space rule

-- counts and settings that a sheet may have, and places for the answer
pub record Asked (n t limit room places : ℕ) : Type 0 where
  pub vertices : n ≤ max_vertices
  pub triangles : t ≤ max_triangles
  pub passes : limit ≤ max_limit
  pub points : room ≤ max_room
  pub long : 3 ≤ places

pub asked : {n t limit room places : ℕ} → 0 ≡ needed_by n t limit room places → Asked n t limit room places
unfolding needed_by
asked {n} {t} {limit} {room} {places} h =
    let first = then_none (pick (leb n max_vertices && leb t max_triangles) 0 2) ((whole_fault 0 max_limit limit then whole_fault 1 max_room room) then pick (leb 3 places) 0 8) (sym h) in
    let second = then_none (whole_fault 0 max_limit limit then whole_fault 1 max_room room) (pick (leb 3 places) 0 8) first.1 in
    let settings = then_none (whole_fault 0 max_limit limit) (whole_fault 1 max_room room) second.0 in
    let counts = both (leb n max_vertices) (leb t max_triangles) (nothing _ 1 first.0) in
    let passes = both (leb 0 limit) (leb limit max_limit) (nothing _ 6 settings.0) in
    let points = both (leb 1 room) (leb room max_room) (nothing _ 6 settings.1) in
    record {
      vertices = leb-true _ _ counts.0;
      triangles = leb-true _ _ counts.1;
      passes = leb-true _ _ passes.1;
      points = leb-true _ _ points.1;
      long = leb-true _ _ (nothing _ 7 second.1);
    }
  where
    nothing : (t : Bool) (k : ℕ) → pick t 0 (suc k) ≡ 0 → t ≡ true
    nothing true k e = refl
    nothing false k e = absurd (omega (arith, e))

module _ (n t limit room : ℕ) (out : List ℕ) where
  pub needed_refused : (k : ℕ) → k ≡ needed_fault n t limit room out → (k ≡ 0 → ⊥) → Needed n t limit room out k out
  needed_refused k e z =
      let f : eqb (needed_fault n t limit room out) 0 ≡ false = ne_eqb (needed_fault n t limit room out) 0 (λ y. z (e ∙ y)) in
      record { said = e; left = rw f }

  pub needed_made : {k : ℕ} → k ≡ needed_fault n t limit room out → k ≡ 0 → Needed n t limit room out 0 (set (set (set out 0 (float_space n t limit)) 1 (word_space n t)) 2 (path_space room))
  needed_made e z =
      let f : needed_fault n t limit room out ≡ 0 = sym e ∙ z in
      record { said = sym f; left = rw f }
