-- The theorem over lists of calls (document 01, Counter machine; demand 3): after every list of calls, each lent the front of each buffer, record, buffers and refusals are those of the uninterrupted run
-- where the counter machine stands. It takes of the image what `Facts` states. Assumes nothing.
use Rattle.std.specs.Prelude.{ℕ, ◌+◌, ◌-◌, ◌*◌, ◌≤◌, min, ◌≡◌, Bool, length, take, drop, ltb, eqb, Float, Option, Some, None}
use Rattle.std.proofs.Math.Path.{refl, ap}
use Rattle.std.proofs.Common.{sym, ◌∙◌, arith, length-take, take-append-drop}
use Rattle.std.proofs.Math.Bool.{true, false}
use mathlib.Core.List.{List, [], ◌∷◌, ◌++◌, append_assoc, append-nil}
use Rattle.std.proofs.Math.Seq.{take-append-add, drop-append-add}
use Rattle.binary64.specs.Number.{pick}
use Rattle.stretch.specs.Stretch.{flat}
use Rattle.pde.specs.Path.{point_floats}
use Rattle.model.specs.Task.{Task, triangle_count}
use Rattle.model.specs.Space.{farthest}
use Rattle.model.specs.Sized.{Sized}
use Rattle.model.specs.Run.{State, at, last_place}
use Rattle.model.specs.Machine.{Call, advance, back, mark, return, Space, Counter, fresh, most, needs, no_mark, late, refused, mark_or, moved, tick, Lent, within, ticks}
use Rattle.work.specs.declared.Run.{Run}
use Rattle.work.specs.Memory.{Work, work}
use Rattle.image.specs.Calls.{Buffers, buffers, held_fault, gone, sought_at, mark_place, late_fault, fault, next_run, run_after, buffers_after}
use Rattle.image.specs.CallLaws.{Counted, Enough, lacking, lacking_none, held-short, held_fine, refused_unchanged}
use Rattle.image.specs.Image.{plan_of, stand_of, mark_of, run_of, floats_of, words_of, path_of, Rest, image, floats_used, words_used}
use Rattle.image.proofs.ImageFacts.{MarkIn, work_at, Facts}
use Rattle.image.specs.Lists.{Held, front, behind, performed, performs}
use Rattle.image.specs.Shown.{lengths_of, machine}

-- ---- the front of a buffer whose first places are used

-- f puts a rest behind u places
record Leads {A : Type 0} (f : List A → List A) (u : ℕ) : Type 0 where
  head : List A
  split : (rest : List A) → f rest ≡ head ++ rest
  long : length head ≡ u

module _ {A : Type 0} (f : List A → List A) (u : ℕ) (h : Leads f u) where
  take-front : (rest : List A) (k : ℕ) → u ≤ k → take k (f rest) ≡ f (take (k - u) rest)
  take-front rest k e =
      let l : length h.head ≡ u = h.long in
      let q : k ≡ length h.head + (k - u) = omega arith in
      ap (λ (j : ℕ). take j (f rest)) q ∙ ap (take (length h.head + (k - u))) (h.split rest) ∙ take-append-add h.head rest (k - u) ∙ sym (h.split (take (k - u) rest))

  drop-front : (rest : List A) (k : ℕ) → u ≤ k → drop k (f rest) ≡ drop (k - u) rest
  drop-front rest k e =
      let l : length h.head ≡ u = h.long in
      let q : k ≡ length h.head + (k - u) = omega arith in
      ap (λ (j : ℕ). drop j (f rest)) q ∙ ap (drop (length h.head + (k - u))) (h.split rest) ∙ drop-append-add h.head rest (k - u)

  joined : (r₁ r₂ : List A) → f r₁ ++ r₂ ≡ f (r₁ ++ r₂)
  joined r₁ r₂ = rw (h.split r₁, h.split (r₁ ++ r₂)) (append_assoc h.head r₁ r₂)

-- what was lent, put behind a buffer of the same shape
rejoined : {A : Type 0} (f g : List A → List A) (u : ℕ) → Leads f u → Leads g u → (rest : List A) (k : ℕ) → u ≤ k → g (take (k - u) rest) ++ drop k (f rest) ≡ g rest
rejoined {A} f g u h h' rest k e =
    ap (λ (l : List A). g (take (k - u) rest) ++ l) (drop-front f u h rest k e) ∙ joined g u h' (take (k - u) rest) (drop (k - u) rest) ∙ ap g (take-append-drop (k - u) rest)

-- the machine stands within the run
pub record Within (last : ℕ) (s : Counter) : Type 0 where
  pub place_in : s.place ≤ last
  pub mark_in : MarkIn s.mark last

pub fresh-within : (last : ℕ) → Within last fresh
fresh-within last = record { place_in = omega arith; mark_in = tt }

-- a task's counts are in range
pub counted : (c : Task) → Sized c → Counted (plan_of c)
counted c good = record { vertices = good.vertices_most; triangles = good.triangles_most; limit = good.limit-most; least = good.room; room = good.room_most }

-- ---- the buffers of an image

-- how many places they have
abbrev pub sizes : Task → Rest → Space
sizes c rest = record { floats = floats_used c + length rest.floats; words = words_used c + length rest.words; path = point_floats * c.room + length rest.path }

-- the rest of a front that is lent
abbrev pub lent_rest : Task → Space → Rest → Rest
lent_rest c lent rest = record { floats = take (lent.floats - floats_used c) rest.floats; words = take (lent.words - words_used c) rest.words; path = take (lent.path - point_floats * c.room) rest.path }

floats_split : (c : Task) (s : State) (m : Option ℕ) (rest : List Float) → floats_of c s m rest ≡ floats_of c s m [] ++ rest
unfolding floats_of flat
floats_split c s m rest = simp (append_assoc, append-nil)

words_split : (c : Task) (rest : List ℕ) → words_of c rest ≡ words_of c [] ++ rest
unfolding words_of flat
words_split c rest = simp (append_assoc, append-nil)

path_split : (c : Task) (s : State) (rest : List Float) → path_of c s rest ≡ path_of c s [] ++ rest
unfolding path_of
path_split c s rest = rw append-nil

pub lengths_front : (lent : Space) (b : Buffers) → lengths_of (front lent b) ≡ within (lengths_of b) lent
lengths_front lent b = rw (length-take lent.floats b.floats, length-take lent.words b.words, length-take lent.path b.path)

-- floats, path and stand of an image
abbrev work_on : Task → Counter → Rest → Work
work_on c s rest = work_at c s.place s.mark rest.floats rest.path

module _ (c : Task) (facts : Facts c) where
  floats_lead : (s : Counter) → Within (last_place c) s → Leads (λ r. floats_of c (at c s.place) s.mark r) (floats_used c)
  floats_lead s w = record {
    head = floats_of c (at c s.place) s.mark [];
    split = λ r. floats_split c (at c s.place) s.mark r;
    long = facts.floats_long s.place s.mark [] w.place_in w.mark_in ∙ omega arith;
  }

  words_lead : Leads (λ r. words_of c r) (words_used c)
  words_lead = record { head = words_of c []; split = λ r. words_split c r; long = facts.words_long [] ∙ omega arith }

  path_lead : (s : Counter) → Within (last_place c) s → Leads (λ r. path_of c (at c s.place) r) (point_floats * c.room)
  path_lead s w = record { head = path_of c (at c s.place) []; split = λ r. path_split c (at c s.place) r; long = facts.path_long s.place [] w.place_in ∙ omega arith }

  pub lengths_image : (s : Counter) (rest : Rest) → Within (last_place c) s → lengths_of (image c s rest) ≡ sizes c rest
  unfolding image
  lengths_image s rest w =
      rw (facts.floats_long s.place s.mark rest.floats w.place_in w.mark_in, facts.words_long rest.words, facts.path_long s.place rest.path w.place_in)

  -- a front that is long enough is an image too
  pub front-image : (s : Counter) (rest : Rest) (lent : Space) → Within (last_place c) s → Enough (needs c) lent → front lent (image c s rest) ≡ image c s (lent_rest c lent rest)
  unfolding image needs
  front-image s rest lent w h =
      let f : _ = h.floats in
      let g : _ = h.words in
      let k : _ = h.path in
      rw (take-front _ (floats_used c) (floats_lead s w) rest.floats lent.floats (omega arith), take-front _ (words_used c) words_lead rest.words lent.words (omega arith), take-front _ (point_floats * c.room) (path_lead s w) rest.path lent.path (omega arith))

  -- and one image in place of another's front is that image whole
  behind-image : (s s' : Counter) (rest : Rest) (lent : Space) → Within (last_place c) s → Within (last_place c) s' → Enough (needs c) lent
      → behind lent (image c s rest) (image c s' (lent_rest c lent rest)) ≡ image c s' rest
  unfolding image needs
  behind-image s s' rest lent w w' h =
      let f : _ = h.floats in
      let g : _ = h.words in
      let k : _ = h.path in
      rw (rejoined _ _ (floats_used c) (floats_lead s w) (floats_lead s' w') rest.floats lent.floats (omega arith), rejoined _ _ (words_used c) words_lead words_lead rest.words lent.words (omega arith), rejoined _ _ (point_floats * c.room) (path_lead s w) (path_lead s' w') rest.path lent.path (omega arith))

  -- ---- where a call leads from an image

  mark_place_lem : (m : Option ℕ) (p : ℕ) → p ≤ last_place c → MarkIn m (last_place c) → mark_or m p ≤ last_place c
  mark_place_lem None p h g = h
  mark_place_lem (Some q) p h g = g

  -- the record's mark and the machine's
  same_mark : (m : Option ℕ) (p : ℕ) → mark_place (mark_of c m) p ≡ mark_or m p
  same_mark None p = refl
  same_mark (Some q) p = refl

  sought : (s : Counter) (rest : Rest) (target q : ℕ) → Within (last_place c) s → min target (last_place c) ≡ q
      → sought_at (run_of c s) (image c s rest) target ≡ work_at c q s.mark rest.floats rest.path
  unfolding run_of image
  sought s rest target q w e =
      facts.seek-image s.place target s.mark rest.floats rest.words rest.path w.place_in w.mark_in
      ∙ ap (λ (j : ℕ). work_at c j s.mark rest.floats rest.path) e

  gone_at : (call : Call) (s : Counter) (rest : Rest) → Within (last_place c) s → gone call (run_of c s) (image c s rest) ≡ work_on c (moved (last_place c) call s) rest
  unfolding gone run_of image
  gone_at (advance k) s rest w =
      let l : _ = facts.last_bound in
      sought s rest (min (s.place + k) (farthest (triangle_count c) c.limit)) (min (s.place + k) (last_place c)) w (omega arith)
  gone_at (back k) s rest w = let h : s.place ≤ last_place c = w.place_in in sought s rest (s.place - k) (s.place - k) w (omega arith)
  gone_at mark s rest w = ap (λ (l : List Float). work l (path_of c (at c s.place) rest.path) (stand_of s.place (at c s.place))) (facts.mark_image s.place s.mark rest.floats w.place_in w.mark_in)
  gone_at return s rest w =
      let h : mark_or s.mark s.place ≤ last_place c = mark_place_lem s.mark s.place w.place_in w.mark_in in
      let e : mark_place (mark_of c s.mark) s.place ≡ mark_or s.mark s.place = same_mark s.mark s.place in
      sought s rest (mark_place (mark_of c s.mark) s.place) (mark_or s.mark s.place) w (omega arith)

  -- ---- a call that is lent enough: its refusal, record and buffers are those of the machine

  return_late : (r : Run) (b : Buffers) (m : Option ℕ) → r.mark ≡ mark_of c m → late_fault return r b ≡ no_mark m
  return_late r b None e = rw e
  return_late r b (Some q) e = rw e

  same-late : (call : Call) (s : Counter) (rest : Rest) → Within (last_place c) s → late_fault call (run_of c s) (image c s rest) ≡ late (last_place c) call s
  unfolding run_of
  same-late (advance k) s rest w = ap (λ (g : Work). pick (ltb most (s.passes + (g.stand.place - s.place))) 10 0) (gone_at (advance k) s rest w)
  same-late (back k) s rest w = refl
  same-late mark s rest w = refl
  same-late return s rest w = return_late (run_of c s) (image c s rest) s.mark refl

  same_run : (call : Call) (s : Counter) (rest : Rest) → Within (last_place c) s → next_run call (run_of c s) (image c s rest) ≡ run_of c (moved (last_place c) call s)
  unfolding next_run run_of
  same_run (advance k) s rest w = rw (gone_at (advance k) s rest w)
  same_run (back k) s rest w = rw (gone_at (back k) s rest w)
  same_run mark s rest w = refl
  same_run return s rest w = rw (gone_at return s rest w)

  same-buffers : (call : Call) (s : Counter) (rest : Rest) → Within (last_place c) s
      → buffers (gone call (run_of c s) (image c s rest)).floats (image c s rest).words (gone call (run_of c s) (image c s rest)).path ≡ image c (moved (last_place c) call s) rest
  unfolding image
  same-buffers call s rest w = ap (λ (g : Work). buffers g.floats (words_of c rest.words) g.path) (gone_at call s rest w)

  -- ---- the machine stays within the run

  within-moved : (call : Call) (s : Counter) → Within (last_place c) s → Within (last_place c) (moved (last_place c) call s)
  within-moved (advance k) s w = record { place_in = omega arith; mark_in = w.mark_in }
  within-moved (back k) s w = let h : s.place ≤ last_place c = w.place_in in record { place_in = omega arith; mark_in = w.mark_in }
  within-moved mark s w = record { place_in = w.place_in; mark_in = w.place_in }
  within-moved return s w = record { place_in = mark_place_lem s.mark s.place w.place_in w.mark_in; mark_in = w.mark_in }

  -- where a call is not refused, and where it is
  within-pick : (t : Bool) (call : Call) (s : Counter) → Within (last_place c) s → Within (last_place c) (pick t (moved (last_place c) call s) s)
  within-pick true call s w = within-moved call s w
  within-pick false call s w = w

  pub within-tick : (call : Call) (lent : Space) (s : Counter) → Within (last_place c) s → Within (last_place c) (tick (needs c) (last_place c) call lent s)
  unfolding tick
  within-tick call lent s w = within-pick (eqb (refused (needs c) (last_place c) call lent s) 0) call s w

-- ---- one call

-- A call on an image, lent a front, is refused by k and leaves the image where the machine stands at s'.
record Called (c : Task) (call : Call) (s : Counter) (rest : Rest) (lent : Space) (s' : Counter) (k : ℕ) : Type 0 where
  said : fault call (run_of c s) (front lent (image c s rest)) ≡ k
  left : run_after call (run_of c s) (front lent (image c s rest)) ≡ run_of c s'
  held : behind lent (image c s rest) (buffers_after call (run_of c s) (front lent (image c s rest))) ≡ image c s' rest

whole : (lent : Space) (b : Buffers) → behind lent b (front lent b) ≡ b
whole lent b = rw (take-append-drop lent.floats b.floats, take-append-drop lent.words b.words, take-append-drop lent.path b.path)

-- what is enough of a front is lent
enough_front : (lent : Space) (b : Buffers) {need : Space} → Enough need (lengths_of (front lent b)) → Enough need lent
enough_front lent b {need} h =
    let e : Enough need (within (lengths_of b) lent) = rw (lengths_front lent b) at h in
    let f : _ = e.floats in
    let g : _ = e.words in
    let k : _ = e.path in
    record { floats = omega arith; words = omega arith; path = omega arith }

-- where a call that is lent enough leads
abbrev next : Task → Call → Counter → Counter
next c call s = pick (eqb (late (last_place c) call s) 0) (moved (last_place c) call s) s

abbrev held_of : Task → Counter → Rest → List ℕ → Held
held_of c s rest said = record { run = run_of c s; all = image c s rest; said = said }

module _ (c : Task) (good : Sized c) (facts : Facts c) where
  -- lent too little
  called_short : (call : Call) (s : Counter) (rest : Rest) (lent : Space) → lacking (needs c) (lengths_of (front lent (image c s rest))) ≡ true → Called c call s rest lent s 8
  unfolding fault run_of needs
  called_short call s rest lent e =
      let f : fault call (run_of c s) (front lent (image c s rest)) ≡ 8 = rw (held-short (run_of c s) (front lent (image c s rest)) (counted c good) e) in
      let u : _ = refused_unchanged call (run_of c s) (front lent (image c s rest)) (λ z. omega arith) in
      record { said = f; left = u.0; held = rw u.1 (whole lent (image c s rest)) }

  -- an image refuses nothing by itself
  image_fine : (s : Counter) (rest : Rest) → Within (last_place c) s → lacking (needs c) (lengths_of (image c s rest)) ≡ false → held_fault (run_of c s) (image c s rest) ≡ 0
  unfolding run_of image needs
  image_fine s rest w e =
      held_fine (run_of c s) (image c s rest) (counted c good) e (facts.stand_sound_lem s.place w.place_in) (facts.mark_sound_lem s.mark w.mark_in) (facts.words_sound_lem rest.words)

  image-fault : (call : Call) (s : Counter) (rest : Rest) → Within (last_place c) s → held_fault (run_of c s) (image c s rest) ≡ 0 → fault call (run_of c s) (image c s rest) ≡ late (last_place c) call s
  unfolding fault
  image-fault call s rest w z = rw z (same-late c facts call s rest w)

  image_run : (call : Call) (s : Counter) (rest : Rest) → Within (last_place c) s → fault call (run_of c s) (image c s rest) ≡ late (last_place c) call s
      → run_after call (run_of c s) (image c s rest) ≡ run_of c (next c call s)
  unfolding run_after
  image_run call s rest w e = rw e (go (eqb (late (last_place c) call s) 0))
    where
      go : (t : Bool) → pick t (next_run call (run_of c s) (image c s rest)) (run_of c s) ≡ run_of c (pick t (moved (last_place c) call s) s)
      go true = same_run c facts call s rest w
      go false = refl

  image-buffers : (call : Call) (s : Counter) (rest : Rest) → Within (last_place c) s → fault call (run_of c s) (image c s rest) ≡ late (last_place c) call s
      → buffers_after call (run_of c s) (image c s rest) ≡ image c (next c call s) rest
  unfolding buffers_after
  image-buffers call s rest w e = rw e (go (eqb (late (last_place c) call s) 0))
    where
      go : (t : Bool) → pick t (buffers (gone call (run_of c s) (image c s rest)).floats (image c s rest).words (gone call (run_of c s) (image c s rest)).path) (image c s rest) ≡ image c (pick t (moved (last_place c) call s) s) rest
      go true = same-buffers c facts call s rest w
      go false = refl

  -- lent enough
  called_long : (call : Call) (s : Counter) (rest : Rest) (lent : Space) → Within (last_place c) s → lacking (needs c) (lengths_of (front lent (image c s rest))) ≡ false
      → Called c call s rest lent (next c call s) (late (last_place c) call s)
  called_long call s rest lent w e =
      let n : _ = lacking_none (needs c) (lengths_of (front lent (image c s rest))) e in
      let h : Enough (needs c) lent = enough_front lent (image c s rest) n in
      let i : front lent (image c s rest) ≡ image c s (lent_rest c lent rest) = front-image c facts s rest lent w h in
      let z : held_fault (run_of c s) (image c s (lent_rest c lent rest)) ≡ 0 = image_fine s (lent_rest c lent rest) w (ap (λ (b : Buffers). lacking (needs c) (lengths_of b)) (sym i) ∙ e) in
      let f : _ = image-fault call s (lent_rest c lent rest) w z in
      record {
        said = ap (fault call (run_of c s)) i ∙ f;
        left = ap (run_after call (run_of c s)) i ∙ image_run call s (lent_rest c lent rest) w f;
        held =
            ap (λ (b : Buffers). behind lent (image c s rest) (buffers_after call (run_of c s) b)) i
            ∙ ap (behind lent (image c s rest)) (image-buffers call s (lent_rest c lent rest) w f)
            ∙ behind-image c facts s (next c call s) rest lent w (within-pick c facts (eqb (late (last_place c) call s) 0) call s w) h;
      }

  -- the call is the machine's
  called : (call : Call) (s : Counter) (rest : Rest) (lent l : Space) → Within (last_place c) s → lengths_of (front lent (image c s rest)) ≡ l
      → Called c call s rest lent (tick (needs c) (last_place c) call l s) (refused (needs c) (last_place c) call l s)
  unfolding tick refused
  called call s rest lent l w e = go (lacking (needs c) l) refl
    where
      go : (t : Bool) → lacking (needs c) l ≡ t → Called c call s rest lent (tick (needs c) (last_place c) call l s) (refused (needs c) (last_place c) call l s)
      go true t = rw t (called_short call s rest lent (ap (lacking (needs c)) e ∙ t))
      go false t = rw t (called_long call s rest lent w (ap (lacking (needs c)) e ∙ t))

  -- ---- the list

  one_call : (l : Lent) (s : Counter) (rest : Rest) (said : List ℕ) → Within (last_place c) s
      → performed l (held_of c s rest said)
      ≡ held_of c (tick (needs c) (last_place c) l.call (within (sizes c rest) l.space) s) rest (said ++ (refused (needs c) (last_place c) l.call (within (sizes c rest) l.space) s ∷ []))
  unfolding performed
  one_call l s rest said w =
      let n : lengths_of (front l.space (image c s rest)) ≡ within (sizes c rest) l.space = lengths_front l.space (image c s rest) ∙ ap (λ (k : Space). within k l.space) (lengths_image c facts s rest w) in
      let g : _ = called l.call s rest l.space (within (sizes c rest) l.space) w n in
      rw (g.said, g.left, g.held)

  -- from any place of the machine
  pub list_from : (ls : List Lent) (s : Counter) (rest : Rest) (said : List ℕ) → Within (last_place c) s
      → performs ls (held_of c s rest said)
      ≡ held_of c (ticks (needs c) (sizes c rest) (last_place c) ls (record { counter = s; said = said })).counter rest (ticks (needs c) (sizes c rest) (last_place c) ls (record { counter = s; said = said })).said
  unfolding performs ticks
  list_from [] s rest said w = refl
  list_from (l ∷ ls) s rest said w =
      let lent = within (sizes c rest) l.space in
      ap (performs ls) (one_call l s rest said w)
      ∙ list_from ls (tick (needs c) (last_place c) l.call lent s) rest (said ++ (refused (needs c) (last_place c) l.call lent s ∷ [])) (within-tick c facts l.call lent s w)

  -- The theorem: for every list of calls with arguments and lent fronts, from the record and the buffers as opening left them, however long they are.
  pub list_theorem : (rest : Rest) (ls : List Lent)
      → performs ls (record { run = run_of c fresh; all = image c fresh rest; said = [] })
      ≡ record {
        run = run_of c (machine c (lengths_of (image c fresh rest)) ls).counter;
        all = image c (machine c (lengths_of (image c fresh rest)) ls).counter rest;
        said = (machine c (lengths_of (image c fresh rest)) ls).said;
      }
  list_theorem rest ls = rw (lengths_image c facts fresh rest (fresh-within (last_place c))) (list_from ls fresh rest [] (fresh-within (last_place c)))

  within-ticks : (all : Space) (ls : List Lent) (s : Counter) (said : List ℕ) → Within (last_place c) s
      → Within (last_place c) (ticks (needs c) all (last_place c) ls (record { counter = s; said = said })).counter
  unfolding ticks
  within-ticks all [] s said w = w
  within-ticks all (l ∷ ls) s said w =
      within-ticks all ls (tick (needs c) (last_place c) l.call (within all l.space) s) (said ++ (refused (needs c) (last_place c) l.call (within all l.space) s ∷ [])) (within-tick c facts l.call (within all l.space) s w)

  -- and the machine stays within the run
  pub machine-within : (all : Space) (ls : List Lent) → Within (last_place c) (machine c all ls).counter
  machine-within all ls = within-ticks all ls fresh [] (fresh-within (last_place c))
