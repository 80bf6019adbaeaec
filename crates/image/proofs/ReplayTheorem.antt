-- The theorem of a replay: a sheet is opened and any list of calls made, each lent a front of each buffer; the record, the refusals and every lent place are the counter machine's and the uninterrupted run's.
-- It takes of the image what `Facts` and `Parts` state, and that an accepted sheet's task is in range. Assumes nothing.
use Rattle.std.specs.Prelude.{ℕ, ◌+◌, ◌*◌, ◌≡◌, Bool, true, false, List, ◌++◌, eqb, length, drop}
use Rattle.std.proofs.Math.Path.{refl}
use Rattle.std.proofs.Common.{sym, ap, ◌∙◌, arith, length-drop, eqb-true}
use Rattle.binary64.specs.Number.{pick}
use Rattle.pde.specs.Path.{point_floats}
use Rattle.format.specs.Content.{Content}
use Rattle.format.specs.Sheet.{Parsed, accepted, refused, parse}
use Rattle.format.specs.SheetLaws.{refuses}
use Rattle.model.specs.Task.{Task, task}
use Rattle.model.specs.Run.{last_place}
use Rattle.model.specs.Sized.{Sized}
use Rattle.model.specs.Machine.{Space, fresh, needs, short}
use Rattle.work.specs.declared.Run.{Run}
use Rattle.image.proofs.AcceptedLaws.{pick_eight}
use Rattle.work.specs.Record.{no_run}
use Rattle.image.specs.Answer.{Answer}
use Rattle.image.specs.Calls.{Buffers, answered}
use Rattle.image.specs.CallLaws.{Enough, lacking, lacking_none}
use Rattle.image.specs.Image.{run_of, image, floats_used, words_used, rest_of}
use Rattle.image.proofs.ImageFacts.{Facts, Parts}
use Rattle.image.specs.Lists.{Held}
use Rattle.image.proofs.ListTheorem.{sizes, fresh-within, lengths_image, list_theorem, machine-within}
use Rattle.image.specs.Replay.{Opening, opening, opened_by, opened, Opens, decoded, call_count, replayed, Performs, machine_of, Ran, Replayed}
use Rattle.image.specs.Shown.{lengths_of, machine}
use Rattle.image.proofs.ShownTheorem.{image-shown}

-- ---- the buffers as opening leaves them are as long as they were

pub not_short : (need lent : Space) → short need lent ≡ 0 → Enough need lent
not_short need lent e = lacking_none need lent (pick_eight (lacking need lent) e)

sizes_rest : (c : Task) (b : Buffers) → Enough (needs c) (lengths_of b) → sizes c (rest_of c b) ≡ lengths_of b
unfolding needs
sizes_rest c b h =
    let f : _ = h.floats in
    let w : _ = h.words in
    let p : _ = h.path in
    let x : floats_used c + length (drop (floats_used c) b.floats) ≡ length b.floats = rw length-drop (omega arith) in
    let y : words_used c + length (drop (words_used c) b.words) ≡ length b.words = rw length-drop (omega arith) in
    let z : point_floats * c.room + length (drop (point_floats * c.room) b.path) ≡ length b.path = rw length-drop (omega arith) in
    rw (x, y, z)

module _ (c : Task) (good : Sized c) (facts : Facts c) (b : Buffers) (space : short (needs c) (lengths_of b) ≡ 0) where
  pub as_long : lengths_of (image c fresh (rest_of c b)) ≡ lengths_of b
  as_long = lengths_image c facts fresh (rest_of c b) (fresh-within (last_place c)) ∙ sizes_rest c b (not_short (needs c) (lengths_of b) space)

  -- the calls from there
  pub replay_theorem : (calls : List ℕ) (i : ℕ)
      → replayed calls i (run_of c fresh) (image c fresh (rest_of c b))
      ≡ record {
        run = run_of c (machine c (lengths_of b) (decoded calls i)).counter;
        all = image c (machine c (lengths_of b) (decoded calls i)).counter (rest_of c b);
        said = (machine c (lengths_of b) (decoded calls i)).said;
      }
  unfolding replayed
  replay_theorem calls i = rw (← as_long) (list_theorem c good facts (rest_of c b) (decoded calls i))

-- ---- what opening answers

refused_all : (b : Buffers) (p : Parsed) → ((opened_by p b).answer.refused ≡ 0 → ⊥) → (opened_by p b).all ≡ b
refused_all b (refused j) n = refl
refused_all b (accepted c) n = go (eqb (short (needs (task c)) (lengths_of b)) 0) n
  where
    go : (t : Bool) → ((pick t (opening 0 (run_of (task c) fresh) (image (task c) fresh (rest_of (task c) b))) (opening (short (needs (task c)) (lengths_of b)) no_run b)).answer.refused ≡ 0 → ⊥)
        → (pick t (opening 0 (run_of (task c) fresh) (image (task c) fresh (rest_of (task c) b))) (opening (short (needs (task c)) (lengths_of b)) no_run b)).all ≡ b
    go true f = absurd (f refl)
    go false f = refl

pub opened_run : (sheet : List ℕ) (b : Buffers) (c : Content) → parse sheet ≡ accepted c → short (needs (task c)) (lengths_of b) ≡ 0
    → opened sheet b ≡ opening 0 (run_of (task c) fresh) (image (task c) fresh (rest_of (task c) b))
unfolding opened
opened_run sheet b c e z = rw (e, z)

-- no sheet that is refused is opened
pub refused_unopened : (sheet : List ℕ) (b : Buffers) (k : ℕ) → parse sheet ≡ refused k → (opened sheet b).answer.refused ≡ 0 → ⊥
unfolding opened
refused_unopened sheet b k e z = refuses sheet k e (sym (ap (λ (p : Parsed). (opened_by p b).answer.refused) e) ∙ z)

-- the space suffices where an accepted sheet is opened
pub open_space : (sheet : List ℕ) (b : Buffers) (c : Content) → parse sheet ≡ accepted c → (opened sheet b).answer.refused ≡ 0 → short (needs (task c)) (lengths_of b) ≡ 0
unfolding opened
open_space sheet b c e o = go (eqb (short (needs (task c)) (lengths_of b)) 0) refl (rw e at o)
  where
    go : (t : Bool) → eqb (short (needs (task c)) (lengths_of b)) 0 ≡ t
        → (pick t (opening 0 (run_of (task c) fresh) (image (task c) fresh (rest_of (task c) b))) (opening (short (needs (task c)) (lengths_of b)) no_run b)).answer.refused ≡ 0
        → short (needs (task c)) (lengths_of b) ≡ 0
    go true t f = eqb-true (short (needs (task c)) (lengths_of b)) 0 t
    go false t f = f

-- ---- the contract of `replay`, from what its two halves ensure

module _ (sheet calls said : List ℕ) (b : Buffers) where
  -- the sheet or the space refuses
  pub replayed-refused : (a : Answer) (b' : Buffers) → Opens sheet b a b' → (a.refused ≡ 0 → ⊥) → Replayed sheet calls said b a said b'
  unfolding opened
  replayed-refused a b' o n =
      let f : (opened sheet b).answer.refused ≡ 0 → ⊥ = λ z. n (ap (λ (x : Answer). x.refused) o.answer ∙ z) in
      record {
        refuses = λ g. (o.answer, refl, o.held ∙ refused_all b (parse sheet) f);
        runs = λ c g z. absurd (f (ap (λ (x : Opening). x.answer.refused) (opened_run sheet b c g z)));
      }

  -- the run is open, and the calls are made
  module _ (facts : (c : Task) → Sized c → Facts c) (parts : (c : Task) → Sized c → Parts c) (sound : (c : Content) → parse sheet ≡ accepted c → Sized (task c)) where
    ran : (c : Task) → Sized c → (run run' : Run) (said' : List ℕ) (b₁ b' : Buffers) → short (needs c) (lengths_of b) ≡ 0 → run ≡ run_of c fresh → b₁ ≡ image c fresh (rest_of c b)
        → Performs calls run said b₁ run' said' b' → Ran c calls said b (answered 0 run') said' b'
    ran c good run run' said' b₁ b' z r h p =
        let n = call_count calls said in
        let s = (machine_of c calls said b).counter in
        let q : replayed calls n run b₁ ≡ record { run = run_of c s; all = image c s (rest_of c b); said = (machine_of c calls said b).said } =
        ap (λ (x : Run). replayed calls n x b₁) r ∙ ap (replayed calls n (run_of c fresh)) h ∙ replay_theorem c good (facts c good) b z calls n in
        let held : b' ≡ image c s (rest_of c b) = p.held ∙ ap (λ (x : Held). x.all) q in
        record {
          answer = ap (answered 0) (p.left ∙ ap (λ (x : Held). x.run) q);
          told = p.told ∙ ap (λ (x : Held). x.said ++ drop n said) q;
          held = held;
          shown = rw held (image-shown c good (facts c good) (parts c good) s (rest_of c b) (machine-within c good (facts c good) (lengths_of b) (decoded calls n)));
        }

    pub replayed_open : (a : Answer) (b₁ : Buffers) (run' : Run) (said' : List ℕ) (b' : Buffers) → Opens sheet b a b₁ → a.refused ≡ 0 → Performs calls a.run said b₁ run' said' b'
        → Replayed sheet calls said b (answered 0 run') said' b'
    replayed_open a b₁ run' said' b' o e p =
        record {
          refuses = λ n. absurd (n (sym (ap (λ (x : Answer). x.refused) o.answer) ∙ e));
          runs = λ c g z.
              let i : opened sheet b ≡ opening 0 (run_of (task c) fresh) (image (task c) fresh (rest_of (task c) b)) = opened_run sheet b c g z in
              ran (task c) (sound c g) a.run run' said' b₁ b' z (ap (λ (x : Answer). x.run) o.answer ∙ ap (λ (x : Opening). x.answer.run) i) (o.held ∙ ap (λ (x : Opening). x.all) i) p;
        }
