-- Demand 3 (document 01, Counter machine), with nothing left to assume: what every list of calls leaves, said of a task, of a sheet, and of `replay`. Assumes nothing.
use Rattle.std.specs.Prelude.{ℕ, ◌+◌, ◌*◌, ◌≤◌, ◌≡◌, List, length, Float}
use Rattle.std.proofs.Common.{◌∙◌, arith, le-leb}
use Rattle.stretch.specs.Stretch.{part}
use Rattle.pde.specs.Path.{point_floats, coordinates_of}
use Rattle.format.specs.Bytes.{Bytes}
use Rattle.format.specs.Content.{Content, max_vertices, max_triangles}
use Rattle.format.specs.Sheet.{accepted, parse}
use Rattle.format.specs.Theorems.{parse_sound}
use Rattle.model.specs.Task.{Task, vertex_count, triangle_count, task}
use Rattle.model.specs.Sized.{Sized}
use Rattle.model.proofs.SizeLaws.{sized}
use Rattle.model.specs.Run.{State, at, last_place}
use Rattle.model.specs.Machine.{Space, Counter, fresh, needs, short, Lent}
use Rattle.work.specs.declared.Run.{Run}
use Rattle.work.specs.Layout.{at_x, at_gradients, at_norms}
use Rattle.image.specs.Answer.{Answer}
use Rattle.image.specs.Calls.{Buffers, answered}
use Rattle.image.specs.Image.{plan_of, run_of, Rest, image, floats_used, rest_of}
use Rattle.image.proofs.Instance.{facts, parts}
use Rattle.image.specs.Lists.{Held, front, performs, begun}
use Rattle.image.proofs.ListTheorem.{Within, lent_rest, front-image, list_theorem, machine-within}
use Rattle.image.specs.Parts.{within, counted, field_of, norms_of, gradients_of}
use Rattle.image.specs.Points.{points_of}
use Rattle.image.specs.Replay.{opened, Opens, Performs, Replayed}
use Rattle.image.proofs.ReplayTheorem as Replays
use Rattle.image.proofs.ReplayTheorem.{not_short, as_long, opened_run, open_space}
use Rattle.image.specs.Shown.{lengths_of, machine, state_at, Shown, ListShown, HandedOut}
use Rattle.image.proofs.ShownTheorem.{image-shown, list_shown}

-- ---- of a task in range, and buffers that suffice to open it

module _ (c : Task) (good : Sized c) (b : Buffers) (space : short (needs c) (lengths_of b) ≡ 0) (ls : List Lent) where
  -- record, buffers and refusals are the machine's and the uninterrupted run's, to every lent place
  pub lists_of_calls_image : performs ls (begun (run_of c fresh) (image c fresh (rest_of c b)))
      ≡ record {
        run = run_of c (machine c (lengths_of b) ls).counter;
        all = image c (machine c (lengths_of b) ls).counter (rest_of c b);
        said = (machine c (lengths_of b) ls).said;
      }
  lists_of_calls_image = rw (← as_long c good (facts c good) b space) (list_theorem c good (facts c good) (rest_of c b) ls)

  -- what document 01 compares
  pub lists_of_calls : ListShown c (machine c (lengths_of b) ls) (performs ls (begun (run_of c fresh) (image c fresh (rest_of c b))))
  lists_of_calls = rw (← as_long c good (facts c good) b space) (list_shown c good (facts c good) (parts c good) (rest_of c b) ls)

-- ---- what `field`, `norms`, `gradients` and `points` hand out

-- a part within the floats, of a run whose counts a sheet may have
counted-within : (c : Task) → Sized c → (floats : List Float) (at count : ℕ) → at + count ≤ length floats → counted (plan_of c) (within floats at count) ≡ part floats at count
unfolding within
counted-within c good floats at count h =
    rw (le-leb (vertex_count c) max_vertices good.vertices_most, le-leb (triangle_count c) max_triangles good.triangles_most, le-leb (at + count) (length floats) h)

-- of an image
image_handed : (c : Task) → Sized c → (s : Counter) (rest : Rest) → Within (last_place c) s → HandedOut c s (run_of c s) (image c s rest)
unfolding field_of norms_of gradients_of points_of part run_of image
image_handed c good s rest w =
    let shows : Shown c s (run_of c s) (image c s rest) = image-shown c good (facts c good) (parts c good) s rest w in
    let f : length (image c s rest).floats ≡ floats_used c + length rest.floats = (facts c good).floats_long s.place s.mark rest.floats w.place_in w.mark_in in
    let l : length (image c s rest).path ≡ point_floats * c.room + length rest.path = (facts c good).path_long s.place rest.path w.place_in in
    let m : length (at c s.place).field.norms ≤ c.limit + 1 = (parts c good).norms_long s.place w.place_in in
    let n : (at c s.place).trail.walk.points ≤ c.room = (parts c good).points_in_lem s.place w.place_in in
    record {
      field = counted-within c good (image c s rest).floats (at_x (vertex_count c) (triangle_count c)) (vertex_count c) (omega arith) ∙ shows.field;
      norms = counted-within c good (image c s rest).floats (at_norms (vertex_count c) (triangle_count c)) (length (at c s.place).field.norms) (omega arith) ∙ shows.norms;
      gradients = counted-within c good (image c s rest).floats (at_gradients (vertex_count c) (triangle_count c)) (2 * triangle_count c) (omega arith) ∙ shows.gradients;
      points = rw (le-leb (point_floats * (at c s.place).trail.walk.points) (length (image c s rest).path) (omega arith)) shows.points;
    }

module _ (c : Task) (good : Sized c) (b : Buffers) (space : short (needs c) (lengths_of b) ≡ 0) (ls : List Lent) where
  -- the record and the buffers after the calls, and the run where the machine stands
  abbrev held : Held
  held = performs ls (begun (run_of c fresh) (image c fresh (rest_of c b)))

  abbrev reached : State
  reached = state_at c (machine c (lengths_of b) ls).counter

  pub handed_of_calls : HandedOut c (machine c (lengths_of b) ls).counter held.run held.all
  handed_of_calls =
      rw (lists_of_calls_image c good b space ls) (image_handed c good (machine c (lengths_of b) ls).counter (rest_of c b) (machine-within c good (facts c good) (lengths_of b) ls))

  -- and of every front of the buffers that suffices
  pub handed_of_front : (lent : Space) → short (needs c) lent ≡ 0 → HandedOut c (machine c (lengths_of b) ls).counter held.run (front lent held.all)
  handed_of_front lent e =
      let s = (machine c (lengths_of b) ls).counter in
      let w : Within (last_place c) s = machine-within c good (facts c good) (lengths_of b) ls in
      rw (lists_of_calls_image c good b space ls, front-image c (facts c good) s (rest_of c b) lent w (not_short (needs c) lent e)) (image_handed c good s (lent_rest c lent (rest_of c b)) w)

  pub field_of_calls : field_of held.run held.all.floats ≡ reached.field.solve.x
  field_of_calls = handed_of_calls.field

  pub norms_of_calls : norms_of held.run held.all.floats ≡ reached.field.norms
  norms_of_calls = handed_of_calls.norms

  pub gradients_of_calls : gradients_of held.run held.all.floats ≡ reached.trail.gradients
  gradients_of_calls = handed_of_calls.gradients

  pub points_of_calls : points_of held.run held.all.path ≡ coordinates_of reached.trail.path
  points_of_calls = handed_of_calls.points

-- ---- of a sheet, and the record and the buffers as opening left them

module _ (sheet : List ℕ) (h : Bytes sheet) (b : Buffers) (c : Content) (e : parse sheet ≡ accepted c) (o : (opened sheet b).answer.refused ≡ 0) (ls : List Lent) where
  -- the record and the buffers after the calls
  abbrev after : Held
  after = performs ls (begun (opened sheet b).answer.run (opened sheet b).all)

  -- what opening left is the image at place 0
  pub as_opened_lem : begun (opened sheet b).answer.run (opened sheet b).all ≡ begun (run_of (task c) fresh) (image (task c) fresh (rest_of (task c) b))
  as_opened_lem = rw (opened_run sheet b c e (open_space sheet b c e o))

  pub lists_from_sheet : ListShown (task c) (machine (task c) (lengths_of b) ls) after
  lists_from_sheet = rw as_opened_lem (lists_of_calls (task c) (sized c (parse_sound sheet c h e)) b (open_space sheet b c e o) ls)

  pub handed_from_sheet : HandedOut (task c) (machine (task c) (lengths_of b) ls).counter after.run after.all
  handed_from_sheet = rw as_opened_lem (handed_of_calls (task c) (sized c (parse_sound sheet c h e)) b (open_space sheet b c e o) ls)

  pub handed_front-from_sheet : (lent : Space) → short (needs (task c)) lent ≡ 0 → HandedOut (task c) (machine (task c) (lengths_of b) ls).counter after.run (front lent after.all)
  handed_front-from_sheet lent k = rw as_opened_lem (handed_of_front (task c) (sized c (parse_sound sheet c h e)) b (open_space sheet b c e o) ls lent k)

-- ---- of `replay`, from what its two halves ensure

pub replay_open : (sheet calls said : List ℕ) (b : Buffers) → Bytes sheet → (a : Answer) (b₁ : Buffers) (run' : Run) (said' : List ℕ) (b' : Buffers)
    → Opens sheet b a b₁ → a.refused ≡ 0 → Performs calls a.run said b₁ run' said' b' → Replayed sheet calls said b (answered 0 run') said' b'
replay_open sheet calls said b h = Replays.replayed_open sheet calls said b facts parts (λ (c : Content) (e : parse sheet ≡ accepted c). sized c (parse_sound sheet c h e))
