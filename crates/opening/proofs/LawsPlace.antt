-- Opening step by step: what each step asks of the buffers follows from an accepted sheet and the space rule, and what the last one leaves is the run's image at place 0.
-- Assumes nothing.
use Prim.Native.Nat.{ℕ, ◌+◌, ◌*◌, ◌≤◌}
use mathlib.Core.Path.{◌≡◌, sym, ap, ◌∙◌}
use mathlib.Core.Bool.{Bool, true, false, ◌||◌}
use mathlib.Core.List.{List, []}
use native.Mathlib.Omega.{arith}
use lib.ListN.{get_or, length, drop, take, set, replicate, length-replicate, length-drop}
use lib.Ieee.{Float}
use Rattle.binary64.specs.Constants.{plus_zero}
use Rattle.binary64.specs.Root.{root}
use Rattle.stretch.specs.Stretch.{splice}
use Rattle.stretch.specs.StretchLaws.{part_zero, part_take, splice-one, splice_is}
use Rattle.mesh.specs.Mesh.{held_value}
use Rattle.mesh.specs.Element.{flat}
use Rattle.laplace.specs.declared.Places.{Places}
use Rattle.laplace.specs.Assembly.{right_side}
use Rattle.laplace.specs.Laid.{LaidFloats, LaidWords}
use Rattle.laplace.specs.Row.{tags_in}
use Rattle.laplace.specs.Whole.{pushes_in, rows_for, Assembled}
use Rattle.conjugate.specs.Placed as Solving
use Rattle.conjugate.specs.Placed.{placed, start_of, VectorsAt}
use Rattle.pde.specs.Path.{point_floats, coordinates_of}
use Rattle.format.specs.Bytes.{Bytes}
use Rattle.format.specs.Content.{default_limit, max_vertices, max_triangles}
use Rattle.format.specs.Sheet.{parse, content_of}
use Rattle.format.specs.Theorems.{parse_sound}
use Rattle.sheet.specs.declared.Header.{Header}
use Rattle.sheet.specs.Answer.{Checked, checked_of}
use Rattle.sheet.specs.ItemLaws.{IsAccepted, is_accepted, is_refused, Within, header_within}
use Rattle.model.specs.Space.{float_space, word_space, path_space}
use Rattle.model.specs.Task.{Task, vertex_count, triangle_count, task_of, task}
use Rattle.model.proofs.TaskLaws.{task-held}
use Rattle.model.specs.Sized.{Sized}
use Rattle.model.specs.Run.{at, place0}
use Rattle.model.proofs.SizeLaws.{sized}
use Rattle.model.specs.Machine.{needs}
use Rattle.work.specs.declared.Plan.{Plan}
use Rattle.work.specs.declared.Run.{Run}
use Rattle.work.specs.Layout.{at_gradients, at_norms, matrix_at, vectors_at, places_at}
use Rattle.work.specs.Memory.{begun_again}
use Rattle.work.specs.Record.{new_run, no_run}
use Rattle.refusal.specs.declared.Refusal.{Refusal}
use Rattle.refusal.specs.Refusal.{number_of}
use Rattle.std.proofs.Common as Std
use Rattle.std.specs.Result.{IsErrAnd}
use Rattle.std.specs.Prelude.{Result, None, ltb}
use Rattle.std.proofs.lemmas.Result.{err_from_is_err_and}
use Rattle.image.proofs.AcceptedLaws.{ready}
use Rattle.image.specs.Calls.{Buffers, buffers, answered, answer_of}
use Rattle.image.specs.CallLaws.{Counted, Enough, lacking, lacking_none}
use Rattle.image.specs.Image.{plan_of, floats_of, words_of, path_of, floats_used, words_used, run_of, image}
use Rattle.image.proofs.ImageLawsLengths.{length_words}
use Rattle.image.proofs.ImageLawsPadded.{padded_nil}
use Rattle.image.proofs.ImageLawsSound.{words_sound_lem}
use Rattle.image.proofs.ListTheorem.{counted}
use Rattle.image.specs.Opening.{plan_by, Read, Fits, Loaded, LaidOut, Begins, none_kept, begun_floats, Begun, lacks, Suffices, Stands}
use Rattle.image.specs.Replay.{Opens}
use Rattle.image.proofs.ReplayLaws.{opens_refused, opens_short, opens_open}
use Rattle.image.specs.Shown.{lengths_of}
use Rattle.opening.proofs.LawsOpened.{lays_floats, lays_words, laid_out, sum-opened, floats_opened}
use Rattle.sparse.specs.Stored.{CsrAt}

-- ---- an accepted sheet

module _ {sheet : List ℕ} {h : Header} (is : IsAccepted sheet h) where
  pub accepted_within : Within sheet h
  accepted_within = rw is.header (header_within sheet (content_of sheet) is.parsed)

  -- its bytes are below 256, so its content is in its ranges
  pub read_of : Bytes sheet → Read sheet h
  read_of bytes = record { is = is; good = parse_sound sheet (content_of sheet) bytes is.parsed }

module _ {sheet : List ℕ} {h : Header} (read : Read sheet h) where
  pub n_is : h.n ≡ vertex_count (task (content_of sheet))
  unfolding task_of
  n_is = ap (λ (x : Header). x.n) read.is.header

  pub t_is : h.t ≡ triangle_count (task (content_of sheet))
  unfolding task_of
  t_is = ap (λ (x : Header). x.t) read.is.header

  pub sized_read : Sized (task (content_of sheet))
  sized_read = sized (content_of sheet) read.good

  pub few_read : (h.n ≤ max_vertices) × (h.t ≤ max_triangles)
  few_read = rw (n_is, t_is) (sized_read.vertices_most, sized_read.triangles_most)

-- the plan of an accepted sheet, in buffers that suffice
pub suffices_by : {sheet : List ℕ} {h : Header} {plan : Plan} {b : Buffers} → Read sheet h → (plan ≡ plan_by h) × Enough (needs (task (content_of sheet))) (lengths_of b) → Suffices sheet h plan b
suffices_by read q = record { read = read; plan_is = q.0; space = q.1 }

-- ---- the assembly of what was loaded

module _ (sheet : List ℕ) (h : Header) (read : Read sheet h) (floats : List Float) (words : List ℕ) (fits : Fits h (length floats) (length words)) (floats₁ : List Float) (words₁ : List ℕ)
    (l : Loaded (task (content_of sheet)) floats words floats₁ words₁) (places : Places) (plan : Plan) (ep : plan ≡ plan_by h) (ea : places ≡ places_at plan.n plan.t) where
  e : places ≡ places_at h.n h.t
  e = rw ep at ea

  abbrev mesh : Task
  mesh = task (content_of sheet)

  floats_fit : 5 * vertex_count mesh + 9 * triangle_count mesh ≤ length floats
  floats_fit = rw (n_is read, t_is read) at fits.floats_fit

  words_fit : words_used mesh ≤ length words
  words_fit = rw (n_is read, t_is read) at fits.words_fit

  pub assembles : LaidFloats floats₁ h.n h.t places × LaidWords words₁ h.n h.t places
  assembles =
      rw (e, n_is read, t_is read, l.floats_are, l.words_are)
      (lays_floats mesh (sized_read read) floats words floats_fit words_fit, lays_words mesh (sized_read read) floats words floats_fit words_fit)

  pub lays_out : (floats' : List Float) (words' : List ℕ) (k : ℕ)
      → Assembled floats₁ words₁ floats' words' h.n h.t places k (rows_for flat floats₁ words₁ h.n h.t places h.n)
      (right_side held_value (tags_in words₁ h.n places) (pushes_in flat floats₁ words₁ h.n h.t places) h.n)
      → LaidOut mesh floats words floats' words'
  lays_out floats' words' k a = laid_out mesh (sized_read read) floats words floats_fit words_fit floats' words' k (rw (e, n_is read, t_is read, l.floats_are, l.words_are, ← (task-held default_limit (content_of sheet))) at a)

-- ---- place 0 of the field

pub begins_is : (plan : Plan) (words : List ℕ) (floats floats₁ floats₂ : List Float) (at norms : ℕ) (m : CsrAt) (v : VectorsAt) (rs norm : Float)
    → at ≡ at_gradients plan.n plan.t → floats₁ ≡ splice floats at (replicate (2 * plan.t + (plan.limit + 1) + 3 * plan.n) plus_zero) → m ≡ matrix_at plan.n plan.t → v ≡ vectors_at plan.n plan.t
    → Solving.Begun floats₁ floats₂ m.rows v (start_of words floats₁ m (2 * plan.n)) rs → norms ≡ at_norms plan.n plan.t → norm ≡ root rs → Begun plan words floats rs (set floats₂ norms norm)
unfolding placed begun_floats
begins_is plan words floats floats₁ floats₂ at norms m v rs norm ek ef em ev g en er =
    let f : floats₁ ≡ none_kept plan floats = ef ∙ ap (λ (k : ℕ). splice floats k (replicate (2 * plan.t + (plan.limit + 1) + 3 * plan.n) plus_zero)) ek in
    let s : rs ≡ (begun_again plan words (none_kept plan floats)).rs = g.said ∙ rw (em, f) in
    record {
      sum = s;
      floats_are = sym (splice-one floats₂ norms norm) ∙ rw (g.left, en, er, s, em, ev, f);
    }

-- ---- an accepted sheet at place 0

module _ (sheet : List ℕ) (h : Header) (plan : Plan) (b : Buffers) (s : Suffices sheet h plan b) where
  abbrev c : Task
  c = task (content_of sheet)

  good : Sized c
  good = sized_read s.read

  plan_of_lem : plan ≡ plan_of c
  unfolding task_of
  plan_of_lem = s.plan_is ∙ ap plan_by s.read.is.header

  abbrev spare : List ℕ
  spare = drop (words_used c) b.words

  floats_long : floats_used c ≤ length b.floats
  unfolding needs
  floats_long = omega (arith, s.space.floats)

  words_long : words_used c ≤ length b.words
  unfolding needs
  words_long = omega (arith, s.space.words)

  path_long : point_floats * c.room ≤ length b.path
  unfolding needs
  path_long = s.space.path

  pub fits_read : Fits h (length b.floats) (length b.words)
  fits_read =
      let n : h.n ≡ vertex_count c = n_is s.read in
      let t : h.t ≡ triangle_count c = t_is s.read in
      let f : floats_used c ≤ length b.floats = floats_long in
      let w : words_used c ≤ length b.words = words_long in
      record { floats_fit = omega arith; words_fit = omega arith }

  pub path_fits : (plan.room ≤ 1000000) × (2 * plan.room ≤ length b.path)
  path_fits = rw plan_of_lem ((counted c good).room, path_long)

  words_whole : length (words_of c spare) ≡ length b.words
  words_whole = length_words c good spare ∙ omega (arith, length-drop (words_used c) b.words, words_long)

  pub begins_read : (floats₁ : List Float) (words₁ : List ℕ) → LaidOut c b.floats b.words floats₁ words₁ → length floats₁ ≡ length b.floats → Begins plan words₁ (length floats₁)
  unfolding needs
  begins_read floats₁ words₁ l e =
      let k : Counted (plan_of c) = counted c good in
      let w : 8 * vertex_count c + 32 * triangle_count c + 32 ≤ length (words_of c spare) = omega (arith, s.space.words, words_whole) in
      rw (plan_of_lem, l.words_are)
      (record {
        n_most = k.vertices;
        t_most = k.triangles;
        limit-most = k.limit;
        floats_fit = omega (arith, floats_long);
        sound = (ready (plan_of c) (words_of c spare) k w (words_sound_lem c good spare)).sound;
      })

  path_opened : splice b.path 0 (replicate (point_floats * c.room) plus_zero) ≡ path_of c (place0 c) (drop (point_floats * c.room) b.path)
  unfolding path_of place0 coordinates_of
  path_opened =
      let e : take 0 b.path ≡ [] = sym (part_take b.path 0) ∙ part_zero b.path 0 in
      let f : 0 + point_floats * c.room ≡ point_floats * c.room = omega arith in
      splice_is b.path (replicate (point_floats * c.room) plus_zero) 0 (point_floats * c.room) (length-replicate (point_floats * c.room) plus_zero) (omega (arith, path_long))
      ∙ rw (e, f, padded_nil)

  pub stands : (floats₁ floats₂ path' : List Float) (words₁ : List ℕ) (rs : Float) (run : Run) → LaidOut c b.floats b.words floats₁ words₁ → Begun plan words₁ floats₁ rs floats₂
      → path' ≡ splice b.path 0 (replicate (2 * plan.room) plus_zero) → run ≡ new_run plan rs → Stands c b run (buffers floats₂ words₁ path')
  unfolding run_of new_run image at place0
  stands floats₁ floats₂ path' words₁ rs run l g p r =
      let e : rs ≡ (place0 c).field.solve.rs = g.sum ∙ rw (plan_of_lem, l.words_are, l.floats_are) (sum-opened c good b.floats floats_long spare) in
      let f : floats₂ ≡ floats_of c (place0 c) None (drop (floats_used c) b.floats) = g.floats_are ∙ rw (plan_of_lem, l.words_are, l.floats_are) (floats_opened c good b.floats floats_long spare) in
      let q : path' ≡ path_of c (place0 c) (drop (point_floats * c.room) b.path) = p ∙ ap (λ (x : Plan). splice b.path 0 (replicate (2 * x.room) plus_zero)) plan_of_lem ∙ path_opened in
      record {
        run_is = r ∙ rw (plan_of_lem, e);
        held = rw (f, q, l.words_are);
      }

-- ---- what opening answers

pub bytes_fit : {s : List ℕ} → ((i : ℕ) → Std.Fits Std.w8 (get_or s i 0)) → Bytes s
bytes_fit h = record { below = λ i. (h i).fits }

-- what the space of a plan lacks, its buffers lack
pub space_lacks : (p : Plan) (floats words path : ℕ) {a b c : ℕ} {l v : Bool} → a ≡ float_space p.n p.t p.limit → b ≡ word_space p.n p.t → c ≡ path_space p.room → l ≡ (ltb floats a || (ltb words b || ltb path c)) → l ≡ v
    → lacks p floats words path ≡ v
space_lacks p floats words path ea eb ec e h = let f : _ ≡ lacks p floats words path = rw (ea, eb, ec) at e in sym f ∙ h

module _ (sheet : List ℕ) (bytes : Bytes sheet) (h : Header) (said : Checked.Accepted h ≡ checked_of (parse sheet)) where
  pub is_read : Read sheet h
  is_read = read_of (is_accepted sheet h said) bytes

  plan_read : (plan : Plan) → plan ≡ plan_by h → plan ≡ plan_of (task (content_of sheet))
  unfolding task_of
  plan_read plan e = e ∙ ap plan_by is_read.is.header

  pub counted_read : (plan : Plan) → plan ≡ plan_by h → Counted plan
  counted_read plan e = rw (plan_read plan e) (counted (task (content_of sheet)) (sized_read is_read))

  module _ (b : Buffers) (plan : Plan) (e : plan ≡ plan_by h) where
    -- the space that the plan asks for is that of the task
    needed : lacking (needs (task (content_of sheet))) (lengths_of b) ≡ lacks plan (length b.floats) (length b.words) (length b.path)
    unfolding needs
    needed = ap (λ (x : Plan). lacks x (length b.floats) (length b.words) (length b.path)) (sym (plan_read plan e))

    pub suffices : lacks plan (length b.floats) (length b.words) (length b.path) ≡ false → (plan ≡ plan_by h) × Enough (needs (task (content_of sheet))) (lengths_of b)
    suffices k = (e, lacking_none (needs (task (content_of sheet))) (lengths_of b) (needed ∙ k))

    pub answers_short : lacks plan (length b.floats) (length b.words) (length b.path) ≡ true → Opens sheet b (answered 8 no_run) b
    answers_short k = opens_short sheet b (content_of sheet) is_read.is.parsed (needed ∙ k)

    pub answers_open : (run : Run) (b' : Buffers) → lacks plan (length b.floats) (length b.words) (length b.path) ≡ false → Stands (task (content_of sheet)) b run b' → Opens sheet b (answered 0 run) b'
    answers_open run b' k s = opens_open sheet b (content_of sheet) run b' is_read.is.parsed (needed ∙ k) s.run_is s.held

pub answers_refused : (sheet : List ℕ) (b : Buffers) (e : Refusal) (left : Result Run Refusal) → IsErrAnd left (λ y. y ≡ e) → Checked.Refused (number_of e) ≡ checked_of (parse sheet)
    → Opens sheet b (answer_of no_run left) b
answers_refused sheet b e left w h =
    let p = err_from_is_err_and left w in
    rw (p.1, p.2) (opens_refused sheet b (number_of e) (is_refused sheet (number_of e) h))
