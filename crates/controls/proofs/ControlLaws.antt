-- What ties the calls on the numbers of a record to the calls on the record: where lists hold a record, a call on them answers and leaves what the call on the record does, and they hold the record after it; so a list of calls does. Assumes nothing.
use Rattle.std.specs.Prelude.{ℕ, zero, suc, ◌+◌, ◌*◌, ◌≤◌, Bool, true, false, ◌&&◌, ◌≡◌, refl, List, [], ◌∷◌, ◌++◌, eqb, leb, length, take, Float}
use Rattle.std.proofs.Common.{arith, sym, ap, ◌∙◌, subst, leb-true, ne_eqb, length-take-le}
use Rattle.binary64.specs.Number.{pick}
use Rattle.stretch.specs.Stretch.{part}
use Rattle.stretch.specs.StretchLaws.{length_part, part_zero}
use Rattle.pde.specs.Path.{point_floats}
use Rattle.format.specs.Content.{Content, max_vertices, max_triangles}
use Rattle.format.specs.Bytes.{Bytes}
use Rattle.format.specs.Sheet.{parse, accepted}
use Rattle.model.specs.Task.{task}
use Rattle.model.specs.Machine.{Call, Lent}
use Rattle.work.specs.declared.Plan.{Plan}
use Rattle.work.specs.declared.Run.{Run}
use Rattle.work.specs.Layout.{at_x, at_gradients, at_norms}
use Rattle.image.specs.Calls.{Buffers, held_fault, fault, run_after, buffers_after}
use Rattle.image.proofs.AcceptedLaws.{then_none}
use Rattle.image.specs.CallLaws.{refused_unchanged}
use Rattle.image.specs.Lists.{Held, front, behind, performed, performs, begun}
use Rattle.image.specs.Parts.{within, counted, field_of, norms_of, gradients_of}
use Rattle.image.specs.Points.{points_of}
use Rattle.image.specs.Replay.{opened}
use Rattle.image.specs.Shown.{lengths_of, machine, ListShown, HandedOut}
use Rattle.image.proofs.Theorem.{lists_from_sheet, handed_from_sheet}
use Rattle.showing.specs.declared.parts.Shown.{Shown}
use Rattle.showing.specs.declared.parts.Shown.TheVariants.{Field, Norms, Gradients}
use Rattle.showing.specs.Shown.{counted_or_0, part_of, shown_of}
use Rattle.records.specs.Numbers.{Listed, fits, run_from, run_put, Holds}
use Rattle.records.proofs.NumberLaws.{put_holds}
use Rattle.controls.specs.Controls.{held_fault_in, fault_in, open_fault_in, unless_refused, OpenedIn, Called, start_by, shown_at}
use Rattle.controls.specs.Lists.{HeldIn, called_in, calls_in, begun_in, held_of, Follows}

-- ---- one call

module _ (r : Run) (l : Listed) (h : Holds r l) where
  -- what refuses the record refuses its numbers, and nothing else does
  pub held_fault_in_lem : (b : Buffers) → held_fault_in l b ≡ held_fault r b
  unfolding held_fault_in
  held_fault_in_lem b = rw (h.fit, h.flags, h.reads)

  pub fault_in_lem : (c : Call) (b : Buffers) → fault_in c l b ≡ fault c r b
  unfolding fault_in fault
  fault_in_lem c b = rw (held_fault_in_lem b, h.reads)

  -- the lists after a call hold the record after it
  pub called_holds : (c : Call) (b : Buffers)
      → Holds (run_after c r b) (unless_refused (fault_in c l b) (run_put (run_after c (run_from l) b) l) l)
  called_holds c b = rw (fault_in_lem c b, h.reads) (go (fault c r b) refl)
    where
      go : (k : ℕ) → fault c r b ≡ k → Holds (run_after c r b) (pick (eqb k 0) (run_put (run_after c r b) l) l)
      go zero e = put_holds (run_after c r b) l h.fit
      go (suc k) e = rw (ne_eqb (suc k) 0 (λ z. omega (arith, z)), (refused_unchanged c r b (λ z. omega (arith, e, z))).0) h

  -- and the buffers are the call's
  pub called_buffers : (c : Call) (b : Buffers) → unless_refused (fault_in c l b) (buffers_after c (run_from l) b) b ≡ buffers_after c r b
  called_buffers c b = rw (fault_in_lem c b, h.reads) (go (fault c r b) refl)
    where
      go : (k : ℕ) → fault c r b ≡ k → pick (eqb k 0) (buffers_after c r b) b ≡ buffers_after c r b
      go zero e = refl
      go (suc k) e = rw (ne_eqb (suc k) 0 (λ z. omega (arith, z))) (sym (refused_unchanged c r b (λ z. omega (arith, e, z))).1)

-- ---- a list of calls

called_follows : (l : Lent) (h : Held) (n : HeldIn) → Follows h n → Follows (performed l h) (called_in l n)
unfolding performed called_in
called_follows l h n f = rw f.all (record {
  holds = called_holds h.run n.lists f.holds l.call (front l.space h.all);
  all = ap (behind l.space h.all) (called_buffers h.run n.lists f.holds l.call (front l.space h.all));
  said = rw (f.said, fault_in_lem h.run n.lists f.holds l.call (front l.space h.all));
})

-- Whatever list of calls is made on the numbers of a record, and whatever is lent, refusals and buffers are those of the calls on the record, and the numbers are its record's.
pub calls_follow : (ls : List Lent) (h : Held) (n : HeldIn) → Follows h n → Follows (performs ls h) (calls_in ls n)
unfolding performs calls_in
calls_follow [] h n f = f
calls_follow (l ∷ ls) h n f = calls_follow ls (performed l h) (called_in l n) (called_follows l h n f)

-- an opened sheet's numbers hold its record
pub opened_holds : (sheet : List ℕ) (l : Listed) (b : Buffers) → open_fault_in sheet l b ≡ 0 → ((opened sheet b).answer.refused ≡ 0) × Holds (opened sheet b).answer.run (run_put (opened sheet b).answer.run l)
unfolding open_fault_in
opened_holds sheet l b e =
    let s = then_none (opened sheet b).answer.refused (pick (fits l) 0 8) e in
    (s.0, put_holds (opened sheet b).answer.run l (fitted (fits l) s.1))
  where
    fitted : (t : Bool) → pick {A = ℕ} t 0 8 ≡ 0 → t ≡ true
    fitted true z = refl
    fitted false z = absurd (omega (arith, z))

-- ---- what the contracts say is what the lists are made of

-- a call as its contract (`Called`) leaves it, on the front of each buffer
pub called_is : (c : Lent) (h : HeldIn) (r : ℕ) (l' : Listed) (b' : Buffers) → Called c.call h.lists (front c.space h.all) r l' b'
    → record { lists = l'; all = behind c.space h.all b'; said = h.said ++ (r ∷ []) } ≡ called_in c h
unfolding called_in
called_is c h r l' b' s = rw (s.said, s.lists, s.held)

-- an opening as its contract (`OpenedIn`) leaves it, where it is not refused
pub opened_is : (sheet : List ℕ) (l : Listed) (b : Buffers) (l' : Listed) (b' : Buffers) → OpenedIn sheet l b 0 l' b'
    → (open_fault_in sheet l b ≡ 0) × (record { lists = l'; all = b'; said = [] } ≡ begun_in sheet l b)
opened_is sheet l b l' b' o =
    let e : open_fault_in sheet l b ≡ 0 = sym o.said in
    let p : l' ≡ run_put (opened sheet b).answer.run l = o.lists ∙ rw e in
    let s : b' ≡ (opened sheet b).all = o.held ∙ rw e in
    (e, rw (p, s))

-- ---- demand 3 under C names

follows_is : (h : Held) (n : HeldIn) → Follows h n → held_of n ≡ h
follows_is h n f = rw (f.holds.reads, f.all, f.said)

-- From a sheet that was opened on lists of numbers, whatever calls are made on them and whatever is lent: they come to what the calls on the record come to.
pub opened_calls_follow : (sheet : List ℕ) (l : Listed) (b : Buffers) → open_fault_in sheet l b ≡ 0 → (ls : List Lent)
    → Follows (performs ls (begun (opened sheet b).answer.run (opened sheet b).all)) (calls_in ls (begun_in sheet l b))
opened_calls_follow sheet l b e ls =
    calls_follow ls (begun (opened sheet b).answer.run (opened sheet b).all) (begun_in sheet l b) (record { holds = (opened_holds sheet l b e).1; all = refl; said = refl })

module _ (sheet : List ℕ) (h : Bytes sheet) (l : Listed) (b : Buffers) (c : Content) (e : parse sheet ≡ accepted c) (o : open_fault_in sheet l b ≡ 0) (ls : List Lent) where
  as_performed : held_of (calls_in ls (begun_in sheet l b)) ≡ performs ls (begun (opened sheet b).answer.run (opened sheet b).all)
  as_performed = follows_is (performs ls (begun (opened sheet b).answer.run (opened sheet b).all)) (calls_in ls (begun_in sheet l b)) (opened_calls_follow sheet l b o ls)

  -- refusals, place and passes are the counter machine's, and what is shown is the uninterrupted run's, as `lists_from_sheet` says of the record
  pub lists_under_c : ListShown (task c) (machine (task c) (lengths_of b) ls) (held_of (calls_in ls (begun_in sheet l b)))
  lists_under_c = rw as_performed (lists_from_sheet sheet h b c e (opened_holds sheet l b o).0 ls)

  -- and the parts that are handed out are its field, norms, gradients and points
  pub handed_under_c : HandedOut (task c) (machine (task c) (lengths_of b) ls).counter (held_of (calls_in ls (begun_in sheet l b))).run (held_of (calls_in ls (begun_in sheet l b))).all
  handed_under_c =
      subst (λ (x : Held). HandedOut (task c) (machine (task c) (lengths_of b) ls).counter x.run x.all) (sym as_performed) (handed_from_sheet sheet h b c e (opened_holds sheet l b o).0 ls)

-- ---- what is handed out

-- a part of the floats is found by its start and its count, empty ones too
found : (floats : List Float) (at count : ℕ) → at + count ≤ length floats → part floats (start_by at (length (part floats at count))) (length (part floats at count)) ≡ part floats at count
found floats at count fit = rw (length_part floats at count fit) (go count)
  where
    go : (count : ℕ) → part floats (start_by at count) count ≡ part floats at count
    go zero = part_zero floats 0 ∙ sym (part_zero floats at)
    go (suc k) = rw (ne_eqb (suc k) 0 (λ z. omega (arith, z)))

counted_found : (p : Plan) (floats : List Float) (at count : ℕ) → part floats (start_by (counted_or_0 p at) (length (counted p (within floats at count)))) (length (counted p (within floats at count))) ≡ counted p (within floats at count)
unfolding within
counted_found p floats at count = go (leb p.n max_vertices) (leb p.t max_triangles) (leb (at + count) (length floats)) (leb-true (at + count) (length floats))
  where
    shown : Bool → Bool → Bool → List Float
    shown a b w = pick a (pick b (pick w (part floats at count) []) []) []

    go : (a b w : Bool) → (w ≡ true → at + count ≤ length floats) → part floats (start_by (pick (a && b) at 0) (length (shown a b w))) (length (shown a b w)) ≡ shown a b w
    go true true true h = found floats at count (h refl)
    go true true false h = part_zero floats 0
    go true false w h = part_zero floats 0
    go false b w h = part_zero floats 0

-- what is shown of the floats
pub shown_found : (s : Shown) (r : Run) (floats : List Float) → part floats (start_by (shown_at s r) (length (shown_of s r floats))) (length (shown_of s r floats)) ≡ shown_of s r floats
unfolding part_of field_of norms_of gradients_of
shown_found Field r floats = counted_found r.plan floats (at_x r.plan.n r.plan.t) r.plan.n
shown_found Norms r floats = counted_found r.plan floats (at_norms r.plan.n r.plan.t) r.stand.norms
shown_found Gradients r floats = counted_found r.plan floats (at_gradients r.plan.n r.plan.t) (2 * r.plan.t)

module _ (r : Run) (floats : List Float) where
  pub field_found : part floats (start_by (shown_at Field r) (length (field_of r floats))) (length (field_of r floats)) ≡ field_of r floats
  field_found = shown_found Field r floats

  pub norms_found : part floats (start_by (shown_at Norms r) (length (norms_of r floats))) (length (norms_of r floats)) ≡ norms_of r floats
  norms_found = shown_found Norms r floats

  pub gradients_found : part floats (start_by (shown_at Gradients r) (length (gradients_of r floats))) (length (gradients_of r floats)) ≡ gradients_of r floats
  gradients_found = shown_found Gradients r floats

-- points stand in front
pub points_found : (r : Run) (path : List Float) → part path (start_by 0 (length (points_of r path))) (length (points_of r path)) ≡ points_of r path
unfolding points_of part
points_found r path = go (leb (point_floats * r.stand.walk.points) (length path)) (leb-true (point_floats * r.stand.walk.points) (length path))
  where
    zeros : (k : ℕ) → start_by 0 k ≡ 0
    zeros zero = refl
    zeros (suc k) = rw (ne_eqb (suc k) 0 (λ z. omega (arith, z)))

    shown : Bool → List Float
    shown t = pick t (take (point_floats * r.stand.walk.points) path) []

    go : (t : Bool) → (t ≡ true → point_floats * r.stand.walk.points ≤ length path) → part path (start_by 0 (length (shown t))) (length (shown t)) ≡ shown t
    go true h = rw (zeros (length (take (point_floats * r.stand.walk.points) path)), length-take-le (point_floats * r.stand.walk.points) path (h refl))
    go false h = refl
