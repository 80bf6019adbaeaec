-- `make` meets its contract. The loop's invariant: record, buffers and refusals are those after the calls made so far. Assumes nothing.
use borrow.Author.Rules.{rules}
use Prim.Native.Nat.{◌/◌, ◌<◌, min}
use mathlib.Core.Path.{◌≡◌, refl, sym, ap, ◌∙◌}
use mathlib.Core.List.{◌++◌}
use native.Mathlib.Omega.{arith}
use lib.ListN.{length, length-set}
use lib.Seq.{length-take-le}
use Rattle.image.specs.Calls.{buffers, answered}
use Rattle.image.specs.Lists.{Held}
use Rattle.image.proofs.ReplayLaws.{replayed_none}
use Rattle.run.proofs.Laws.{made_more, row_taken}
use Rattle.run.proofs.replaying.make.Goals as goal
use Rattle.run.proofs.replaying.make.Goals.{in-Ok, in-Err}

pub loop-i-init : goal.loop-i-init
loop-i-init c =
    let a = c.args in
    let e = replayed_none a.calls.now a.run (buffers a.floats.now a.words.now a.path.now) in (
      omega arith,
      refl,
      refl,
      refl,
      sym (ap (λ (h : Held). h.run) e),
      sym (ap (λ (h : Held). h.all) e),
      sym (ap (λ (h : Held). h.said ++ a.said.now) e),
    )

pub loop-i-preserved : goal.loop-i-preserved
loop-i-preserved c =
    let a = c.args in
    let s = c.loop-i in
    let t = c.turn in
    let v = s.invariant in
    let rows = c.as_chunks.result.0.now in
    let count = c.min-count.result in
    let long = length-take-le count rows (omega (arith, c.min-count.ensures)) in
    let k : s.i < length a.said.now = omega (arith, c.min-count.ensures, long) in
    let row = row_taken a.calls.now rows _ count s.i c.as_chunks.ensures.front (omega (arith, long)) (omega (arith, c.min-count.ensures, c.as_chunks.ensures.front_len, long)) in
    elim c.match-turn.branch [
      | in-Ok w ↦
          let m = made_more a.calls.now s.i a.run (buffers a.floats.now a.words.now a.path.now) a.said.now s.held (buffers s.floats a.words.now s.path) s.said (answered 0 w.in-Ok.next)
          (buffers t.new.floats a.words.now t.new.path) k v.4 v.5 v.6 (rw (w.in-Ok.is, row) at t.ensures) in
          rw (w.said-is, w.held-is) (omega (arith, long), simp length-set v.1, t.auto.floats ∙ v.2, t.auto.path ∙ v.3, m.0, m.1, m.2)
      | in-Err w ↦
          let m = made_more a.calls.now s.i a.run (buffers a.floats.now a.words.now a.path.now) a.said.now s.held (buffers s.floats a.words.now s.path) s.said (answered _ s.held)
          (buffers t.new.floats a.words.now t.new.path) k v.4 v.5 v.6 (rw (w.in-Err.is, row) at t.ensures) in
          rw (w.said-is, w.held-is, w.number.ensures) (omega (arith, long), simp length-set v.1, t.auto.floats ∙ v.2, t.auto.path ∙ v.3, m.0, m.1, m.2)
    ]

pub returns : goal.returns
returns c =
    let a = c.args in
    let s = c.loop-i in
    let long = length-take-le c.min-count.result c.as_chunks.result.0.now (omega (arith, c.min-count.ensures)) in
    let e : s.i ≡ min (length a.said.now) (length a.calls.now / 6) = omega (arith, c.min-count.ensures, c.as_chunks.ensures.front_len, long) in
    record { left = rw e at s.invariant.4; told = rw e at s.invariant.6; held = rw e at s.invariant.5 }
