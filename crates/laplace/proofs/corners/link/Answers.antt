-- The heads are those of the corners passed, and their links stand. Assumes nothing.
use Rattle.std.proofs.Common.{rules, arith, ℕ, sym, ap, ◌∙◌, ◌≡◌, length, take_all}
use Rattle.std.proofs.Math.ListN.{drop}
use Rattle.std.specs.Iterator.Adapters.{enumerate_source, rev_source}
use Rattle.std.specs.Slice.Iter.{iter_rest}
use Rattle.laplace.specs.Corners.{heads_from}
use Rattle.laplace.proofs.LawsCorners.{scan_below, scan_left, scan_heads, scan_links, scan_none, scan-no_links, scan_done}
use Rattle.laplace.proofs.corners.link.Goals as goal

pub loop-c-init : goal.loop-c-init
loop-c-init c =
    let ts = c.args.triangles.now in
    let start : iter_rest (enumerate_source (rev_source c.into_iter-c-iterator.result)) ≡ ts = search rules in
    rw start
    record {
      left = sym (take_all (length ts) ts (omega arith));
      numbered = search rules;
      heads =
          c.fill.ensures.after (λ y h. search rules) ∙ sym (scan_none ts (length c.args.heads.now) (length ts) (omega arith))
          ∙ ap (λ (n : ℕ). heads_from (length ts) (drop (length ts) ts) n) (sym c.fill.ensures.len);
      links = sym (scan-no_links _ _ _ (omega arith));
    }

pub bounds-heads-v : goal.bounds-heads-v
bounds-heads-v c =
    let s = c.in-Some.ensures.steps in
    omega (arith, scan_below _ _ c.requires.corners _ _ c.in-Some.field-0-1.now c.in-Some.c c.loop-c.invariant.left s.1.0 (omega arith))

pub bounds-heads-v-in-loop-c : goal.bounds-heads-v-in-loop-c
bounds-heads-v-in-loop-c c =
    let s = c.in-Some.ensures.steps in
    omega (arith, scan_below _ _ c.requires.corners _ _ c.in-Some.field-0-1.now c.in-Some.c c.loop-c.invariant.left s.1.0 (omega arith))

pub loop-c-preserved : goal.loop-c-preserved
loop-c-preserved c =
    let s = c.in-Some.ensures.steps in
    let v = c.loop-c.invariant in
    let b = rw (← c.fill.ensures.len) at c.requires.corners in
    record {
      left = scan_left _ _ b _ _ _ c.in-Some.c v.left s.1.0 (omega arith);
      numbered = omega arith;
      heads = scan_heads _ _ b _ _ _ _ v.left s.1.0 (omega arith) _ v.heads;
      links = scan_links _ _ b _ _ _ _ v.left s.1.0 (omega arith) _ v.heads _ _ v.links;
    }

pub returns-clause-next : goal.returns-clause-next
returns-clause-next c =
    let s = c.loop-c.invariant in
    rw (c.in-None.ensures.steps.1.0) at s.links ∙ scan_done c.args.triangles.now c.args.links.now c.requires.places
