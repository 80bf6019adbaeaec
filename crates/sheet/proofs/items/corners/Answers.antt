-- `sheet::items::corners` meets its contract: the three numbers of a triangle that is whole are read, and else the answer is 0.
-- Assumes nothing.
use native.Mathlib.Omega.{arith}
use mathlib.Core.Path.{◌≡◌, ◌∙◌}
use Prim.Native.Nat.{ℕ, ◌+◌, ◌*◌, ◌<◌}
use lib.ListN.{length}
use borrow.Author.Rules.{rules}
use Rattle.sheet.specs.Items.{whole_in, corners_in, triple}
use Rattle.sheet.proofs.Pieces.{corner_in, an_item, no_item}
use Rattle.sheet.proofs.items.corners.Goals as goal

pub returns-in-Some : goal.returns-in-Some
unfolding corners_in
returns-in-Some c =
    let a = c.args in
    let item = c.in-Some.item.now in
    let found = c.in-Some.ensures.lookup in
    let items = c.as_chunks.ensures in
    let l : length item ≡ 12 = search rules in
    let at : (j k : ℕ) → j < 3 → 3 * a.t + j ≡ k → whole_in item j ≡ whole_in a.part.now k = λ j k. corner_in a.t j k a.part.now _ item items.front items.front_len found.3.0 found.1 l in
    let p = c.corner-a.ensures ∙ at 0 (3 * a.t) (omega arith) (omega arith) in
    let q = c.corner-b.ensures ∙ at 1 (3 * a.t + 1) (omega arith) (omega arith) in
    let r = c.corner-c.ensures ∙ at 2 (3 * a.t + 2) (omega arith) (omega arith) in
    (λ i. triple (p i) (q i) (r i)) ∙ an_item _ _ _ _ _ found.0 items.front_len

pub returns-in-None : goal.returns-in-None
unfolding corners_in
returns-in-None c = no_item _ _ _ _ _ c.in-None.ensures.lookup.0 c.as_chunks.ensures.front_len
