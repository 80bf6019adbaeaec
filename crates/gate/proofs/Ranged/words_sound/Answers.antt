-- `Ranged::words_sound` meets its contract: the four scans are those of the definition, each of the part where its list stands. Assumes nothing.
use Rattle.std.specs.Prelude.{◌≡◌, refl, ℕ, ◌*◌, List, take}
use Rattle.std.proofs.Common.{arith, ◌∙◌, ap}
use Rattle.stretch.specs.Stretch.{part}
use Rattle.stretch.specs.StretchLaws.{part_lent}
use Rattle.sparse.specs.Scan.{all_below}
use Rattle.image.specs.Calls.{all_none_or_below, words_sound}
use Rattle.gate.proofs.Ranged.words_sound.Goals as goal

-- what stands first
front : {A : Type 0} (l : List A) (n : ℕ) → take n l ≡ part l 0 n
unfolding part
front l n = refl

pub returns : goal.returns
unfolding words_sound
returns c =
    let ws = c.args.words.now in
    let n = c.args.self.now.counted.plan.n in
    let t = c.args.self.now.counted.plan.t in
    let corners = c.all_below-corners.ensures ∙ ap (all_below n) (front ws (3 * t)) in
    let behind = rw c.places-tags.ensures at c.all_none_or_below-neighbours.ensures in
    let neighbours = behind ∙ ap (all_none_or_below t) (part_lent ws (3 * t) (6 * t) (3 * t) (omega arith)) in
    let starts = rw (c.entries.ensures, c.row_words.ensures.starts) at c.starts_rise-rising.ensures in
    let columns = rw c.row_words.ensures.columns at c.all_below-within.ensures in
    rw (corners, neighbours, starts, columns)
