-- The parts are those of the two buffers, and each is filled by itself. Assumes nothing.
-- The splits are named in both answers: their facts are fields of two steps, whose types have names of Rattle's own alone, so that no helper can be written over either; a law over the facts (`float_parts`, `word_parts`) has to be given each.
use Rattle.std.proofs.Common.{arith, ◌∙◌}
use lib.Seq.{length-take-le}
use Rattle.assembly.proofs.SplitLaws.{part_is, float_parts, word_parts, lengths_are, assembled}
use Rattle.assembly.proofs.assemble.Goals as goal

pub fill_slices-requires : goal.fill_slices-requires
fill_slices-requires c =
    let lf = c.requires.0 in
    let lw = c.requires.1 in
    let a₀ = c.split_at_mut-front.ensures in
    let a₁ = c.split_at_mut-right.ensures in
    let a₂ = c.split_at_mut-row.ensures in
    let b₀ = c.split_at_mut-mesh_words.ensures in
    let b₁ = c.split_at_mut-starts.ensures in
    let b₂ = c.split_at_mut-cols.ensures in
    let b₃ = c.split_at_mut-heads.ensures in
    let b₄ = c.split_at_mut-links.ensures in
    lengths_are _ _ _ _ _ lf lw _ _ _ _ _ _ _ _ _ _
    (float_parts _ _ _ _ _ _ _ _ _ _ lf a₀.value a₀.front_len a₁.value a₁.front_len a₂.value a₂.front_len)
    (word_parts _ _ _ _ _ _ _ _ _ _ _ _ _ _ lw b₀.value b₀.front_len b₁.value b₁.front_len b₂.value b₂.front_len b₃.value b₃.front_len b₄.value b₄.front_len)
    _ (part_is _ _ _ _ _ a₀.front (omega (arith, lf))) (part_is _ _ _ _ _ b₀.front (omega (arith, lw))) (part_is _ _ _ _ _ b₀.front (omega (arith, lw)))

pub returns : goal.returns
returns c =
    let lf = c.requires.0 in
    let lw = c.requires.1 in
    let a₀ = c.split_at_mut-front.ensures in
    let a₁ = c.split_at_mut-right.ensures in
    let a₂ = c.split_at_mut-row.ensures in
    let b₀ = c.split_at_mut-mesh_words.ensures in
    let b₁ = c.split_at_mut-starts.ensures in
    let b₂ = c.split_at_mut-cols.ensures in
    let b₃ = c.split_at_mut-heads.ensures in
    let b₄ = c.split_at_mut-links.ensures in
    assembled _ _ _ _ _ lf lw _ _ _ _ _ _ _ _ _ _
    (float_parts _ _ _ _ _ _ _ _ _ _ lf a₀.value a₀.front_len a₁.value a₁.front_len a₂.value a₂.front_len)
    (word_parts _ _ _ _ _ _ _ _ _ _ _ _ _ _ lw b₀.value b₀.front_len b₁.value b₁.front_len b₂.value b₂.front_len b₃.value b₃.front_len b₄.value b₄.front_len)
    _ _ _ _ (part_is _ _ _ _ _ a₀.front (omega (arith, lf))) (part_is _ _ _ _ _ b₀.front (omega (arith, lw))) (part_is _ _ _ _ _ b₀.front (omega (arith, lw)))
    _ _ _ _ _ _ _ _ _ (c.fill_slices.auto.right ∙ length-take-le c.args.n _ (omega (arith, a₁.front_len, lf))) c.fill_slices.ensures
