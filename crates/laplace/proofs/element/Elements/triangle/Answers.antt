use Rattle.laplace.proofs.LawsElement.{triangle_is, triangle-within}
use Rattle.laplace.proofs.element.Elements.triangle.Goals as goal

pub returns : goal.returns
returns c =
    let is = triangle_is _ _ _ c.as_chunks.ensures.front c.requires in
    record { is = is; below = λ n b. rw is (triangle-within n _ _ b c.requires) }
