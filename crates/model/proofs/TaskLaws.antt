-- The value at which a vertex of a content's task is held. Assumes nothing.
use Rattle.std.specs.Prelude.{ℕ, ◌≡◌, refl}
use Rattle.mesh.specs.Mesh.{held_value}
use Rattle.format.specs.Content.{Content}
use Rattle.model.specs.Task.{task_of}

pub task-held : (default : ℕ) (c : Content) → (task_of default c).held ≡ held_value
unfolding task_of
task-held default c = refl
