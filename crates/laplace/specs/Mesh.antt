-- The mesh's lists, as crate mesh defines them. Definitions only. Assumes nothing.
unfoldable pub use Rattle.mesh.specs.Mesh.{vertex, tag_of, free, held_value}
pub use Rattle.mesh.specs.Mesh.{held}
