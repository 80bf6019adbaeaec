pub mod Mesh
pub mod Element
pub mod Pair
pub mod Work
pub mod WorkLaws
pub mod Stands
