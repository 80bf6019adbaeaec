pub mod Solving
pub mod Crossing
