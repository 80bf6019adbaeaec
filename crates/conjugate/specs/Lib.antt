pub mod Solver
pub mod Passes
pub mod SolverLaws
pub mod Placed
pub mod PlacedLaws
pub mod Beside
pub mod BesideLaws
