pub mod LawsLoops
pub mod LawsPass
